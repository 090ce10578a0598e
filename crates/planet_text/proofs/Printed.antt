-- What the program prints, in a buffer that has room for any text. Assumes nothing.
use Prim.Native.Nat.{ℕ, ◌≤◌}
use mathlib.Core.Path.{◌≡◌, sym, ap, ◌∙◌}
use mathlib.Core.List.{List}
use native.Mathlib.Omega.{arith}
use borrow.Author.Tests.{le-ltb}
use lib.ListN.{length}
use Rattle.std.specs.Prelude.{Result, Ok, Err}
use Rattle.answers.specs.declared.Refusal.{Refusal}
use Rattle.answers.specs.Outcome.{Outcome, refused, accepted, number, outcome}
use Rattle.answers.proofs.Outcome.{same}
use Rattle.words.specs.Laid.{laid}
use Rattle.words.specs.Writing.{Wrote}
use Rattle.words.proofs.Laid.{laid-length}
use Rattle.request.specs.Request.{and_then}
use Rattle.text.specs.Lines.{refusal_line}
use Rattle.text.proofs.Laws.{printed_refused, printed_accepted}
use Rattle.planet_text.specs.Planet.{planet_text, in_room, length_of, lent_after, planet_of, text_after, output_in}
use Rattle.planet_text.proofs.Accepted.{text_short, enough-room}
use Rattle.request.proofs.Then.{then_only}

refused-only : (o : Outcome (List ℕ)) (n : ℕ) → refused n ≡ length_of o → o ≡ refused n
unfolding length_of and_then
refused-only (refused m) n e = let f : m ≡ n = cc in ap refused f
refused-only (accepted s) n e = let z : ◌≡◌ {A = ℕ} 0 1 = cc in absurd (omega arith)

module _ (input before : List ℕ) (room : 8960 ≤ length before) where
  roomy : in_room (length before) (planet_text input) ≡ planet_text input
  roomy = enough-room input (length before) room

  module _ (r : Result ℕ Refusal) (after : List ℕ) (answered : outcome r ≡ planet_of input (length before)) (lent : after ≡ text_after input before) where
    pub output_refused : (e : Refusal) → r ≡ Err e → (refusal_line (number e) ≡ output_in (length before) input) × (after ≡ before)
    unfolding output_in lent_after
    output_refused r told =
        let e : planet_text input ≡ refused (number r) = refused-only (planet_text input) (number r) (sym (ap outcome told) ∙ answered ∙ ap length_of roomy) in
        (sym (rw (le-ltb (length before) 8960 room) (printed_refused _ _ (number r) e)), lent ∙ ap (λ (o : Outcome (List ℕ)). lent_after o before) (roomy ∙ e))

    pub output_written : (n : ℕ) → r ≡ Ok n → Wrote before 0 (output_in (length before) input) after n × (length (output_in (length before) input) ≤ length after)
    unfolding output_in lent_after length_of
    output_written n told =
        let long = then_only _ _ (sym (sym (ap outcome told) ∙ answered ∙ ap length_of roomy)) in
        let s = long.first in
        let e = long.accepts in
        let short : length s ≤ 8738 = text_short input e in
        let laid-over : after ≡ laid before 0 s = lent ∙ ap (λ (o : Outcome (List ℕ)). lent_after o before) (roomy ∙ e) in
        let n-is : length s ≡ n = same long.follows in
        let same-room : length after ≡ length before = ap length laid-over ∙ laid-length before 0 s (omega arith) in
        rw (le-ltb (length before) 8960 room, printed_accepted _ _ s e) (record { bytes = laid-over; after = omega arith }, omega arith)
