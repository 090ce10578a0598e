-- What is shown is drawn: no number of a plate is over 1,000 dBi. Assumes nothing.
use Prim.Native.Nat.{ℕ, ◌≤◌, max}
use mathlib.Core.Path.{◌≡◌, sym, ap, ◌∙◌, subst}
use mathlib.Core.List.{List}
use native.Mathlib.Omega.{arith}
use borrow.Author.Tests.{le-ltb}
use lib.IntN.{ℤ, negsuc}
use lib.ListN.{get_or-map}
use Rattle.answers.specs.Outcome.{accepted}
use Rattle.answers.proofs.Outcome.{same}
use Rattle.hundredths.specs.Raised.{raised_of}
use Rattle.hundredths.proofs.Raised.{raised-le}
use Rattle.answers.specs.declared.Kind.TheVariants.{Level}
use Rattle.request.proofs.Then.{then_only}
use Rattle.dial.specs.Scale.{peak_azimuth, peak_of}
use Rattle.dial.proofs.Laws.{peak-place}
use Rattle.shown.specs.Plate.{Entry}
use Rattle.shown.specs.Rows.{raised, numbers_of}
use Rattle.shown.specs.Shown.{shown_of}
use Rattle.shown_laws.specs.ShownLaw.{Spanned}
use Rattle.shown_laws.proofs.ShownLaw.{shown_law}
use Rattle.picture.specs.Picture.{picture_in}
use Rattle.pair.specs.Pair.{greater_peak, pair_in}
use Rattle.svg_text.specs.Drawn.{Drawn, drawn_of}
use Rattle.svg_text.specs.Svg.{pictured, svg_in, beside_in, both_in, svg_two_in}
use Rattle.always_drawn.specs.AlwaysDrawn.{AlwaysDrawn}

-- ---- no number of a row is over 200,000

spanned-le : {e : Entry} → Spanned e → raised e.1 ≤ 200000
unfolding raised raised_of
spanned-le s = subst (λ (z : ℤ). raised z ≤ 200000) (sym s.number) (raised-le s.gain s.in_span_lem)

-- the entry that stands for none: its number is 0
none : Entry
none = (Level, negsuc 99999)

peak-le : (input : List ℕ) {entries : List Entry} → shown_of input ≡ accepted entries → peak_of (numbers_of entries) ≤ 200000
unfolding peak_of numbers_of raised none
peak-le input {entries} shown =
    let v = peak_azimuth (numbers_of entries) in
    subst (λ (n : ℕ). n ≤ 200000) (sym (get_or-map (λ (e : Entry). raised e.1) entries v none))
    (spanned-le (shown_law.spanned input shown none v (peak-place (numbers_of entries))))

drawn-le : (input : List ℕ) {d : Drawn} → drawn_of input ≡ accepted d → peak_of d.numbers ≤ 200000
unfolding drawn_of
drawn-le input told =
    let plate = then_only _ _ told in
    let heading = then_only _ _ plate.follows in
    subst (λ (d : Drawn). peak_of d.numbers ≤ 200000) (same heading.follows) (peak-le input plate.accepts)

-- ---- the pictures

pub always_drawn_lem : AlwaysDrawn
unfolding svg_in pictured picture_in svg_two_in both_in beside_in pair_in greater_peak
always_drawn_lem =
    record {
      one = λ room input fold {d} roomy told.
          ap (pictured room fold) told ∙ rw (le-ltb room 65536 roomy, le-ltb 200000 (peak_of d.numbers) (drawn-le input told));
      two = λ room first second {a} {b} roomy told also.
          let most : max (peak_of a.numbers) (peak_of b.numbers) ≤ 200000 = omega (arith, drawn-le first told, drawn-le second also) in
          rw (told, also, le-ltb room 131072 roomy, le-ltb 200000 (max (peak_of a.numbers) (peak_of b.numbers)) most);
    }
