-- The bytes of a station, laid one behind the other. Assumes nothing.
use mathlib.Core.Path.{◌≡◌, sym, ap, ◌∙◌}
use mathlib.Core.Bool.{true}
use mathlib.Core.List.{List, ◌++◌, append_assoc}
use Prim.Native.Nat.{ℕ, ◌≤◌}
use native.Mathlib.Omega.{arith}
use lib.ListN.{length, drop}
use borrow.Author.Tests.{le-leb, eq-eqb}
use Rattle.words.specs.Laid.{laid}
use Rattle.words.specs.Writing.{Wrote}
use Rattle.words.proofs.Laid.{laid_front, laid-whole}
use Rattle.words.proofs.Writing.{then}
use Rattle.words.proofs.Digits.{length_digits}
use Rattle.floats.specs.Ranges.{all_finite}
use Rattle.station.specs.declared.Station.{Station}
use Rattle.answers.specs.declared.Refusal.{Refusal}
use Rattle.std.specs.Prelude.{Result, Ok, Err, IsOk}
use Rattle.std.proofs.Common.{rules}
use Rattle.station.specs.Header.{typeless}
use Rattle.station.specs.Record.{floats_of, packed, record_of}
use Rattle.station.specs.Answers.{answer, write_of}

pub record_length : (s : Station) → length (record_of 0 s) ≡ 225
unfolding record_of packed
record_length s = length_digits 256 225 _

-- what the record's writer answers and leaves of 225 bytes
module _ {X : Type 0} (s : Station) (lent left : List ℕ) where
  pub record_taken : (r : Result X Refusal) → all_finite (floats_of s) ≡ true → s.mode ≤ 3 → length lent ≡ 225 → answer r left ≡ write_of 0 s lent → IsOk r
  unfolding write_of typeless
  record_taken (Ok x) f m n e = search rules
  record_taken (Err k) f m n e = let it = rw (f, le-leb s.mode 3 m, eq-eqb (length lent) 225 n) at e in cc

  pub record_written : (r : Result X Refusal) → all_finite (floats_of s) ≡ true → s.mode ≤ 3 → length lent ≡ 225 → answer r left ≡ write_of 0 s lent → left ≡ record_of 0 s
  unfolding write_of typeless
  record_written (Ok x) f m n e = let it = rw (f, le-leb s.mode 3 m, eq-eqb (length lent) 225 n) at e in cc
  record_written (Err k) f m n e = let it = rw (f, le-leb s.mode 3 m, eq-eqb (length lent) 225 n) at e in cc

-- 225 bytes over the first, and three words behind them
pub bytes-laid : (out r a b c : List ℕ) {first second third last : List ℕ} → length out ≡ 237 → length r ≡ 225 → length a ≡ 4 → length b ≡ 4 → length c ≡ 4
    → first ≡ r ++ drop 225 out → second ≡ laid first 225 a → third ≡ laid second 229 b → last ≡ laid third 233 c → last ≡ r ++ (a ++ (b ++ c))
bytes-laid out r a b c {first} {second} {third} {last} n lr la lb lc e f g h =
    let w : Wrote out 0 r first 225 = record { bytes = e ∙ ap (λ (k : ℕ). r ++ drop k out) (sym lr) ∙ sym (laid_front out r); after = omega arith } in
    let u : Wrote first 225 a second 229 = record { bytes = f; after = omega arith } in
    let v : Wrote second 229 b third 233 = record { bytes = g; after = omega arith } in
    let t : Wrote third 233 c last 237 = record { bytes = h; after = omega arith } in
    let all = then (then (then w u (omega arith)) v (omega arith)) t (omega arith) in
    all.bytes ∙ laid-whole out (((r ++ a) ++ b) ++ c) (omega (arith, all.after)) ∙ simp append_assoc
