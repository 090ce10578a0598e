-- How long the remarks are, and each of their parts. Assumes nothing.
use Prim.Native.Nat.{ℕ, ◌≤◌}
use mathlib.Core.Bool.{Bool, true, false, cond, ◌&&◌}
use mathlib.Core.List.{List, []}
use native.Mathlib.Omega.{arith}
use lib.Dec.{lit≤, eqb}
use lib.ListN.{length, length-append}
use lib.Ieee.{Float}
use Rattle.quoted.specs.Quoted.{quoted}
use Rattle.numerals.proofs.Laws.{numeral-length}
use Rattle.answers.specs.Outcome.{Outcome, refused, accepted}
use Rattle.answers.specs.declared.Kind.{Kind}
use Rattle.remarks.specs.Directions.{floors_to, limits_to}
use Rattle.remarks.specs.Remarks.{band_remark, directions, limit_line, limit_remark, row_remarks, remarked, plate_remarks, remarks_of}

pub band-length : (off : Bool) → length (band_remark off) ≤ 59
unfolding band_remark quoted
band-length true = lit≤ tt
band-length false = lit≤ tt

pub directions-length : (n : ℕ) → length (directions n) ≤ 15
unfolding directions quoted
directions-length n = go (eqb n 1)
  where
    go : (one : Bool) → length (cond one (quoted " direction is") (quoted " directions are")) ≤ 15
    go true = lit≤ tt
    go false = lit≤ tt

line-length : (n : ℕ) → length (limit_line n) ≤ 95
unfolding limit_line quoted
line-length n = simp length-append (omega (arith, numeral-length 10 n, directions-length n))

limit-length : (n : ℕ) → length (limit_remark n) ≤ 95
unfolding limit_remark
limit-length n = go (eqb n 0)
  where
    go : (none : Bool) → length (cond none [] (limit_line n)) ≤ 95
    go true = lit≤ tt
    go false = line-length n

row-length : (off : Bool) (answers relative : ℕ → Outcome (Kind × Float)) → length (row_remarks off answers relative) ≤ 154
unfolding row_remarks
row-length off answers relative = simp length-append (omega (arith, band-length (off && floors_to answers 360), limit-length (limits_to answers relative 360)))

remarked-length : {A : Type 0} (o : Outcome A) (text : A → List ℕ) → ((x : A) → length (text x) ≤ 154) → length (remarked o text) ≤ 154
unfolding remarked
remarked-length (refused n) text f = lit≤ tt
remarked-length (accepted x) text f = f x

pub remarks_short : (input : List ℕ) → length (remarks_of input) ≤ 154
unfolding remarks_of plate_remarks
remarks_short input = remarked-length _ _ λ q. remarked-length _ _ λ x. row-length _ _ _
