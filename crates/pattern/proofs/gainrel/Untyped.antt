-- A type that is none of 1 to 9 has no gain.
use mathlib.Core.Path.{◌≡◌, refl}
use mathlib.Core.Bool.{Bool, false}
use mathlib.Core.List.{List}
use Prim.Native.Nat.{ℕ, ◌≤◌}
use borrow.Author.Tests.{ne_eqb}
use lib.Ieee.{Float}
use Rattle.floats.specs.Ops.{+0}
use Rattle.std.proofs.Common.{arith}
use Rattle.std.proofs.lemmas.Bool.Decides.{nat_tests}
use Rattle.model.specs.Types.{type_ok, crossed_type}
use Rattle.model.specs.declared.record.Direction.{Direction}
use Rattle.model.specs.declared.record.Model.{Model}
use Rattle.pattern.specs.Gainrel.{gain_in}

abbrev Not : ℕ → ℕ → Type 0
Not i n = i ≡ n → ⊥

pub untyped : (m : Model) (table : List Float) (iu : ℕ) (d : Direction) (behind : Bool) (i : ℕ) → m.iant ≡ i
    → Not i 1 → Not i 2 → Not i 3 → Not i 4 → Not i 5 → Not i 6 → Not i 7 → Not i 8 → Not i 9
    → +0 ≡ gain_in m table iu d behind
unfolding gain_in crossed_type
untyped m table iu d behind i e n1 n2 n3 n4 n5 n6 n7 n8 n9 =
    rw (e, ne_eqb i 1 n1, ne_eqb i 2 n2, ne_eqb i 3 n3, ne_eqb i 4 n4, ne_eqb i 5 n5, ne_eqb i 6 n6, ne_eqb i 7 n7, ne_eqb i 8 n8, ne_eqb i 9 n9)

-- by the test that set-up and gain refuse such a type by
no_number : (i n : ℕ) → type_ok i ≡ false → 1 ≤ n → n ≤ 9 → Not i n
unfolding type_ok
no_number i n h l u e = grind (arith, nat_tests)

pub silent : (m : Model) (table : List Float) (iu : ℕ) (d : Direction) (behind : Bool) → type_ok m.iant ≡ false → +0 ≡ gain_in m table iu d behind
silent m table iu d behind h =
    let n = no_number m.iant in
    untyped m table iu d behind m.iant refl
    (n 1 h (omega arith) (omega arith)) (n 2 h (omega arith) (omega arith)) (n 3 h (omega arith) (omega arith))
    (n 4 h (omega arith) (omega arith)) (n 5 h (omega arith) (omega arith)) (n 6 h (omega arith) (omega arith))
    (n 7 h (omega arith) (omega arith)) (n 8 h (omega arith) (omega arith)) (n 9 h (omega arith) (omega arith))
