-- How many numbers a field has at most, and that each has its place. Assumes nothing.
use mathlib.Core.Path.{◌≡◌, refl, subst}
use mathlib.Core.Bool.{Bool, true, false, ◌&&◌, and-eq-true_iff}
use mathlib.Core.List.{List, [], ◌∷◌}
use Prim.Native.Nat.{ℕ, zero, suc, ◌+◌, ◌≤◌, ◌<◌}
use native.Mathlib.Omega.{arith}
use lib.Dec.{T, leb}
use lib.ListN.{get_or}
use borrow.Author.Tests.{leb-true, eqb-true}
use Rattle.floats.proofs.Below.{all, all-at}
use Rattle.fields.specs.declared.Kind.{Kind}
use Rattle.fields.specs.Table.{LAST, rows, row_number, in_kind, is_row_of, row_of, count_of, first_place}
use Rattle.fields.proofs.Least.{least-le, least_passes}

-- the most numbers of each field, from field 0, which is none
abbrev mosts : List ℕ
mosts = 0 ∷ 1 ∷ 2 ∷ 2 ∷ 1 ∷ 1 ∷ 3 ∷ 1 ∷ 2 ∷ 1 ∷ 2 ∷ 1 ∷ 2 ∷ 1 ∷ 1 ∷ 1 ∷ 1 ∷ 1 ∷ 1 ∷ 2 ∷ 1 ∷ 1 ∷ 6 ∷ 30 ∷ 1 ∷ 1 ∷ 1 ∷ []

unfoldable pub most_of : ℕ → ℕ
most_of f = get_or mosts f 0

in_bounds : ℕ → Bool
in_bounds r = leb (row_number r).count (most_of (row_number r).field) && leb ((row_number r).first + (row_number r).count) 59

checked : T (all in_bounds 40)
unfolding in_bounds most_of rows row_number
checked = tt

-- a rule of every row is one of the row that a field has; row 0 is none
module _ (kind : Kind) (f : ℕ) where
  in_bounds_lem : in_bounds (row_of kind f) ≡ true
  unfolding row_of
  in_bounds_lem = true_of (in_bounds (row_of kind f)) (all-at in_bounds 40 checked (row_of kind f) (omega (arith, least-le (is_row_of kind f) LAST)))
    where
      true_of : (b : Bool) → T b → b ≡ true
      true_of true t = refl
      true_of false t = absurd t

  bounds : (leb (row_number (row_of kind f)).count (most_of (row_number (row_of kind f)).field) ≡ true) × (leb ((row_number (row_of kind f)).first + (row_number (row_of kind f)).count) 59 ≡ true)
  unfolding in_bounds
  bounds = (and-eq-true_iff (leb (row_number (row_of kind f)).count (most_of (row_number (row_of kind f)).field)) _).0 in_bounds_lem

  own_field : 0 < row_of kind f → (row_number (row_of kind f)).field ≡ f
  unfolding row_of
  own_field h = eqb-true _ _ ((and-eq-true_iff (in_kind kind (row_number (row_of kind f))) _).0 (least_passes (is_row_of kind f) LAST h)).1

  pub at_most : count_of kind f ≤ most_of f
  unfolding count_of row_number
  at_most = go (row_of kind f) refl
    where
      go : (r : ℕ) → row_of kind f ≡ r → (row_number (row_of kind f)).count ≤ most_of f
      go zero e = rw e (omega arith)
      go (suc r) e = subst (λ (g : ℕ). (row_number (row_of kind f)).count ≤ most_of g) (own_field (omega arith)) (leb-true _ _ bounds.0)

  pub in_places : first_place kind f + count_of kind f ≤ 59
  unfolding first_place count_of
  in_places = leb-true _ _ bounds.1
