-- How long the names are, by one computed test. Assumes nothing.
use mathlib.Core.Path.{◌≡◌, refl}
use mathlib.Core.Bool.{Bool, not}
use mathlib.Core.List.{[]}
use Prim.Native.Nat.{ℕ, zero, suc, ◌≤◌, ◌<◌}
use native.Mathlib.Nat.{le_of_suc-le-suc}
use native.Mathlib.Omega.{arith}
use lib.Dec.{leb, lit≤}
use lib.ListN.{length, get_or-eq_default}
use borrow.Author.Tests.{leb-true, leb-false, not-false}
use Rattle.quoted.specs.Quoted.{quoted}
use Rattle.fields.specs.Least.{or_else, least}
use Rattle.fields.specs.Names.{FIELDS, names, name_of}
use Rattle.fields.proofs.Least.{by_test, least-none}

-- no number beyond the last field has a name
pub nameless : (f : ℕ) → (1 ≤ f → FIELDS < f) → name_of f ≡ []
unfolding names name_of
nameless zero h = refl
nameless (suc i) h = get_or-eq_default names [] (le_of_suc-le-suc (h (omega arith)))

is_short : ℕ → Bool
is_short f = leb (length (name_of f)) 10

all-short : least (λ (f : ℕ). not (is_short f)) FIELDS ≡ 0
unfolding is_short least or_else name_of names quoted
all-short = refl

pub name_length : (f : ℕ) → length (name_of f) ≤ 10
unfolding is_short
name_length zero = rw (nameless zero (λ h. omega arith)) (lit≤ tt)
name_length (suc i) =
    by_test (leb FIELDS i)
    (λ q. rw (nameless (suc i) (λ h. omega (arith, leb-true FIELDS i q))) (lit≤ tt))
    (λ q. leb-true _ _ (not-false (is_short (suc i)) (least-none (λ (f : ℕ). not (is_short f)) FIELDS all-short i (leb-false FIELDS i q))))
