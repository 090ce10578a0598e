-- Of finite floats: one is below another just where the other isn't at most the one. Assumes nothing.
use Rattle.std.proofs.Common.{◌≡◌, ◌+◌, ◌*◌, Bool, true, false, ◌||◌, T, sym, refl, subst, le_refl, arith, ltb-false, le-ltb}
use lib.Ieee.{Float, nan, inf, fin, up, down, lt, le, eq}
use lib.Ieee.Scale.{finite}
use Rattle.floats.proofs.Order.{le-said, le-told}

pub le_itself : (x : Float) → T (finite x) → T (le x x)
le_itself x p = le-told x x p p (le_refl _)

pub lt-le : (x y : Float) → lt x y ≡ true → T (le x y)
unfolding le
lt-le x y h = rw h tt

pub eq-le : (x y : Float) → eq x y ≡ true → T (le x y)
unfolding le
eq-le x y e = go (lt x y)
  where
    go : (b : Bool) → T (b || eq x y)
    go true = tt
    go false = subst T (sym e) tt

pub le_of_not_lt : (x y : Float) → T (finite x) → T (finite y) → lt x y ≡ false → T (le y x)
unfolding lt
le_of_not_lt nan y p q h = absurd p
le_of_not_lt (inf s) y p q h = absurd p
le_of_not_lt (fin s m e) nan p q h = absurd q
le_of_not_lt (fin s m e) (inf t) p q h = absurd q
le_of_not_lt (fin false m e) (fin false n d) p q h = le-told (fin false n d) (fin false m e) tt tt (omega (arith, ltb-false (m * up e * down d) (n * up d * down e) h))
le_of_not_lt (fin false m e) (fin true n d) p q h = le-told (fin true n d) (fin false m e) tt tt (omega arith)
le_of_not_lt (fin true m e) (fin false n d) p q h = le-told (fin false n d) (fin true m e) tt tt (omega (arith, ltb-false 0 (m * up e * down d + n * up d * down e) h))
le_of_not_lt (fin true m e) (fin true n d) p q h = le-told (fin true n d) (fin true m e) tt tt (omega (arith, ltb-false (n * up d * down e) (m * up e * down d) h))

pub not_lt_of_le : (x y : Float) → T (finite x) → T (finite y) → T (le y x) → lt x y ≡ false
unfolding lt
not_lt_of_le nan y p q h = absurd p
not_lt_of_le (inf s) y p q h = absurd p
not_lt_of_le (fin s m e) nan p q h = absurd q
not_lt_of_le (fin s m e) (inf t) p q h = absurd q
not_lt_of_le (fin false m e) (fin false n d) p q h = le-ltb (m * up e * down d) (n * up d * down e) (omega (arith, le-said (fin false n d) (fin false m e) tt tt h))
not_lt_of_le (fin false m e) (fin true n d) p q h = refl
not_lt_of_le (fin true m e) (fin false n d) p q h = le-ltb 0 (m * up e * down d + n * up d * down e) (omega (arith, le-said (fin false n d) (fin true m e) tt tt h))
not_lt_of_le (fin true m e) (fin true n d) p q h = le-ltb (n * up d * down e) (m * up e * down d) (omega (arith, le-said (fin true n d) (fin true m e) tt tt h))

pub lt_of_not_le : (x y : Float) → T (finite x) → T (finite y) → le x y ≡ false → lt y x ≡ true
lt_of_not_le x y p q h = go (lt y x) refl
  where
    go : (b : Bool) → lt y x ≡ b → b ≡ true
    go true e = refl
    go false e = absurd (subst T h (le_of_not_lt y x q p e))
