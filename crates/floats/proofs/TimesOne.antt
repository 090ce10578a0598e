-- x * 1 is x, for every x that binary32 holds.
use mathlib.Core.Path.{◌≡◌, refl, ◌∙◌, subst}
use mathlib.Core.Bool.{Bool, true, false}
use Prim.Native.Nat.{ℕ, ◌*◌, ◌^◌, ◌<◌}
use native.Mathlib.Nat.{mul-one}
use lib.Dec.{T}
use lib.IntN.{ℤ}
use lib.Pow.{pow_pos}
use lib.Ieee.{Float, nan, inf, fin, binary32, up, down, mul, round, fits, of_bits}
use lib.Ieee.Fits.{down_pos, round-fits}
use lib.Ieee.Exact.{round_exact}
use lib.Ieee.Scale.{round_same}
use Rattle.floats.specs.Ops.{◌⊗◌}
use Rattle.floats.specs.Literals.{one}
use Rattle.numeric.proofs.Steps.{on-grid, steps_are, steps-lt, same-steps}

-- a value that binary32 holds rounds to itself
pub rounded : (s : Bool) (m : ℕ) (e : ℤ) → T (fits binary32 (fin s m e)) → round binary32 s (m * up e) (down e) ≡ fin s m e
rounded s m e h =
    let x = fin s m e in
    let g = on-grid x h in
    let a = g.0 * 2 ^ g.1 in
    let fine : a < 2 ^ 277 = subst (λ (n : ℕ). n < 2 ^ 277) (steps_are x s a g.2) (steps-lt s m e h) in
    round_same binary32 s (m * up e) (down e) a (2 ^ 149) (down_pos e) (pow_pos 149) g.2.1
    ∙ same-steps _ x s a (round-fits binary32 s a (2 ^ 149)) h
    (round_exact binary32 s a (2 ^ 149) g.0 g.1 (pow_pos 149) g.3.0 fine refl) g.2

pub times-one : (x : Float) → T (fits binary32 x) → x ⊗ one ≡ x
unfolding mul of_bits
times-one nan h = refl
times-one (inf true) h = refl
times-one (inf false) h = refl
times-one (fin true m e) h = simp mul-one (rounded true m e h)
times-one (fin false m e) h = simp mul-one (rounded false m e h)
