-- What an accepted heading says of the parameters that set-up gets, and that set-up accepted them where there is a plate. Assumes nothing.
use Prim.Native.Nat.{ℕ}
use mathlib.Core.Path.{◌≡◌, refl, ap, ◌∙◌}
use mathlib.Core.Bool.{Bool, true, false, cond, ◌&&◌, ◌||◌}
use mathlib.Core.Logic.{◌⊎◌, inl, inr, ⊎_elim}
use mathlib.Core.List.{List}
use native.Mathlib.Omega.{arith}
use borrow.Author.Tests.{leb-true}
use lib.Dec.{leb}
use lib.IntN.{ℤ, pos, negsuc}
use lib.Ieee.{Float, to_signed}
use Rattle.answers.specs.Outcome.{refused, accepted}
use Rattle.answers.specs.Refusals.{SPAN}
use Rattle.answers.proofs.Outcome.{same}
use Rattle.floats.proofs.Tests.{both}
use Rattle.model.specs.Limits.{slot}
use Rattle.model.specs.Types.{jant_of}
use Rattle.hundredths.specs.Hundredths.{in_span}
use Rattle.hundredths.specs.Raised.{raised_of}
use Rattle.claims.specs.MirrorLaw.{Symmetric}
use Rattle.heading.specs.Mirrored.{is_zero, mirrored_of}
use Rattle.heading.specs.Heading.{degrees_of, headed, set_heading}
use Rattle.heading.specs.declared.Heading.{Heading}

-- ---- the test

zero_is : (z : ℤ) → is_zero z ≡ true → z ≡ pos 0
unfolding is_zero
zero_is (pos n) h = let l = leb-true n 0 (both (leb 0 n) (leb n 0) h).1 in let e : n ≡ 0 = omega arith in ap pos e
zero_is (negsuc n) h = let z : ◌≡◌ {A = ℕ} 0 1 = cc in absurd (omega arith)

either : (a b : Bool) → (a || b) ≡ true → (a ≡ true) ⊎ (b ≡ true)
either true b h = inl refl
either false b h = inr h

pub symmetric : (p : List Float) → mirrored_of (jant_of (slot p 1)) (slot p 9) ≡ true → Symmetric p
unfolding mirrored_of
symmetric p h =
    let iant = jant_of (slot p 1) in
    let still = is_zero (to_signed 31 (slot p 9)) in
    ⊎_elim
    (λ (a : (leb 1 iant && leb iant 4 && still) ≡ true).
    let types = both (leb 1 iant && leb iant 4) still a in
    let limits = both (leb 1 iant) (leb iant 4) types.0 in
    inl (leb-true 1 iant limits.0, leb-true iant 4 limits.1, zero_is _ types.1))
    (λ (b : (leb 5 iant && leb iant 6) ≡ true).
    let limits = both (leb 5 iant) (leb iant 6) b in
    inr (leb-true 5 iant limits.0, leb-true iant 6 limits.1))
    (either (leb 1 iant && leb iant 4 && still) (leb 5 iant && leb iant 6) h)

-- ---- the heading

told-only : {A : Type 0} (b : Bool) (x : A) (n : ℕ) {y : A} → cond b (accepted x) (refused n) ≡ accepted y → x ≡ y
told-only true x n h = same h
told-only false x n h = let z : ◌≡◌ {A = ℕ} 0 1 = cc in absurd (omega arith)

pub headed-mirrored : (antenna : ℕ) (mhz u : Float) (b : Bool) {h : Heading} → headed antenna mhz u b ≡ accepted h → b ≡ h.mirrored
unfolding headed
headed-mirrored antenna mhz u b e = ap (λ (h : Heading). h.mirrored) (told-only (in_span mhz) (record { antenna = antenna; mhz = raised_of mhz; elevation = degrees_of u; mirrored = b }) SPAN e)

pub set_symmetric : (p : List Float) (u : Float) {h : Heading} → set_heading p u ≡ accepted h → h.mirrored ≡ true → Symmetric p
unfolding set_heading
set_symmetric p u e m = symmetric p (headed-mirrored _ _ _ _ e ∙ m)
