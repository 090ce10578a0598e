-- What the code's fold of a row supposes of its numbers; `numbers` proves it from the mirror law. Definitions only.
use Rattle.std.specs.Prelude.{ℕ, ◌-◌, ◌≤◌, ◌≡◌, Float}

-- by azimuth: the same on both sides of the boresight, but perhaps at right angles to it
abbrev pub Mirrored : (ℕ → Float) → Type 0
Mirrored f = (v : ℕ) → v ≤ 360 → (v ≡ 90 → ⊥) → (v ≡ 270 → ⊥) → f v ≡ f (360 - v)
