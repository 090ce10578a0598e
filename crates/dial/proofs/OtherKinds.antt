-- A kind that is another. Assumes nothing.
use mathlib.Core.Path.{◌≡◌, refl}
use mathlib.Core.Bool.{false}
use Rattle.answers.specs.declared.Kind.{Kind}
use Rattle.answers.specs.declared.Kind.TheVariants as kind
use Rattle.dial.specs.Kinds.{is_level, is_floor, is_silence}

pub no_level : (k : Kind) → (k ≡ kind.Level → ⊥) → is_level k ≡ false
no_level kind.Level h = absurd (h refl)
no_level kind.Floor h = refl
no_level kind.Silence h = refl

pub no_floor : (k : Kind) → (k ≡ kind.Floor → ⊥) → is_floor k ≡ false
no_floor kind.Level h = refl
no_floor kind.Floor h = absurd (h refl)
no_floor kind.Silence h = refl

pub no_silence : (k : Kind) → (k ≡ kind.Silence → ⊥) → is_silence k ≡ false
no_silence kind.Level h = refl
no_silence kind.Floor h = refl
no_silence kind.Silence h = absurd (h refl)
