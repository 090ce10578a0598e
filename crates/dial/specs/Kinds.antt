-- What an entry of a plate's row is. Definitions only.
use Rattle.std.specs.Prelude.{ℕ, Bool, true, false, cond, eqb}
use Rattle.answers.specs.declared.Kind.{Kind}
use Rattle.answers.specs.declared.Kind.TheVariants as kind

abbrev pub is_level : Kind → Bool
is_level kind.Level = true
is_level kind.Floor = false
is_level kind.Silence = false

abbrev pub is_floor : Kind → Bool
is_floor kind.Level = false
is_floor kind.Floor = true
is_floor kind.Silence = false

abbrev pub is_silence : Kind → Bool
is_silence kind.Level = false
is_silence kind.Floor = false
is_silence kind.Silence = true

-- what a code stands for: 0 a level, 1 a floor, any more a silence
unfoldable pub coded : ℕ → Kind
coded code = cond (eqb code 0) kind.Level (cond (eqb code 1) kind.Floor kind.Silence)
