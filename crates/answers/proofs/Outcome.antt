-- What an accepted outcome says of the tests before it.
use Prim.Native.Nat.{ℕ, ◌<◌}
use mathlib.Core.Path.{◌≡◌, refl}
use mathlib.Core.Bool.{Bool, true, false, cond}
use native.Mathlib.Omega.{arith}
use borrow.Author.Tests.{lt-ltb}
use lib.Dec.{ltb}
use Rattle.answers.specs.declared.Refusal.{Refusal}
use Rattle.answers.specs.declared.Refusal.TheVariants as refusals
use Rattle.answers.specs.Outcome.{Outcome, refused, accepted, number}

-- it passed its first test
pub passed : {A : Type 0} (b : Bool) (n : ℕ) (rest : Outcome A) {x : A} → cond b (refused n) rest ≡ accepted x → (b ≡ false) × (rest ≡ accepted x)
passed true n rest h = let z : ◌≡◌ {A = ℕ} 0 1 = cc in absurd (omega arith)
passed false n rest h = (refl, h)

pub same : {A : Type 0} {x y : A} → accepted x ≡ accepted y → x ≡ y
same h = cc

-- every refusal has a number
pub number-pos : (r : Refusal) → 0 < number r
number-pos refusals.Record = omega arith
number-pos refusals.Value = omega arith
number-pos refusals.Type = omega arith
number-pos refusals.Mode = omega arith
number-pos refusals.Band = omega arith
number-pos refusals.Count = omega arith
number-pos refusals.Aim = omega arith
number-pos refusals.Space = omega arith
number-pos refusals.Pattern = omega arith
number-pos refusals.Level = omega arith
number-pos refusals.Calendar = omega arith
number-pos refusals.Row = omega arith
number-pos refusals.Gap = omega arith
number-pos refusals.Overlap = omega arith
number-pos refusals.Table = omega arith
number-pos refusals.Call = omega arith
number-pos refusals.Full = omega arith
number-pos refusals.Span = omega arith

-- a call that tries a check first: refused under its number, and else what the rest answers
module _ {X : Type 0} (n : ℕ) (rest : Outcome X) where
  pub refused_by : (r : Refusal) → number r ≡ n → cond (ltb 0 n) (refused n) rest ≡ refused (number r)
  refused_by r e = rw (← e, lt-ltb 0 (number r) (number-pos r))

  pub granted_by : 0 ≡ n → cond (ltb 0 n) (refused n) rest ≡ rest
  granted_by e = rw (← e)
