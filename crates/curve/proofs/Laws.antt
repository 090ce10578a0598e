-- Each azimuth is drawn by one stroke, and a level never with the floors; where a floor is among the kinds. Assumes nothing.
use mathlib.Core.Path.{◌≡◌, refl, sym, ◌∙◌}
use mathlib.Core.Bool.{Bool, true, false, ◌||◌, false≢true}
use mathlib.Core.Logic.{⊎_elim}
use mathlib.Core.List.{List}
use Prim.Native.Nat.{ℕ, zero, suc, ◌<◌, ◌≤◌}
use native.Mathlib.Nat.{eq-or-lt_of_le}
use native.Mathlib.Omega.{arith}
use lib.ListN.{get_or}
use Rattle.answers.specs.declared.Kind.{Kind}
use Rattle.answers.specs.declared.Kind.TheVariants as kind
use Rattle.curve.specs.declared.Stroke.{Stroke}
use Rattle.curve.specs.declared.Stroke.TheVariants as stroke
use Rattle.dial.specs.Kinds.{is_floor}
use Rattle.curve.specs.Curve.{draws, drawn, floor_below}

-- which stroke that is
drawn_by : Kind → Bool → Stroke
drawn_by kind.Level true = stroke.Folded
drawn_by kind.Level false = stroke.Levels
drawn_by kind.Floor folded = stroke.Floors
drawn_by kind.Silence folded = stroke.Floors

only : (j : Stroke) (k : Kind) (folded : Bool) → draws j k folded ≡ true → j ≡ drawn_by k folded
unfolding draws drawn_by
only stroke.Levels kind.Level false d = refl
only stroke.Levels kind.Level true d = absurd (false≢true d)
only stroke.Levels kind.Floor folded d = absurd (false≢true d)
only stroke.Levels kind.Silence folded d = absurd (false≢true d)
only stroke.Folded kind.Level true d = refl
only stroke.Folded kind.Level false d = absurd (false≢true d)
only stroke.Folded kind.Floor folded d = absurd (false≢true d)
only stroke.Folded kind.Silence folded d = absurd (false≢true d)
only stroke.Floors kind.Floor folded d = refl
only stroke.Floors kind.Level folded d = absurd (false≢true d)
only stroke.Floors kind.Silence folded d = absurd (false≢true d)

-- two strokes that draw an azimuth are one
pub one_stroke : (kinds : List Kind) (fold : Bool) (j k : Stroke) (v : ℕ) → drawn kinds fold j v ≡ true → drawn kinds fold k v ≡ true → j ≡ k
unfolding drawn
one_stroke kinds fold j k v d e = only j _ _ d ∙ sym (only k _ _ e)

-- a floor among the kinds is one below n, and none among them none
module _ (kinds : List Kind) where
  pub floor-found : (n v : ℕ) → v < n → is_floor (get_or kinds v kind.Level) ≡ true → floor_below kinds n ≡ true
  unfolding floor_below
  floor-found zero v h t = absurd (omega arith)
  floor-found (suc n) v h t = ⊎_elim (λ (e : v ≡ n). rw (← e, t) (either (floor_below kinds v))) (λ (i : v < n). rw (floor-found n v i t)) (let i : v ≤ n = omega arith in eq-or-lt_of_le i)
    where
      either : (b : Bool) → (b || true) ≡ true
      either true = refl
      either false = refl

  pub floor-none : (n : ℕ) → ((v : ℕ) → v < n → is_floor (get_or kinds v kind.Level) ≡ false) → floor_below kinds n ≡ false
  unfolding floor_below
  floor-none zero h = refl
  floor-none (suc n) h = rw (floor-none n (λ v i. h v (omega arith)), h n (omega arith))
