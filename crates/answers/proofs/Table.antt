-- Tried one after the other, the lines of a table whose numbers rise give the lowest number whose condition holds.
use Prim.Native.Nat.{ℕ, ◌<◌}
use mathlib.Core.Path.{◌≡◌, refl, sym, ap, subst, ◌∙◌}
use mathlib.Core.Logic.{inl, inr}
use mathlib.Core.Bool.{Bool, true, false, cond, ◌&&◌, false≢true}
use mathlib.Core.List.{List, [], ◌∷◌, ◌++◌}
use native.Mathlib.Omega.{arith}
use borrow.Author.Tests.{ltb-true, ltb-false, lt-ltb}
use lib.Dec.{ltb}
use Rattle.answers.specs.Outcome.{Outcome, refused, accepted}
use Rattle.answers.specs.Table.{Line, Holds, Lowest, Refuses, first_of, answered_by, rising}

both : (p q : Bool) → (p && q) ≡ true → (p ≡ true) × (q ≡ true)
both true q h = (refl, h)
both false q h = absurd (false≢true h)

rise : (low : ℕ) (line : Line) (rest : List Line) → rising low (line ∷ rest) ≡ true → (low < line.0) × (rising line.0 rest ≡ true)
unfolding rising
rise low line rest r = let p = both (ltb low line.0) (rising line.0 rest) r in (ltb-true low line.0 p.0, p.1)

-- where the numbers rise from above low on, each whose condition holds is above low
above : (low : ℕ) (t : List Line) → rising low t ≡ true → (n : ℕ) → Holds t n → low < n
unfolding Holds
above low [] r n h = absurd h
above low (line ∷ rest) r n (inl h) = let p = rise low line rest r in omega (arith, h.0)
above low (line ∷ rest) r n (inr h) = let p = rise low line rest r in omega (arith, above line.0 rest p.1 n h)

-- the first line holds, or it says nothing
module _ (k : ℕ) (rest : List Line) (r : rising k rest ≡ true) where
  lowest_here : Lowest ((k, true) ∷ rest) k
  unfolding Holds
  lowest_here = record { holds = inl (refl, refl); no_lower = λ n l h. none n l h }
    where
      none : (n : ℕ) → n < k → Holds ((k, true) ∷ rest) n → ⊥
      none n l (inl h) = omega (arith, h.0)
      none n l (inr h) = omega (arith, above k rest r n h)

  only_here : (n : ℕ) → Lowest ((k, true) ∷ rest) n → k ≡ n
  unfolding Holds
  only_here n l = go l.holds
    where
      go : Holds ((k, true) ∷ rest) n → k ≡ n
      go (inl h) = h.0
      go (inr h) = absurd (l.no_lower k (above k rest r n h) (inl (refl, refl)))

passed_by : (k : ℕ) (rest : List Line) (n : ℕ) → Holds ((k, false) ∷ rest) n → Holds rest n
unfolding Holds
passed_by k rest n (inl h) = absurd (false≢true h.1)
passed_by k rest n (inr h) = h

later : (k : ℕ) (rest : List Line) (n : ℕ) → Lowest rest n → Lowest ((k, false) ∷ rest) n
unfolding Holds
later k rest n l = record { holds = inr l.holds; no_lower = λ j below h. l.no_lower j below (passed_by k rest j h) }

sooner : (k : ℕ) (rest : List Line) (n : ℕ) → Lowest ((k, false) ∷ rest) n → Lowest rest n
unfolding Holds
sooner k rest n l = record { holds = passed_by k rest n l.holds; no_lower = λ j below h. l.no_lower j below (inr h) }

pub lowest-first : (low : ℕ) (t : List Line) → rising low t ≡ true → (n : ℕ) → Lowest t n → first_of t ≡ n
unfolding first_of Holds
lowest-first low [] r n l = absurd l.holds
lowest-first low ((k, true) ∷ rest) r n l = only_here k rest (rise low (k, true) rest r).1 n l
lowest-first low ((k, false) ∷ rest) r n l = lowest-first k rest (rise low (k, false) rest r).1 n (sooner k rest n l)

pub first-lowest : (low : ℕ) (t : List Line) → rising low t ≡ true → 0 < first_of t → Lowest t (first_of t)
unfolding first_of
first-lowest low [] r h = absurd (omega arith)
first-lowest low ((k, true) ∷ rest) r h = lowest_here k rest (rise low (k, true) rest r).1
first-lowest low ((k, false) ∷ rest) r h = later k rest _ (first-lowest k rest (rise low (k, false) rest r).1 h)

none-holds : (low : ℕ) (t : List Line) → rising low t ≡ true → first_of t ≡ 0 → (n : ℕ) → Holds t n → ⊥
unfolding first_of Holds
none-holds low [] r e n h = h
none-holds low ((k, true) ∷ rest) r e n h = let p = rise low (k, true) rest r in omega arith
none-holds low ((k, false) ∷ rest) r e n h = none-holds k rest (rise low (k, false) rest r).1 e n (passed_by k rest n h)

module _ {A : Type 0} (t : List Line) (r : rising 0 t ≡ true) (x : A) where
  by_number : (b : Bool) → ltb 0 (first_of t) ≡ b → Refuses (cond b (refused (first_of t)) (accepted x)) t
  by_number true e =
      let given = ltb-true 0 (first_of t) e in
      record {
        refused_when = λ n l. ap refused (lowest-first 0 t r n l);
        refused-only = λ n h. let same : first_of t ≡ n = cc in subst (Lowest t) same (first-lowest 0 t r given);
        accepted_when = λ none. absurd (none _ (first-lowest 0 t r given).holds);
        accepted-only = λ y h. let z : ◌≡◌ {A = ℕ} 0 1 = cc in absurd (omega arith);
      }
  by_number false e =
      let none : first_of t ≡ 0 = omega (arith, ltb-false 0 (first_of t) e) in
      record {
        refused_when = λ n l. absurd (none-holds 0 t r none n l.holds);
        refused-only = λ n h. let z : ◌≡◌ {A = ℕ} 0 1 = cc in absurd (omega arith);
        accepted_when = λ _. (x, refl);
        accepted-only = λ y h. none-holds 0 t r none;
      }

  -- what is answered by a table refuses by it
  pub by_table : Refuses (answered_by t x) t
  unfolding answered_by
  by_table = by_number (ltb 0 (first_of t)) refl

-- a last line after the others: where no number was given, its condition decides
pub then_last : {A : Type 0} (low : ℕ) (t : List Line) → rising low t ≡ true → (n : ℕ) → 0 < n → (b : Bool) (x : A)
    → cond (ltb 0 (first_of t)) (refused (first_of t)) (cond b (refused n) (accepted x)) ≡ answered_by (t ++ ((n, b) ∷ [])) x
unfolding first_of answered_by
then_last low [] r n h true x = rw (lt-ltb 0 n h)
then_last low [] r n h false x = refl
then_last low ((k, true) ∷ rest) r n h b x = let p = rise low (k, true) rest r in rw (lt-ltb 0 k (omega arith))
then_last low ((k, false) ∷ rest) r n h b x = then_last k rest (rise low (k, false) rest r).1 n h b x

-- a call that tries the lines of t, and then a last one
pub refuses : {A : Type 0} (o : Outcome A) (t : List Line) (n : ℕ) (b : Bool) (x : A) → rising 0 t ≡ true → rising 0 (t ++ ((n, b) ∷ [])) ≡ true → 0 < n
    → o ≡ cond (ltb 0 (first_of t)) (refused (first_of t)) (cond b (refused n) (accepted x)) → Refuses o (t ++ ((n, b) ∷ []))
refuses {A} o t n b x r s h e = subst (λ (y : Outcome A). Refuses y (t ++ ((n, b) ∷ []))) (sym (e ∙ then_last 0 t r n h b x)) (by_table (t ++ ((n, b) ∷ [])) s x)
