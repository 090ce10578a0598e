-- Document 02, card 13, in its own words: which words a run can leave, and that after each record the answer is the one taken from the run's own tail.
-- Definitions only; proofs/RunLaw.antt has the theorem.
use Rattle.std.specs.Prelude.{◌≡◌, ℕ, ◌^◌, ◌<◌, true, cond, List, [], ◌∷◌, ◌++◌, get_or, T, Float}
use Rattle.std.specs.Float.{binary32}
use Rattle.std.specs.Float.Ieee.{fits}
use Rattle.std.specs.Float.Ieee.Scale.{finite}
use Rattle.answers.specs.Outcome.{refused, accepted}
use Rattle.answers.specs.Refusals.{VALUE}
use Rattle.levels.specs.Shown.{screen_of}
use Rattle.levels.specs.State.{can_be_left}
use Rattle.levels.specs.Run.{counted, tail, leaves}
use Rattle.levels.specs.Answers.{record_of, state_after, show_of}

-- a run of f32s, finite or not
pub data Run : List Float → Type 0 where
  none : Run []
  more : {x : Float} {xs : List Float} → T (fits binary32 x) → Run xs → Run (x ∷ xs)

-- 32-bit words
abbrev pub Words : List ℕ → Type 0
Words s = (i : ℕ) → get_or s i 0 < 2 ^ 32

pub record RunLaw : Type 0 where
  -- a state is accepted just when some run leaves it
  pub run_accepted : {xs : List Float} → Run xs → can_be_left (leaves xs) ≡ true
  pub accepted_run : (s : List ℕ) → Words s → can_be_left s ≡ true → (xs : List Float) × Run xs × (leaves xs ≡ s)
  -- a record leaves what the longer run leaves, and answers by the longer run's tail; one that is refused changes nothing
  pub next_state : {xs : List Float} → Run xs → (x : Float) → state_after (leaves xs) x ≡ leaves (xs ++ (x ∷ []))
  pub next_answer : {xs : List Float} → Run xs → (x : Float) → T (fits binary32 x)
      → record_of (leaves xs) x ≡ cond (finite x) (accepted (screen_of (tail (counted (xs ++ (x ∷ [])))))) (refused VALUE)
  pub answer : {xs : List Float} → Run xs → show_of (leaves xs) ≡ accepted (screen_of (tail (counted xs)))
