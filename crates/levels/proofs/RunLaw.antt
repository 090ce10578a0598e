-- Document 02, card 13, proved of every run: `run_law`. Assumes nothing.
use mathlib.Core.Path.{◌≡◌, refl, sym, ap, ◌∙◌}
use mathlib.Core.Bool.{Bool, true, false, cond, not}
use mathlib.Core.List.{List, [], ◌∷◌, ◌++◌}
use Prim.Native.Nat.{ℕ, ◌-◌}
use lib.ListN.{length}
use lib.Dec.{T, ltb}
use lib.Ieee.{Float, binary32, fits}
use lib.Ieee.Scale.{finite}
use Rattle.answers.specs.Outcome.{refused, accepted}
use Rattle.answers.specs.Refusals.{VALUE}
use Rattle.levels.specs.State.{received, levels_in, can_be_left}
use Rattle.levels.specs.Shown.{screen_of}
use Rattle.levels.specs.Answers.{refusal_of, record_of, state_after, show_of}
use Rattle.levels.specs.Run.{counted, tail, sent, leaves}
use Rattle.levels.specs.RunLaw.{Run, none, more, RunLaw}
use Rattle.levels.proofs.Acceptance.{parts_of, accepts}
use Rattle.levels.proofs.Counting.{Counts, counts_drop, counts_counted}
use Rattle.levels.proofs.Runs.{holds-tail, leaves_append}
use Rattle.levels.proofs.Holding.{holds-accepted, holds_levels}
use Rattle.levels.proofs.Reached.{left}

-- a record of an accepted state
module _ (s : List ℕ) (x : Float) (ok : can_be_left s ≡ true) where
  after-sent : state_after s x ≡ sent s x
  unfolding state_after refusal_of sent
  after-sent = rw ok (by (finite x))
    where
      by : (b : Bool) → cond (ltb 0 (cond (not b) VALUE 0)) s (received s x) ≡ cond b (received s x) s
      by true = refl
      by false = refl

  answer-sent : record_of s x ≡ cond (finite x) (accepted (screen_of (levels_in (sent s x)))) (refused VALUE)
  unfolding record_of refusal_of sent
  answer-sent = rw ok (by (finite x))
    where
      by : (b : Bool) → cond (ltb 0 (cond (not b) VALUE 0)) (refused (cond (not b) VALUE 0)) (accepted (screen_of (levels_in (received s x)))) ≡ cond b (accepted (screen_of (levels_in (cond b (received s x) s)))) (refused VALUE)
      by true = refl
      by false = refl

-- after a run
module _ {xs : List Float} (r : Run xs) where
  tail_counts : Counts (tail (counted xs))
  unfolding tail
  tail_counts = counts_drop (length (counted xs) - 64) (counts_counted r)

  accepted-after : can_be_left (leaves xs) ≡ true
  accepted-after = accepts (leaves xs) (holds-accepted (leaves xs) (tail (counted xs)) (holds-tail xs) tail_counts)

  levels_after : levels_in (leaves xs) ≡ tail (counted xs)
  levels_after = holds_levels (leaves xs) (tail (counted xs)) (holds-tail xs) tail_counts

  shown-after : show_of (leaves xs) ≡ accepted (screen_of (tail (counted xs)))
  unfolding show_of
  shown-after = rw (accepted-after, levels_after)

longer-run : {xs : List Float} → Run xs → (x : Float) → T (fits binary32 x) → Run (xs ++ (x ∷ []))
longer-run none x h = more h none
longer-run (more g r) x h = more g (longer-run r x h)

recorded : {xs : List Float} → Run xs → (x : Float) → T (fits binary32 x)
    → record_of (leaves xs) x ≡ cond (finite x) (accepted (screen_of (tail (counted (xs ++ (x ∷ [])))))) (refused VALUE)
recorded {xs} r x h =
    answer-sent (leaves xs) x (accepted-after r)
    ∙ ap (λ (l : List Float). cond (finite x) (accepted (screen_of l)) (refused VALUE)) (ap levels_in (sym (leaves_append xs (x ∷ []))) ∙ levels_after (longer-run r x h))

pub run_law : RunLaw
run_law = record {
  run_accepted = accepted-after;
  accepted_run = λ s w h. left s w (parts_of s h);
  next_state = λ {xs} r x. after-sent (leaves xs) x (accepted-after r) ∙ sym (leaves_append xs (x ∷ []));
  next_answer = recorded;
  answer = shown-after;
}
