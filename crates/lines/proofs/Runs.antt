-- A text cut at the bytes where a run stops, by its first byte and by an index. Assumes nothing.
use mathlib.Core.Path.{◌≡◌, refl, ap}
use Prim.Native.Nat.{ℕ, suc, ◌+◌, ◌-◌, ◌≤◌, ◌<◌, zero-le}
use native.Mathlib.Omega.{arith}
use mathlib.Core.Logic.{◌⊎◌, inl, inr, ⊎_elim}
use mathlib.Core.Bool.{Bool, true, false}
use mathlib.Core.List.{List, [], ◌∷◌, ◌++◌}
use lib.ListN.{length, take, drop, get_or, length-drop}
use lib.Seq.{drop-cons, drop-drop}
use Rattle.lines.specs.Pieces.{up_to, end_from, longer, pieces}

pub by_test : {P : Type 0} (t : Bool) → (t ≡ true → P) → (t ≡ false → P) → P
by_test true holds fails = holds refl
by_test false holds fails = fails refl

module _ (stop : ℕ → Bool) where
  -- ---- the first run

  pub run_none : up_to stop [] ≡ []
  unfolding up_to
  run_none = refl

  pub run_stops : (b : ℕ) (s : List ℕ) → stop b ≡ true → up_to stop (b ∷ s) ≡ []
  unfolding up_to
  run_stops b s e = rw e

  pub run_goes : (b : ℕ) (s : List ℕ) → stop b ≡ false → up_to stop (b ∷ s) ≡ b ∷ up_to stop s
  unfolding up_to
  run_goes b s e = rw e

  pub run-le : (s : List ℕ) → length (up_to stop s) ≤ length s
  run-le [] = rw run_none zero-le
  run-le (b ∷ s) = by_test (stop b) (λ e. rw (run_stops b s e) zero-le) (λ e. rw (run_goes b s e) (omega (arith, run-le s)))

  pub run_take : (s : List ℕ) → take (length (up_to stop s)) s ≡ up_to stop s
  run_take [] = rw run_none
  run_take (b ∷ s) = by_test (stop b) (λ e. rw (run_stops b s e)) (λ e. rw (run_goes b s e, run_take s))

  -- where a run ends, no other starts
  pub run_again : (s : List ℕ) → length (up_to stop (drop (length (up_to stop s)) s)) ≡ 0
  run_again [] = rw (run_none, run_none)
  run_again (b ∷ s) = by_test (stop b) (λ e. rw (run_stops b s e, run_stops b s e)) (λ e. rw (run_goes b s e) (run_again s))

  -- in a text with more behind it, a run ends where it did, or goes on after the whole text
  pub run_append : (s t : List ℕ) → (up_to stop (s ++ t) ≡ up_to stop s) ⊎ ((up_to stop s ≡ s) × (up_to stop (s ++ t) ≡ s ++ up_to stop t))
  run_append [] t = inr (run_none, refl)
  run_append (b ∷ s) t =
      by_test (stop b)
      (λ e. inl (rw (run_stops b s e, run_stops b (s ++ t) e)))
      (λ e. rw (run_goes b s e, run_goes b (s ++ t) e) (⊎_elim (λ h. inl (ap (λ (l : List ℕ). b ∷ l) h)) (λ h. inr (ap (λ (l : List ℕ). b ∷ l) h.0, ap (λ (l : List ℕ). b ∷ l) h.1)) (run_append s t)))

  -- ---- the index where a run ends

  module _ (s : List ℕ) (i : ℕ) where
    pub end_run : i ≤ length s → end_from stop s i ≡ i + length (up_to stop (drop i s))
    unfolding end_from
    end_run h = omega (arith, run-le (drop i s), length-drop i s)

    pub end_past : length s ≤ i → end_from stop s i ≡ length s
    unfolding end_from
    end_past h = omega arith

    pub end_le : end_from stop s i ≤ length s
    unfolding end_from
    end_le = omega arith

    pub end_before : end_from stop s i < length s → i < length s
    unfolding end_from
    end_before h = omega arith

    pub end_length : end_from stop s i - i ≡ length (up_to stop (drop i s))
    unfolding end_from
    end_length = omega (arith, run-le (drop i s), length-drop i s)

    pub end_bytes : take (end_from stop s i - i) (drop i s) ≡ up_to stop (drop i s)
    end_bytes = rw end_length (run_take (drop i s))

    pub end_here : i < length s → stop (get_or s i 0) ≡ true → end_from stop s i ≡ i
    end_here h e =
        let none : length (up_to stop (drop i s)) ≡ 0 = rw (drop-cons s i 0, run_stops (get_or s i 0) (drop (suc i) s) e) in
        omega (arith, end_run (omega arith))

  pub end_later : (s : List ℕ) (i : ℕ) → i < length s → stop (get_or s i 0) ≡ false → end_from stop s i ≡ end_from stop s (suc i)
  end_later s i h e =
      let more : length (up_to stop (drop i s)) ≡ suc (length (up_to stop (drop (suc i) s))) = rw (drop-cons s i 0, run_goes (get_or s i 0) (drop (suc i) s) e) in
      omega (arith, end_run s i (omega arith), end_run s (suc i) (omega arith))

  pub end_again : (s : List ℕ) (i : ℕ) → i ≤ length s → end_from stop s (end_from stop s i) ≡ end_from stop s i
  end_again s i h =
      let n = length (up_to stop (drop i s)) in
      let e : end_from stop s i ≡ i + n = end_run s i h in
      let none : length (up_to stop (drop (end_from stop s i) s)) ≡ 0 = rw (e, ← drop-drop n i s) (run_again (drop i s)) in
      omega (arith, end_run s (end_from stop s i) (end_le s i))

  -- ---- pieces

  pub pieces_none : pieces stop [] ≡ [] ∷ []
  unfolding pieces
  pieces_none = refl

  pub pieces_stop : (b : ℕ) (s : List ℕ) → stop b ≡ true → pieces stop (b ∷ s) ≡ [] ∷ pieces stop s
  unfolding pieces
  pieces_stop b s e = rw e

  -- the first run is the first piece
  pub pieces-first : (s : List ℕ) → pieces stop s ≡ up_to stop s ∷ drop 1 (pieces stop s)
  unfolding pieces up_to longer
  pieces-first [] = refl
  pieces-first (b ∷ s) = by_test (stop b) (λ e. rw (e)) (λ e. rw (e, pieces-first s))

  pub pieces_go : (b : ℕ) (s : List ℕ) → stop b ≡ false → pieces stop (b ∷ s) ≡ (b ∷ up_to stop s) ∷ drop 1 (pieces stop s)
  unfolding pieces longer
  pieces_go b s e = rw (e, pieces-first s)

  -- after the first piece stand those of the text behind the byte where it stops
  pub pieces-later : (s : List ℕ) → length (up_to stop s) < length s → drop 1 (pieces stop s) ≡ pieces stop (drop (suc (length (up_to stop s))) s)
  pieces-later [] h = absurd (omega arith)
  pieces-later (b ∷ s) h =
      by_test (stop b)
      (λ e. rw (pieces_stop b s e, run_stops b s e))
      (λ e. rw (pieces_go b s e, run_goes b s e) (pieces-later s (omega (arith, ap length (run_goes b s e)))))

  pub pieces-last : (s : List ℕ) → length s ≤ length (up_to stop s) → drop 1 (pieces stop s) ≡ []
  pieces-last [] h = rw pieces_none
  pieces-last (b ∷ s) h =
      by_test (stop b)
      (λ e. absurd (omega (arith, ap length (run_stops b s e))))
      (λ e. rw (pieces_go b s e) (pieces-last s (omega (arith, ap length (run_goes b s e)))))

  -- a stop at the very end adds an empty piece
  pub pieces_end : (s : List ℕ) (b : ℕ) → stop b ≡ true → pieces stop (s ++ (b ∷ [])) ≡ pieces stop s ++ ([] ∷ [])
  unfolding pieces longer
  pieces_end [] b e = rw e
  pieces_end (x ∷ s) b e =
      by_test (stop x)
      (λ d. rw (d, pieces_end s b e))
      (λ d. rw (d, pieces_end s b e, pieces-first s))
