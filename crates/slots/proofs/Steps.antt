-- `lowest` and `numbers_from` from one slot, or number, to the next: what the loops go by.
use mathlib.Core.Path.{◌≡◌, refl, sym, ◌∙◌}
use Prim.Native.Nat.{ℕ, zero, suc, ◌+◌, ◌-◌, ◌<◌, ◌≤◌}
use native.Mathlib.Numerals.{add-one}
use native.Mathlib.Omega.{arith}
use mathlib.Core.Bool.{true, false}
use Rattle.std.proofs.Common.{Some, None, [], ◌∷◌, slice_index_or}
use Rattle.answers.specs.declared.Refusal.TheVariants as refusals
use Rattle.answers.specs.Outcome.{number}
use Rattle.slots.specs.Told.{Breaks, lowest, or_else, numbers_from, told}

module _ (breaks : Breaks) where
  pub slot-breaks : {n s : ℕ} (k : ℕ) → s < k → breaks n s ≡ true → lowest breaks n (k - s) s ≡ Some (n, s)
  unfolding lowest
  slot-breaks {n} {s} k h b = let e : k - s ≡ suc (k - (s + 1)) = omega arith in rw (e, b)

  pub slot_keeps : {n s : ℕ} (k : ℕ) → s < k → breaks n s ≡ false → lowest breaks n (k - s) s ≡ lowest breaks n (k - (s + 1)) (s + 1)
  unfolding lowest
  slot_keeps {n} {s} k h b = let e : k - s ≡ suc (k - (s + 1)) = omega arith in rw (e, b, add-one)

  pub no_slot_left : (n : ℕ) {s : ℕ} (k : ℕ) → k ≤ s → lowest breaks n (k - s) s ≡ None
  unfolding lowest
  no_slot_left n {s} k h = let e : k - s ≡ 0 = omega arith in rw e

  pub number-broken : {n : ℕ} (k : ℕ) {found : ℕ × ℕ} → n < k → lowest breaks n 20 0 ≡ Some found → numbers_from breaks (k - n) n ≡ Some found
  unfolding numbers_from or_else
  number-broken {n} k h b = let e : k - n ≡ suc (k - (n + 1)) = omega arith in rw (e, b)

  pub number-kept : {n : ℕ} (k : ℕ) → n < k → lowest breaks n 20 0 ≡ None → numbers_from breaks (k - n) n ≡ numbers_from breaks (k - (n + 1)) (n + 1)
  unfolding numbers_from or_else
  number-kept {n} k h b = let e : k - n ≡ suc (k - (n + 1)) = omega arith in rw (e, b, add-one)

  pub no_number_left : {n : ℕ} (k : ℕ) → k ≤ n → numbers_from breaks (k - n) n ≡ None
  unfolding numbers_from
  no_number_left {n} k h = let e : k - n ≡ 0 = omega arith in rw e

  -- from the loop's number n = 2 + i, where none before it is broken
  module _ {i n : ℕ} (e : n ≡ 2 + i) (h : i < 6) (numbers : told breaks ≡ numbers_from breaks (8 - (2 + i)) (2 + i)) where
    pub told-here : {found : ℕ × ℕ} → Some found ≡ lowest breaks n 20 0 → Some found ≡ told breaks
    told-here b = sym (rw (← e) at numbers ∙ number-broken 8 (omega (arith, e)) (sym b))

    pub next-number : None ≡ lowest breaks n 20 0 → told breaks ≡ numbers_from breaks (8 - (2 + (i + 1))) (2 + (i + 1))
    next-number b =
        let next : 2 + (i + 1) ≡ n + 1 = omega (arith, e) in
        rw next (rw (← e) at numbers ∙ number-kept 8 (omega (arith, e)) (sym b))

-- the refusals that are about a slot have the numbers from 2 on
pub number-at : (i : ℕ) → i < 6 → number (slice_index_or (refusals.Value ∷ refusals.Type ∷ refusals.Mode ∷ refusals.Band ∷ refusals.Count ∷ refusals.Aim ∷ []) i refusals.Record) ≡ 2 + i
number-at zero h = refl
number-at (suc zero) h = refl
number-at (suc (suc zero)) h = refl
number-at (suc (suc (suc zero))) h = refl
number-at (suc (suc (suc (suc zero)))) h = refl
number-at (suc (suc (suc (suc (suc zero))))) h = refl
number-at (suc (suc (suc (suc (suc (suc i)))))) h = absurd (omega arith)
