-- The place that an id has. Assumes nothing.
use mathlib.Core.Path.{◌≡◌, refl, sym, ◌∙◌}
use mathlib.Core.Bool.{Bool, true, false, cond, ◌||◌, false≢true}
use mathlib.Core.List.{List, [], ◌∷◌}
use mathlib.Core.Logic.{⊎_elim}
use Prim.Native.Nat.{ℕ, zero, suc, ◌+◌, ◌*◌, ◌≤◌, ◌<◌}
use native.Mathlib.Nat.{eq-or-lt_of_le}
use native.Mathlib.Omega.{arith}
use lib.ListN.{length, get_or}
use lib.Dec.{eqb}
use borrow.Author.Tests.{eq-eqb, ne_eqb}
use Rattle.std.proofs.Common.{Option, Some, None}
use Rattle.std.specs.Option.{is_some, MatchOption}
use Rattle.board_air.specs.Stations.{Station}
use Rattle.board_air.specs.Runs.{on}
use Rattle.board_air.specs.Words.{station_at, stations_to}
use Rattle.board_air.specs.Steps.{slot_of}
use Rattle.board_air.proofs.Reading.{stations_length}

pub slot_on : (id : ℕ) (ss : List Station) → is_some (slot_of id ss) ≡ on id ss
unfolding slot_of on
slot_on id [] = refl
slot_on id (s ∷ ss) = go (on id ss) (eqb s.id id) (slot_on id ss)
  where
    go : (there here : Bool) → is_some (slot_of id ss) ≡ there → is_some (cond there (slot_of id ss) (cond here (Some (length ss)) None)) ≡ (here || there)
    go true true e = e
    go true false e = e
    go false true e = refl
    go false false e = refl

-- one that is on has a place
pub slot_some : (id : ℕ) (ss : List Station) → on id ss ≡ true → (slot : ℕ) × (slot_of id ss ≡ Some slot)
slot_some id ss h = go (slot_of id ss) refl (slot_on id ss ∙ h)
  where
    go : (r : Option ℕ) → slot_of id ss ≡ r → is_some r ≡ true → (slot : ℕ) × (slot_of id ss ≡ Some slot)
    go None e t = absurd (false≢true t)
    go (Some slot) e t = (slot, e)

module _ (air : List ℕ) (id : ℕ) where
  -- the place has another id
  abbrev pub Other : ℕ → Type 0
  Other k = get_or air (1 + 361 * k) 0 ≡ id → ⊥

  nobody_on : (n : ℕ) → ((k : ℕ) → k < n → Other k) → on id (stations_to air n) ≡ false
  unfolding on stations_to station_at
  nobody_on zero others = refl
  nobody_on (suc n) others = rw (ne_eqb _ _ (others n (omega arith)), nobody_on n (λ k h. others k (omega arith)))

  slot_none : (n : ℕ) → ((k : ℕ) → k < n → Other k) → slot_of id (stations_to air n) ≡ None
  unfolding slot_of stations_to station_at
  slot_none zero others = refl
  slot_none (suc n) others = rw (nobody_on n (λ k h. others k (omega arith)), ne_eqb _ _ (others n (omega arith)))

  somebody_on : (n i : ℕ) → i < n → get_or air (1 + 361 * i) 0 ≡ id → on id (stations_to air n) ≡ true
  unfolding on stations_to station_at
  somebody_on zero i h e = absurd (omega arith)
  somebody_on (suc n) i h e =
      ⊎_elim
      (λ (s : i ≡ n). rw (eq-eqb (get_or air (1 + 361 * n) 0) id (rw s at e)))
      (λ (l : i < n). rw (somebody_on n i l e) (either (eqb (get_or air (1 + 361 * n) 0) id)))
      (let j : i ≤ n = omega arith in eq-or-lt_of_le j)
    where
      either : (b : Bool) → (b || true) ≡ true
      either true = refl
      either false = refl

  slot_found : (n i : ℕ) → i < n → get_or air (1 + 361 * i) 0 ≡ id → ((k : ℕ) → k < i → Other k) → slot_of id (stations_to air n) ≡ Some i
  unfolding slot_of stations_to station_at
  slot_found zero i h e others = absurd (omega arith)
  slot_found (suc n) i h e others =
      ⊎_elim
      (λ (s : i ≡ n). rw (s, nobody_on n (λ k l. others k (omega arith)), eq-eqb (get_or air (1 + 361 * n) 0) id (rw s at e), stations_length air n))
      (λ (l : i < n). rw (somebody_on n i l e) (slot_found n i l e others))
      (let j : i ≤ n = omega arith in eq-or-lt_of_le j)

  -- what `find` over the places answers
  pub slot_is : (n : ℕ) (r : Option ℕ)
      → MatchOption r ((k : ℕ) → 0 ≤ k → k < n → Other k) (λ i. (0 ≤ i) × (i < n) × (get_or air (1 + 361 * i) 0 ≡ id) × ((k : ℕ) → 0 ≤ k → k < i → Other k))
      → r ≡ slot_of id (stations_to air n)
  slot_is n None m = sym (slot_none n (λ k h. m k (omega arith) h))
  slot_is n (Some i) m = sym (slot_found n i m.1 m.2 (λ k h. m.3 k (omega arith) h))
