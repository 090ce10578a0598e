-- The flat table of a model: its length, and +0 for each element that isn't active.
use Prim.Native.Nat.{ℕ, zero, suc, ◌≤◌, ◌<◌}
use mathlib.Core.Path.{◌≡◌, refl, ◌∙◌}
use mathlib.Core.Bool.{Bool, true, false, cond}
use mathlib.Core.List.{List}
use native.Mathlib.Numerals.{add-one}
use native.Mathlib.Omega.{arith}
use lib.ListN.{length, get_or, length-set, get_or-replicate}
use lib.Seq.{get_or-set_other}
use lib.Ieee.{Float, nan}
use Rattle.model.specs.Counts.{counts_ok}
use Rattle.floats.specs.Ops.{+0}
use Rattle.model.specs.Table.{table_size, cell, blank_table}
use Rattle.model.specs.declared.record.Entry.{Entry}
use Rattle.model.specs.declared.record.Model.{Model}
use Rattle.model.proofs.BlankTable.{blank-length}
use Rattle.model.proofs.ActiveElements.{active_below, active_named}
use Rattle.elevation.specs.Entry.{with_entry}
use Rattle.ground.specs.Table.{entry_at, row_to, elevations_to, table_of}
use Rattle.model.specs.Types.{log_periodic}

with_length : (t : List Float) (u i : ℕ) (e : Entry) → length (with_entry t u i e) ≡ length t
unfolding with_entry
with_length t u i e = simp length-set

row-length : (entry : ℕ → Entry) (iek : List ℕ) (u : ℕ) (t : List Float) (k : ℕ) → length (row_to entry iek u t k) ≡ length t
unfolding row_to
row-length entry iek u t zero = refl
row-length entry iek u t (suc k) = with_length _ u _ _ ∙ row-length entry iek u t k

-- the cells of different elements are different
apart : (w v u x i j : ℕ) → i < 31 → j < 31 → (i ≡ j → ⊥) → cell w u i ≡ cell v x j → ⊥
apart w v u x i j hi hj ne e = ne (omega arith)

module _ (w u i : ℕ) (hi : i < 31) where
  with_past : (t : List Float) (x j : ℕ) (e : Entry) → j < 31 → (i ≡ j → ⊥) → get_or (with_entry t x j e) (cell w u i) nan ≡ get_or t (cell w u i) nan
  unfolding with_entry
  with_past t x j e hj ne =
      let n0 = apart w 0 u x i j hi hj ne in
      let n1 = apart w 1 u x i j hi hj ne in
      let n2 = apart w 2 u x i j hi hj ne in
      let n3 = apart w 3 u x i j hi hj ne in
      rw (get_or-set_other, get_or-set_other, get_or-set_other, get_or-set_other)

module _ (m : Model) where
  elevations_length : (t : List Float) (n : ℕ) → length (elevations_to m t n) ≡ length t
  unfolding elevations_to
  elevations_length t zero = refl
  elevations_length t (suc n) = row-length (entry_at m n) m.elements.iek n (elevations_to m t n) m.elements.nat ∙ elevations_length t n

  pub table_length : length (table_of m) ≡ table_size
  unfolding table_of
  table_length = go (log_periodic m.iant)
    where
      go : (b : Bool) → length (cond b (elevations_to m blank_table 91) blank_table) ≡ table_size
      go true = elevations_length blank_table 91 ∙ blank-length
      go false = blank-length

-- element i, which is none of the active ones
module _ (m : Model) (ok : counts_ok m ≡ true) (w u i : ℕ) (hi : i < 31) (idle : (k : ℕ) → k < m.elements.nat → i ≡ get_or m.elements.iek (suc k) 0 → ⊥) where
  row-past : (x : ℕ) (t : List Float) (k : ℕ) → k ≤ m.elements.nat
      → get_or (row_to (entry_at m x) m.elements.iek x t k) (cell w u i) nan ≡ get_or t (cell w u i) nan
  unfolding row_to
  row-past x t zero h = refl
  row-past x t (suc k) h =
      with_past w u i hi _ x _ _ (rw add-one at (active_below _ _ k (active_named m ok) h)) (idle k h) ∙ row-past x t k (omega arith)

  elevations_past : (t : List Float) (n : ℕ) → get_or (elevations_to m t n) (cell w u i) nan ≡ get_or t (cell w u i) nan
  unfolding elevations_to
  elevations_past t zero = refl
  elevations_past t (suc n) = row-past n (elevations_to m t n) m.elements.nat (omega arith) ∙ elevations_past t n

  blank-at : cell w u i < table_size → get_or blank_table (cell w u i) nan ≡ +0
  unfolding blank_table
  blank-at h = rw get_or-replicate

  pub unfilled : cell w u i < table_size → get_or (table_of m) (cell w u i) nan ≡ +0
  unfolding table_of
  unfilled h = go (log_periodic m.iant)
    where
      go : (b : Bool) → get_or (cond b (elevations_to m blank_table 91) blank_table) (cell w u i) nan ≡ +0
      go true = elevations_past blank_table 91 ∙ blank-at h
      go false = blank-at h
