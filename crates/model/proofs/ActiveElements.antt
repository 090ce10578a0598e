-- What accepted counts say of the active elements: at most 30, and each entry of the list names one below 31.
use Prim.Native.Nat.{ℕ, zero, suc, ◌+◌, ◌≤◌, ◌<◌}
use mathlib.Core.Path.{◌≡◌}
use mathlib.Core.Bool.{true, ◌&&◌}
use mathlib.Core.List.{List}
use mathlib.Core.Logic.{⊎_elim}
use native.Mathlib.Nat.{eq-or-lt_of_le}
use native.Mathlib.Omega.{arith}
use native.Mathlib.Numerals.{add-one}
use borrow.Author.Tests.{leb-true}
use lib.ListN.{get_or}
use lib.Dec.{leb}
use Rattle.model.specs.Counts.{element_ok, elements_ok, count_ok, counts_ok}
use Rattle.model.specs.declared.record.Model.{Model}
use Rattle.floats.proofs.Tests.{both}

element_below : (i : ℕ) → element_ok i ≡ true → i < 31
unfolding element_ok
element_below i h = let e = leb-true i 30 (both (leb 1 i) (leb i 30) h).1 in omega arith

-- active element k, counted from 0
pub active_below : (iek : List ℕ) (n k : ℕ) → elements_ok iek n ≡ true → k < n → get_or iek (k + 1) 0 < 31
unfolding elements_ok
active_below iek zero k h l = absurd (omega arith)
active_below iek (suc n) k h l =
    let p = both (elements_ok iek n) (element_ok (get_or iek (suc n) 0)) h in
    let le : k ≤ n = omega arith in
    ⊎_elim
    (λ (e : k ≡ n). rw (e, add-one) (element_below (get_or iek (suc n) 0) p.1))
    (λ (lt : k < n). active_below iek n k p.0 lt)
    (eq-or-lt_of_le le)

module _ (m : Model) (ok : counts_ok m ≡ true) where
  pub few_active : m.elements.nat ≤ 30
  unfolding counts_ok
  few_active = leb-true m.elements.nat 30 (both (leb m.elements.nat 30) _ ok).0

  pub active_named : elements_ok m.elements.iek m.elements.nat ≡ true
  unfolding counts_ok
  active_named =
      let rest = (both (leb m.elements.nat 30) _ ok).1 in
      (both (count_ok m.constants.r2 && count_ok m.constants.r3) _ rest).1

  -- and so each entry names an element
  pub named_below : (k : ℕ) → k < m.elements.nat → get_or m.elements.iek (k + 1) 0 < 31
  named_below k l = active_below m.elements.iek m.elements.nat k active_named l
