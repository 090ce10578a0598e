-- The list of active elements among 1 to n: at most n, and each entry names an element.
use Rattle.std.proofs.Common.{◌≡◌, ℕ, zero, suc, ◌+◌, ◌<◌, ◌≤◌, Bool, true, false, cond, List, length, get_or, set, refl, ◌∙◌, ne_of_lt, add-one, arith, length-set, get_or-set_other, get_or-set_same, le-leb}
use lib.ListN.{length-replicate}
use lib.Ieee.{Float}
use Rattle.floats.specs.Ops.{at}
use Rattle.floats.specs.Ranges.{between}
use Rattle.model.specs.Counts.{element_ok, elements_ok}
use Rattle.model.proofs.ActiveElements.{active_below}
use Rattle.logperiodic.specs.Active.{appended, active_to, Listed}
use Rattle.logperiodic.specs.declared.current.Band.{Band}
use Rattle.logperiodic.specs.declared.active.Active.{Active}

-- active element k, counted from 0, indexes the arrays
pub below : {iek : List ℕ} {nat k : ℕ} → Listed iek nat → k < nat → get_or iek (k + 1) 0 < 31
below {iek} {nat} {k} l h = active_below iek nat k l.named h

-- a store past the entries that are asked about
entries_kept : (iek : List ℕ) (j v k : ℕ) → k < j → elements_ok (set iek j v) k ≡ elements_ok iek k
unfolding elements_ok
entries_kept iek j v zero h = refl
entries_kept iek j v (suc k) h =
    rw (entries_kept iek j v k (omega arith), get_or-set_other iek j (suc k) v 0 (ne_of_lt h))

record Within (n : ℕ) (a : Active) : Type 0 where
  few : a.nat ≤ n
  room : length a.iek ≡ 36
  named : elements_ok a.iek a.nat ≡ true

append_within : (s : Band) (l : Float) (n : ℕ) (a : Active) → suc n ≤ 30 → Within n a → Within (suc n) (appended a s (suc n) l)
unfolding appended elements_ok element_ok
append_within s l n a b w = go (between l s.rllow s.rlup)
  where
    go : (t : Bool) → Within (suc n) (cond t (record { iek = set a.iek (a.nat + 1) (suc n); nat = a.nat + 1 }) a)
    go true =
        let few = w.few in
        record {
          few = omega arith;
          room = length-set a.iek (a.nat + 1) (suc n) ∙ w.room;
          named = rw add-one
              (simp (
                entries_kept a.iek (suc a.nat) (suc n) a.nat (omega arith),
                w.named,
                get_or-set_same a.iek (suc a.nat) (suc n) 0 (rw w.room (omega arith)),
                le-leb 1 (suc n) (omega arith),
                le-leb (suc n) 30 b,
              ));
        }
    go false = record { few = omega (arith, w.few); room = w.room; named = w.named }

within : (s : Band) (rl : List Float) (n : ℕ) → n ≤ 30 → Within n (active_to s rl n)
unfolding active_to elements_ok
within s rl zero h = record { few = omega arith; room = length-replicate {A = ℕ} 36 0; named = refl }
within s rl (suc n) h = append_within s (at rl (suc n)) n (active_to s rl n) h (within s rl n (omega arith))

module _ (s : Band) (rl : List Float) (n : ℕ) (h : n ≤ 30) where
  pub active_few : (active_to s rl n).nat ≤ n
  active_few = (within s rl n h).few

  pub active_listed : Listed (active_to s rl n).iek (active_to s rl n).nat
  active_listed = let w = within s rl n h in record { few = omega (arith, w.few); named = w.named }
