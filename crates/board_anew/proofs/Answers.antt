-- What a call's answer says of those on: the tests passed where it is 0, and the other way. Assumes nothing.
use mathlib.Core.Path.{◌≡◌}
use mathlib.Core.Bool.{Bool, true, false, cond, not, ◌&&◌}
use mathlib.Core.List.{List}
use Prim.Native.Nat.{ℕ, ◌<◌}
use lib.ListN.{length}
use lib.Dec.{leb, eqb}
use lib.Ieee.{Float}
use borrow.Author.Tests.{leb-false, lt-leb, eqb-true, eq-eqb, not-false, not-true}
use Rattle.floats.specs.Ranges.{all_finite}
use Rattle.floats.proofs.Tests.{both, next}
use Rattle.answers.specs.Refusals.{SPACE, CALL, FULL}
use Rattle.board_air.specs.Stations.{Station}
use Rattle.board_air.specs.Runs.{on, is_id, join_refusal, leave_refusal}

pub record MayJoin (space : Bool) (ss : List Station) (id : ℕ) (row : List Float) : Type 0 where
  pub numbers : all_finite row ≡ true
  pub good : space ≡ true
  pub whole : length row ≡ 360
  pub known : is_id id ≡ true
  pub new : on id ss ≡ false
  pub room : length ss < 16

pub may_join : (space : Bool) (ss : List Station) (id : ℕ) (row : List Float) → join_refusal space ss id row ≡ 0 → MayJoin space ss id row
unfolding join_refusal
may_join space ss id row h =
    let whole = eqb (length row) 360 in
    let full = cond (leb 16 (length ss)) FULL 0 in
    let call = cond (not (is_id id && not (on id ss))) CALL full in
    let p = next (not (all_finite row)) 1 (cond (not (space && whole)) SPACE call) h in
    let q = next (not (space && whole)) 7 call p.1 in
    let r = next (not (is_id id && not (on id ss))) 15 full q.1 in
    let t = next (leb 16 (length ss)) 16 0 r.1 in
    let lent = both space whole (not-false (space && whole) q.0) in
    let mine = both (is_id id) (not (on id ss)) (not-false (is_id id && not (on id ss)) r.0) in
    record {
      numbers = not-false (all_finite row) p.0;
      good = lent.0;
      whole = eqb-true (length row) 360 lent.1;
      known = mine.0;
      new = not-true (on id ss) mine.1;
      room = leb-false 16 (length ss) t.0;
    }

pub joins : (space : Bool) (ss : List Station) (id : ℕ) (row : List Float) → MayJoin space ss id row → join_refusal space ss id row ≡ 0
unfolding join_refusal
joins space ss id row m = rw (m.numbers, m.good, eq-eqb (length row) 360 m.whole, m.known, m.new, lt-leb 16 (length ss) m.room)

pub record MayLeave (space : Bool) (ss : List Station) (id : ℕ) : Type 0 where
  pub good : space ≡ true
  pub present : on id ss ≡ true

pub may_leave : (space : Bool) (ss : List Station) (id : ℕ) → leave_refusal space ss id ≡ 0 → MayLeave space ss id
unfolding leave_refusal
may_leave space ss id h =
    let call = cond (not (is_id id && on id ss)) CALL 0 in
    let p = next (not space) 7 call h in
    let q = next (not (is_id id && on id ss)) 15 0 p.1 in
    record { good = not-false space p.0; present = (both (is_id id) (on id ss) (not-false (is_id id && on id ss) q.0)).1 }
