-- What an accepted request says: its antenna record and its table are those that set-up left. Assumes nothing.
use Prim.Native.Nat.{ℕ, ◌≤◌}
use mathlib.Core.Path.{◌≡◌, subst}
use mathlib.Core.Bool.{true}
use mathlib.Core.List.{List}
use borrow.Author.Tests.{leb-true}
use lib.Dec.{leb}
use lib.ListN.{length}
use Rattle.answers.specs.Outcome.{accepted}
use Rattle.answers.proofs.Outcome.{same}
use Rattle.model.specs.Table.{table_size, blank_table}
use Rattle.model.proofs.BlankTable.{blank-length}
use Rattle.model.specs.Limits.{slot}
use Rattle.model.specs.Types.{jant_of, type_ok}
use Rattle.antenna.specs.SetUp.{model_of, set_up_of, lent_after}
use Rattle.antenna.specs.TableSum.{own_table}
use Rattle.antenna_laws.proofs.Answered.{accepted-type, own_after_set_up}
use Rattle.antenna_laws.proofs.Outcomes.{accepted_model}
use Rattle.floats.proofs.Tests.{both}
use Rattle.request.specs.declared.Request.{Request}
use Rattle.request.specs.Request.{antenna_of, tuned_of, request_of, left_after, table_after}
use Rattle.request.proofs.Then.{then_only}

-- the readings of set-up, which accepted
pub record SetUp (q : Request) (size : ℕ) : Type 0 where
  pub readings : ℕ
  pub accepts : set_up_of q.parm size ≡ accepted (q.antenna, readings)

pub ready-set-up : (input : List ℕ) (size : ℕ) {q : Request} → request_of input size ≡ accepted q → SetUp q size
unfolding request_of tuned_of antenna_of
ready-set-up input size h =
    let read = then_only _ _ h in
    let maximum = then_only _ _ read.follows in
    let set_up_lem = then_only _ _ maximum.follows in
    let e = same set_up_lem.follows in
    record { readings = set_up_lem.first.1; accepts = subst (λ (r : Request). set_up_of r.parm size ≡ accepted (r.antenna, set_up_lem.first.1)) e set_up_lem.accepts }

module _ (input : List ℕ) {q : Request} (h : request_of input table_size ≡ accepted q) where
  pub ready_table : table_after input blank_table ≡ lent_after q.parm blank_table
  unfolding table_after left_after
  ready_table = rw (blank-length, h)

  -- set-up with this table lent
  pub ready-left : SetUp q (length blank_table)
  ready-left = let s = ready-set-up input table_size h in record { readings = s.readings; accepts = rw blank-length s.accepts }

  pub ready_own : own_table q.antenna (table_after input blank_table) ≡ true
  ready_own = rw ready_table (own_after_set_up q.parm blank_table ready-left.accepts)

  -- set-up takes types 1 to 9 only
  pub ready-type : (1 ≤ jant_of (slot q.parm 1)) × (jant_of (slot q.parm 1) ≤ 9)
  unfolding type_ok model_of
  ready-type =
      let iant = jant_of (slot q.parm 1) in
      let left = ready-left.accepts in
      let ok : type_ok (model_of iant q.parm).iant ≡ true = rw (accepted_model q.parm (length blank_table) left) at (accepted-type q.parm blank_table left) in
      let two = both (leb 1 iant) (leb iant 9) ok in
      (leb-true 1 iant two.0, leb-true iant 9 two.1)

-- with a blank table lent
pub own_of_request : (input : List ℕ) {q : Request} → request_of input (length blank_table) ≡ accepted q → own_table q.antenna (table_after input blank_table) ≡ true
own_of_request input h = ready_own input (rw blank-length at h)
