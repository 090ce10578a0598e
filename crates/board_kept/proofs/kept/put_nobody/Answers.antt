-- `board_kept::kept::put_nobody` meets its contract.
use mathlib.Core.Path.{sym, ap, ◌∙◌}
use mathlib.Core.List.{List}
use Prim.Native.Nat.{ℕ, ◌+◌}
use lib.ListN.{length, set}
use Rattle.board_kept.proofs.Writing.{written-length, written_none, written-more, written_all}
use Rattle.board_kept.proofs.Nobody.{kept-none}
use native.Mathlib.Omega.{arith}
use Rattle.board_kept.proofs.kept.put_nobody.Invariants.{none_at}
use Rattle.board_kept.proofs.kept.put_nobody.Goals as goal

pub loop-v-init : goal.loop-v-init
loop-v-init c = written_none none_at c.args.kept.now c.requires

pub put_entry-requires : goal.put_entry-requires
put_entry-requires c =
    let head = c.loop-v in
    let start = c in
    (ap length head.invariant ∙ written-length none_at start.args.kept.now start.requires head.v (omega arith), omega arith)

pub loop-v-preserved : goal.loop-v-preserved
loop-v-preserved c =
    let start = c in
    let head = c.loop-v in
    let new = c.nobody in
    c.put_entry.ensures
    ∙ ap (λ (l : List ℕ). set (set l head.v new.result.bits) (360 + head.v) new.result.id) head.invariant
    ∙ written-more none_at start.args.kept.now start.requires head.v (omega arith) new.ensures

pub shape_of-kept : goal.shape_of-kept
shape_of-kept c =
    let start = c in
    ap length c.loop-v.invariant ∙ written-length none_at start.args.kept.now start.requires c.loop-v.v (omega arith) ∙ sym start.requires

pub returns : goal.returns
returns c =
    let start = c in
    c.loop-v.invariant ∙ written_all none_at start.args.kept.now start.requires c.loop-v.v (omega arith) ∙ kept-none
