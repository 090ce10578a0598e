-- `board_kept::kept::raise` meets its contract.
use mathlib.Core.Path.{◌≡◌, sym, ap, ◌∙◌}
use mathlib.Core.List.{List}
use Prim.Native.Nat.{ℕ, ◌+◌}
use lib.ListN.{length, get_or, set}
use Rattle.board_kept.specs.Steps.{entry, entry_in, better_of, raised}
use Rattle.board_kept.proofs.Writing.{written-length, written_none, written-rest, written-more, written_all}
use native.Mathlib.Omega.{arith}
use Rattle.board_kept.proofs.kept.raise.Goals as goal

pub loop-v-init : goal.loop-v-init
loop-v-init c = written_none (raised c.args.id c.args.bits.now c.args.kept.now) c.args.kept.now c.requires.0

pub entry_in-requires : goal.entry_in-requires
entry_in-requires c =
    let head = c.loop-v in
    let start = c in
    (ap length head.invariant ∙ written-length (raised start.args.id start.args.bits.now start.args.kept.now) start.args.kept.now start.requires.0 head.v (omega arith), omega arith)

pub put_entry-requires : goal.put_entry-requires
put_entry-requires c =
    let head = c.loop-v in
    let start = c in
    (ap length head.invariant ∙ written-length (raised start.args.id start.args.bits.now start.args.kept.now) start.args.kept.now start.requires.0 head.v (omega arith), omega arith)

pub loop-v-preserved : goal.loop-v-preserved
loop-v-preserved c =
    let start = c in
    let a = start.args in
    let head = c.loop-v in
    let best = c.better-best in
    let kept = a.kept.now in
    let new = entry (get_or a.bits.now head.v 0) a.id in
    let here : best.result ≡ raised a.id a.bits.now kept head.v =
    best.ensures
    ∙ ap (better_of new) (c.entry_in.ensures ∙ ap (λ (l : List ℕ). entry_in l head.v) head.invariant ∙ written-rest (raised start.args.id start.args.bits.now start.args.kept.now) kept start.requires.0 head.v (omega arith)) in
    c.put_entry.ensures
    ∙ ap (λ (l : List ℕ). set (set l head.v best.result.bits) (360 + head.v) best.result.id) head.invariant
    ∙ written-more (raised start.args.id start.args.bits.now start.args.kept.now) kept start.requires.0 head.v (omega arith) here

pub shape_of-kept : goal.shape_of-kept
shape_of-kept c =
    let start = c in
    ap length c.loop-v.invariant ∙ written-length (raised start.args.id start.args.bits.now start.args.kept.now) start.args.kept.now start.requires.0 c.loop-v.v (omega arith) ∙ sym start.requires.0

pub returns : goal.returns
returns c =
    let start = c in
    c.loop-v.invariant ∙ written_all (raised start.args.id start.args.bits.now start.args.kept.now) start.args.kept.now start.requires.0 c.loop-v.v (omega arith)
