-- `board_kept::kept::raise_vacated` meets its contract.
use mathlib.Core.Path.{◌≡◌, sym, ap, ◌∙◌}
use mathlib.Core.List.{List}
use Prim.Native.Nat.{ℕ, ◌+◌}
use lib.ListN.{length, get_or, set}
use borrow.Author.Tests.{eq-eqb, ne_eqb}
use Rattle.board_kept.specs.Steps.{entry, entry_in, better_of, raised_vacated}
use Rattle.board_kept.proofs.Writing.{written-length, written_none, written-rest, written-more, written_all}
use native.Mathlib.Omega.{arith}
use Rattle.board_kept.proofs.kept.raise_vacated.Goals as goal
use Rattle.board_kept.proofs.kept.raise_vacated.Goals.{then-kept-v, else-kept-v}

pub loop-v-init : goal.loop-v-init
loop-v-init c =
    let start = c in
    let f = raised_vacated start.args.gone start.args.kept.now start.args.id start.args.bits.now start.args.left.now in
    written_none f start.args.left.now start.requires.0

pub entry_in-old-requires : goal.entry_in-old-requires
entry_in-old-requires c =
    let start = c in
    let head = c.loop-v in
    let f = raised_vacated start.args.gone start.args.kept.now start.args.id start.args.bits.now start.args.left.now in
    (ap length head.invariant ∙ written-length f start.args.left.now start.requires.0 head.v (omega arith), omega arith)

pub put_entry-requires : goal.put_entry-requires
put_entry-requires c =
    let start = c in
    let head = c.loop-v in
    let f = raised_vacated start.args.gone start.args.kept.now start.args.id start.args.bits.now start.args.left.now in
    (ap length head.invariant ∙ written-length f start.args.left.now start.requires.0 head.v (omega arith), omega arith)

pub loop-v-preserved : goal.loop-v-preserved
loop-v-preserved c =
    let start = c in
    let a = start.args in
    let head = c.loop-v in
    let kept = a.kept.now in
    let left = a.left.now in
    let f = raised_vacated a.gone kept a.id a.bits.now left in
    let new = entry (get_or a.bits.now head.v 0) a.id in
    let old = c.entry_in-old.ensures ∙ ap (λ (l : List ℕ). entry_in l head.v) head.invariant ∙ written-rest f left start.requires.0 head.v (omega arith) in
    let best = c.better-best.ensures ∙ ap (better_of new) old in
    let rest = c.if-kept-v in
    let here : rest.rest ≡ f head.v =
    elim rest.branch [
      | then-kept-v w ↦ w.rest-is ∙ best ∙ rw (eq-eqb (get_or kept (360 + head.v) 0) a.gone w.if-kept-v.true)
      | else-kept-v w ↦ w.rest-is ∙ old ∙ rw (ne_eqb (get_or kept (360 + head.v) 0) a.gone w.if-kept-v.false)
    ] in
    c.put_entry.ensures
    ∙ ap (λ (l : List ℕ). set (set l head.v rest.rest.bits) (360 + head.v) rest.rest.id) head.invariant
    ∙ written-more f left start.requires.0 head.v (omega arith) here

pub shape_of-left : goal.shape_of-left
shape_of-left c =
    let start = c in
    let f = raised_vacated start.args.gone start.args.kept.now start.args.id start.args.bits.now start.args.left.now in
    ap length c.loop-v.invariant ∙ written-length f start.args.left.now start.requires.0 c.loop-v.v (omega arith) ∙ sym start.requires.0

pub returns : goal.returns
returns c =
    let start = c in
    let f = raised_vacated start.args.gone start.args.kept.now start.args.id start.args.bits.now start.args.left.now in
    c.loop-v.invariant ∙ written_all f start.args.left.now start.requires.0 c.loop-v.v (omega arith)
