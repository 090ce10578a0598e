-- `first_mistake`, a line a turn: nothing is wrong with the lines passed. Assumes nothing.
use mathlib.Core.Path.{◌≡◌, refl, sym, ap, ◌∙◌}
use mathlib.Core.Bool.{true, false}
use Prim.Native.Nat.{suc}
use native.Mathlib.Omega.{arith}
use native.Mathlib.Numerals.{add-one}
use lib.ListN.{length}
use Rattle.std.specs.Prelude.{Option, Some, None, is_some}
use Rattle.card.specs.declared.mistakes.Mistake.{Mistake}
use Rattle.fields.specs.declared.Kind.{Kind}
use Rattle.fields.specs.Least.{least}
use Rattle.card.specs.Card.{Card, card_of, line_at}
use Rattle.card.specs.Mistakes.{is_wrong, mistake_in, first_mistake}
use Rattle.fields.proofs.Least.{least_more, least-found, least-none, least-all}
use Rattle.card.proofs.Walk.{walk_start, walk_end, walk_on, forward, inside, next-counted, next-line}
use Rattle.card.proofs.checks.first_mistake.Goals as goal

-- nothing is wrong with line 0, which there isn't
line-0 : (kind : Kind) (card : Card) → mistake_in kind card 0 ≡ None
unfolding mistake_in line_at
line-0 kind card = refl

not_some : (o : Option Mistake) → ((m : Mistake) → o ≡ Some m → ⊥) → is_some o ≡ false
not_some None h = refl
not_some (Some m) h = absurd (h m refl)

pub loop-at-init : goal.loop-at-init
unfolding least
loop-at-init c = (walk_start _ _ c.text_start-at.ensures, refl)

pub overflow_add-number : goal.overflow_add-number
overflow_add-number c = omega (arith, c.loop-at.invariant.0.counted)

pub mistake_in-requires : goal.mistake_in-requires
mistake_in-requires c = next-line c.loop-at.invariant.0 c.loop-at-test.true c.line_end-to.ensures refl refl

pub returns-in-Some : goal.returns-in-Some
unfolding first_mistake
returns-in-Some c =
    let l = c.loop-at in
    let a = c.args in
    let card = card_of a.text.now in
    let its = rw (c.in-Some.is, add-one) at c.mistake_in.ensures in
    let here : is_wrong a.kind card (suc l.number) ≡ true = ap is_some (sym its) in
    let found : least (is_wrong a.kind card) (length card) ≡ suc l.number = least-found (is_wrong a.kind card) l.number (length card) l.invariant.1 here (next-counted l.invariant.0 c.loop-at-test.true c.line_end-to.ensures) in
    its ∙ ap (mistake_in a.kind card) (sym found)

pub slice_bounds-line-count : goal.slice_bounds-line-count
slice_bounds-line-count c = forward c.loop-at.invariant.0 c.loop-at-test.true c.line_end-to.ensures

pub slice_bounds-line-start : goal.slice_bounds-line-start
slice_bounds-line-start c = forward c.loop-at.invariant.0 c.loop-at-test.true c.line_end-to.ensures

pub slice_bounds-line-end : goal.slice_bounds-line-end
slice_bounds-line-end c = inside c.loop-at.invariant.0 c.loop-at-test.true c.line_end-to.ensures

pub overflow_add-at : goal.overflow_add-at
overflow_add-at c = omega (arith, inside c.loop-at.invariant.0 c.loop-at-test.true c.line_end-to.ensures)

pub loop-at-smaller : goal.loop-at-smaller
loop-at-smaller c = omega (arith, forward c.loop-at.invariant.0 c.loop-at-test.true c.line_end-to.ensures)

pub loop-at-preserved : goal.loop-at-preserved
loop-at-preserved c =
    let l = c.loop-at in
    let a = c.args in
    let card = card_of a.text.now in
    let its = rw add-one at c.mistake_in.ensures in
    let here : is_wrong a.kind card (suc l.number) ≡ false = ap is_some (sym its) ∙ not_some _ c.in_default.not-Some in
    rw add-one (walk_on l.invariant.0 c.loop-at-test.true c.line_end-to.ensures, least_more (is_wrong a.kind card) l.number l.invariant.1 here)

pub returns : goal.returns
unfolding first_mistake
returns c =
    let l = c.loop-at in
    let a = c.args in
    let card = card_of a.text.now in
    let wrong = is_wrong a.kind card in
    let few = walk_end l.invariant.0 c.loop-at-test.false in
    let none = least-all wrong (length card) (λ i h. least-none wrong l.number l.invariant.1 i (omega (arith, few))) in
    sym (line-0 a.kind card) ∙ sym (ap (mistake_in a.kind card) none)
