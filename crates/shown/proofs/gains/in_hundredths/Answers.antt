-- `shown::gains::in_hundredths` meets its contract. Assumes nothing.
use Prim.Native.Nat.{ℕ}
use mathlib.Core.Path.{◌≡◌, refl, sym, ◌∙◌}
use mathlib.Core.Bool.{true}
use native.Mathlib.Omega.{arith}
use lib.ListN.{length-set}
use Rattle.floats.specs.Ops.{at}
use Rattle.hundredths.specs.Hundredths.{in_span}
use Rattle.hundredths.specs.Raised.{raised_of}
use Rattle.shown.specs.Plate.{in_hundredths, gain_in}
use Rattle.shown.proofs.Filled.{filled_more}
use Rattle.shown.proofs.Plates.{entry-shown, out_of_span}
use Rattle.shown.proofs.InOrder.{in_order_accepted, in_order_refused}
use Rattle.shown.proofs.gains.in_hundredths.Goals as goal

pub loop-v-init : goal.loop-v-init
loop-v-init c = (refl, λ k h. absurd (omega arith))

pub returns-then-not-in_span : goal.returns-then-not-in_span
returns-then-not-in_span c =
    let loop = c.loop-v in
    let a = c.args in
    let numbers = a.numbers.now in
    sym
    (in_order_refused (λ (v : ℕ). in_hundredths (gain_in a.kinds numbers v)) _ loop.v
    (λ k h. entry-shown a.kinds loop.out numbers k (loop.invariant.1 k h))
    (out_of_span _ (at numbers loop.v) (sym c.in_span.ensures ∙ c.if-not-in_span.true)) 360 (omega arith))

pub raised-requires : goal.raised-requires
raised-requires c = sym c.in_span.ensures ∙ c.if-not-in_span.false

pub loop-v-preserved : goal.loop-v-preserved
loop-v-preserved c =
    let loop = c.loop-v in
    let x = at c.args.numbers.now in
    let known : in_span (x loop.v) ≡ true = sym c.in_span.ensures ∙ c.if-not-in_span.false in (
      rw length-set loop.invariant.0,
      filled_more (λ (k n : ℕ). (in_span (x k) ≡ true) × (n ≡ raised_of (x k))) loop.out loop.v c.raised.result 0 (omega arith) loop.invariant.1 (known, c.raised.ensures),
    )

pub returns : goal.returns
returns c =
    let loop = c.loop-v in
    let a = c.args in
    sym
    (in_order_accepted (λ (v : ℕ). in_hundredths (gain_in a.kinds a.numbers.now v)) _ 360
    λ k h. entry-shown a.kinds loop.out a.numbers.now k (loop.invariant.1 k (omega arith)))
