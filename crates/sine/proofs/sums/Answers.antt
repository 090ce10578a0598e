-- `sine::sums`. The invariant: what is summed so far and what is left make the whole. The measure is the number of terms left.
use mathlib.Core.Path.{◌≡◌, ◌∙◌, ap}
use Prim.Native.Nat.{ℕ, ◌+◌, ◌*◌, ◌^◌, ◌≤◌}
use native.Mathlib.Omega.{arith}
use Rattle.sine.specs.Sine.{next_term, sums}
use Rattle.sine.proofs.Terms.{sums-from, next_le, sums-small, sums-two, sums-one, sums_none, summable_two}
use Rattle.sine.proofs.sums.Goals as goal
use Rattle.sine.proofs.sums.Goals.{After-next_term-p, Start, Then-left-eq1}

-- the whole is small
small : (s : Start) → (sums s.args.t s.args.start s.args.n s.args.first).0 + (sums s.args.t s.args.start s.args.n s.args.first).1 ≤ 9 * 2 ^ 31
small s = sums-small s.args.t s.args.start s.args.n s.args.first s.requires

pub overflow_add-added : goal.overflow_add-added
overflow_add-added c =
    let a = c.before.before in
    let e = sums-two a.before.args.t a.loop-left.j a.loop-left.left a.loop-left.p c.before.loop-left-test.true in
    record { fits = omega (arith, small a.before, e.0, a.loop-left.invariant.1) }

pub overflow_add-taken : goal.overflow_add-taken
overflow_add-taken c =
    let a = c.before.before in
    let e = sums-two a.before.args.t a.loop-left.j a.loop-left.left a.loop-left.p c.before.loop-left-test.true in
    record { fits = omega (arith, small a.before, c.next_term-q.ensures, e.1, a.loop-left.invariant.2) }

pub next_term-p-requires : goal.next_term-p-requires
next_term-p-requires c =
    let a = c.before.before in
    let s = a.loop-left.invariant.0 in
    (s.angle, rw c.next_term-q.ensures (next_le a.before.args.t a.loop-left.j a.loop-left.p s.angle s.divisor s.first), omega arith, omega (arith, s.terms))

-- what the second call gives
second : (c : After-next_term-p) → let a = c.before.before.before in c.next_term-p.result ≡ next_term a.before.args.t (a.loop-left.j + 2) (next_term a.before.args.t a.loop-left.j a.loop-left.p)
second c = let a = c.before.before.before in c.next_term-p.ensures ∙ ap (next_term a.before.args.t (a.loop-left.j + 2)) c.before.next_term-q.ensures

pub loop-left-preserved : goal.loop-left-preserved
loop-left-preserved c =
    let a = c.before.before.before in
    let more = c.before.before.loop-left-test.true in
    let e = sums-two a.before.args.t a.loop-left.j a.loop-left.left a.loop-left.p more in
    rw (second c) (
      summable_two a.before.args.t a.loop-left.j a.loop-left.left a.loop-left.p more a.loop-left.invariant.0,
      omega (arith, e.0, a.loop-left.invariant.1),
      omega (arith, c.before.next_term-q.ensures, e.1, a.loop-left.invariant.2),
    )

-- after the loop: one term more, or none
one_left : (c : Then-left-eq1) → let a = c.before.before in ((sums a.before.args.t a.loop-left.j a.loop-left.left a.loop-left.p).0 ≡ a.loop-left.p) × ((sums a.before.args.t a.loop-left.j a.loop-left.left a.loop-left.p).1 ≡ next_term a.before.args.t a.loop-left.j a.loop-left.p)
one_left c = let a = c.before.before in sums-one a.before.args.t a.loop-left.j a.loop-left.left a.loop-left.p c.if-left-eq1.true

pub overflow_add-added-2 : goal.overflow_add-added-2
overflow_add-added-2 c = let a = c.before in record { fits = omega (arith, small a.before, sums-from a.before.args.t a.loop-left.j a.loop-left.left a.loop-left.p, a.loop-left.invariant.1) }

pub overflow_add-taken-then-left-eq1 : goal.overflow_add-taken-then-left-eq1
overflow_add-taken-then-left-eq1 c = let a = c.before.before.before in record { fits = omega (arith, small a.before, c.next_term-taken.ensures, (one_left c.before).1, a.loop-left.invariant.2) }

pub returns-then-left-eq1 : goal.returns-then-left-eq1
returns-then-left-eq1 c =
    let a = c.before.before.before in
    let e = one_left c.before in
    (omega (arith, e.0, a.loop-left.invariant.1), omega (arith, c.next_term-taken.ensures, e.1, a.loop-left.invariant.2))

pub returns-else-left-eq1 : goal.returns-else-left-eq1
returns-else-left-eq1 c =
    let a = c.before.before in
    let e = sums_none a.before.args.t a.loop-left.j a.loop-left.left a.loop-left.p (none a.loop-left.left c.before.loop-left-test.false c.if-left-eq1.false) in
    (omega (arith, e.0, a.loop-left.invariant.1), omega (arith, e.1, a.loop-left.invariant.2))
  where
    none : (n : ℕ) → n ≤ 1 → (n ≡ 1 → ⊥) → n ≡ 0
    none n h k = omega arith
