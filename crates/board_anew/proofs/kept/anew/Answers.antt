-- `board_anew::kept::anew` meets its contract.
use mathlib.Core.Path.{◌≡◌, sym, ap, ◌∙◌}
use mathlib.Core.List.{List}
use Prim.Native.Nat.{ℕ, ◌+◌, ◌-◌, ◌*◌}
use native.Mathlib.Numerals.{add-one}
use lib.ListN.{length, get_or, take, drop, length-take, length-drop}
use Rattle.board_air.specs.Words.{stations_to}
use Rattle.board_kept.specs.Steps.{kept_by, raised_vacated, renewed}
use Rattle.board_kept.proofs.Writing.{by_length}
use Rattle.board_anew.proofs.Keeping.{renewed-place}
use native.Mathlib.Omega.{arith}
use Rattle.board_anew.proofs.kept.anew.Goals as goal

pub vacated-left-requires : goal.vacated-left-requires
vacated-left-requires c = c.requires.3

pub loop-k-init : goal.loop-k-init
unfolding stations_to
loop-k-init c = c.vacated-left.ensures

pub slice_bounds-raise_vacated-end : goal.slice_bounds-raise_vacated-end
slice_bounds-raise_vacated-end c = sym (ap length c.loop-k.invariant ∙ by_length _)

pub raise_vacated-requires : goal.raise_vacated-requires
raise_vacated-requires c = (ap length c.loop-k.invariant ∙ by_length _, c.requires.3, simp (length-take, length-drop) (omega arith))

pub loop-k-preserved : goal.loop-k-preserved
loop-k-preserved c =
    let start = c in
    let a = start.args in
    let air = a.air.now in
    let kept = a.kept.now in
    let gone = a.gone in
    let pre = start.requires in
    let head = c.loop-k in
    let k = head.k in
    let id = get_or air (1 + 361 * k) 0 in
    let from = 2 + 361 * k in
    let all : 360 + from - from ≡ 360 = omega arith in
    rw add-one
    (c.raise_vacated.ensures
    ∙ ap (λ (left : List ℕ). kept_by (raised_vacated gone kept id (take (360 + from - from) (drop from air)) left)) head.invariant
    ∙ ap (λ (m : ℕ). kept_by (raised_vacated gone kept id (take m (drop from air)) (kept_by (renewed gone (stations_to air k) kept)))) all
    ∙ renewed-place air (λ i. (c.type_inv.air i).fits) pre.0 a.n pre.1 pre.2 gone kept k (omega arith))

pub returns : goal.returns
returns c =
    let e : c.loop-k.k ≡ c.args.n = omega arith in
    rw e at c.loop-k.invariant
