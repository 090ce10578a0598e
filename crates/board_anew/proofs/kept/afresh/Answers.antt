-- `board_anew::kept::afresh` meets its contract.
use mathlib.Core.Path.{◌≡◌, sym, ap, ◌∙◌}
use mathlib.Core.List.{List}
use Prim.Native.Nat.{ℕ, ◌+◌, ◌-◌, ◌*◌}
use native.Mathlib.Numerals.{add-one}
use lib.ListN.{length, get_or, take, drop, length-take, length-drop}
use Rattle.board_air.specs.Words.{kept_of, stations_to}
use Rattle.board_kept.specs.Steps.{kept_by, raised}
use Rattle.board_kept.proofs.Writing.{kept-length}
use Rattle.board_anew.proofs.Keeping.{kept-place}
use native.Mathlib.Omega.{arith}
use Rattle.board_anew.proofs.kept.afresh.Goals as goal

pub loop-k-init : goal.loop-k-init
unfolding stations_to
loop-k-init c = c.put_nobody.ensures

pub slice_bounds-raise-end : goal.slice_bounds-raise-end
slice_bounds-raise-end c = sym (ap length c.loop-k.invariant ∙ kept-length _)

pub raise-requires : goal.raise-requires
raise-requires c = (ap length c.loop-k.invariant ∙ kept-length _, simp (length-take, length-drop) (omega arith))

pub loop-k-preserved : goal.loop-k-preserved
loop-k-preserved c =
    let start = c in
    let air = start.args.air.now in
    let pre = start.requires in
    let k = c.loop-k.k in
    let id = get_or air (1 + 361 * k) 0 in
    let from = 2 + 361 * k in
    let all : 360 + from - from ≡ 360 = omega arith in
    rw add-one
    (c.raise.ensures
    ∙ ap (λ (kept : List ℕ). kept_by (raised id (take (360 + from - from) (drop from air)) kept)) c.loop-k.invariant
    ∙ ap (λ (n : ℕ). kept_by (raised id (take n (drop from air)) (kept_of (stations_to air k)))) all
    ∙ kept-place air (λ i. (c.type_inv.air i).fits) pre.0 start.args.n pre.1 pre.2 k (omega arith))

pub returns : goal.returns
returns c =
    let e : c.loop-k.k ≡ c.args.n = omega arith in
    rw e at c.loop-k.invariant
