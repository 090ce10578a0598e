-- `board_anew::kept::put_kept` meets its contract.
use mathlib.Core.Path.{◌≡◌, refl, ap, ◌∙◌}
use mathlib.Core.List.{map}
use Prim.Native.Nat.{ℕ}
use lib.ListN.{take, length-set, length-map, get_or-map}
use lib.Ieee.{binary32, of_bits}
use Rattle.board_air.specs.Stations.{up_to}
use Rattle.board_kept.proofs.Writing.{up_to-none, up_to-more, up_to-all, up_to-same}
use Rattle.board_anew.proofs.Parts.{up_to-read}
use native.Mathlib.Omega.{arith}
use Rattle.board_anew.proofs.kept.put_kept.Invariants.{id_of}
use Rattle.board_anew.proofs.kept.put_kept.Goals as goal

pub loop-v-init : goal.loop-v-init
loop-v-init c =
    let a = c.args in (up_to-none (id_of a.kept.now) a.ids.now, c.requires.2)

pub loop-v-preserved : goal.loop-v-preserved
loop-v-preserved c =
    let a = c.args in
    let head = c.loop-v in (
      rw head.invariant.0 (up_to-more (id_of a.kept.now) a.ids.now head.v (omega arith) refl),
      rw length-set head.invariant.1,
    )

pub returns : goal.returns
returns c =
    let a = c.args in
    let kept = a.kept.now in
    let numbers = map (of_bits binary32) kept in
    let head = c.loop-v in
    let e : head.v ≡ 360 = omega arith in record {
      numbers_after =
          c.read_bits.ensures
          ∙ ap (λ (n : ℕ). take n numbers) c.requires.1
          ∙ up_to-read numbers (of_bits binary32 0) 360 (omega (arith, length-map kept (of_bits binary32)))
          ∙ up_to-same 360 (λ v h. get_or-map (of_bits binary32) kept v 0);
      ids_after = head.invariant.0 ∙ up_to-all (id_of a.kept.now) a.ids.now head.v (omega arith) ∙ ap (up_to (id_of a.kept.now)) e;
    }
