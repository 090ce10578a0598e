-- `plate_row::row::folded` meets its contract.
use Prim.Native.Nat.{ℕ, ◌-◌}
use mathlib.Core.Path.{◌≡◌, sym, ap, ◌∙◌}
use native.Mathlib.Numerals.{add-one}
use native.Mathlib.Omega.{arith}
use lib.Ieee.{Float}
use Rattle.floats.specs.Filled.{filled_to}
use Rattle.floats.proofs.Filled.{filled_at}
use Rattle.plate_row.specs.Folded.{Mirrored}
use Rattle.plate_row.proofs.row.folded.Goals as goal
use Rattle.plate_row.proofs.row.folded.Goals.{then-v-eq270, else-v-eq270}

pub loop-v-preserved : goal.loop-v-preserved
unfolding filled_to
loop-v-preserved c =
    let v = c.loop-v.v in
    -- the number stored at v: at 270 what is given for it, else the mirror image's, which is there already
    let stored : (f : ℕ → Float) → Mirrored f → c.args.half ≡ filled_to f 360 181 → c.args.west ≡ f 270 → c.if-v-eq270.out ≡ f v =
    λ f m e w. elim c.if-v-eq270.branch [
      | then-v-eq270 t ↦ t.out-is ∙ w ∙ ap f (sym t.if-v-eq270.true)
      | else-v-eq270 t ↦ t.out-is ∙ rw (c.loop-v.invariant f m e w) (filled_at f 360 v (360 - v) (omega arith) (omega arith)) ∙ sym (m v (omega arith) (λ (x : v ≡ 90). omega arith) t.if-v-eq270.false)
    ] in
    λ f m e w. rw (add-one, stored f m e w, c.loop-v.invariant f m e w)

pub returns : goal.returns
returns c = let e : c.loop-v.v ≡ 360 = omega arith in rw e at c.loop-v.invariant
