-- `compare_text::push_output` meets its contract: the rest of the input is the second mast. Assumes nothing.
use Prim.Native.Nat.{◌-◌}
use mathlib.Core.Path.{◌≡◌}
use native.Mathlib.Nat.{le_refl}
use lib.ListN.{length, take, drop, length-drop}
use lib.Seq.{take_all}
use borrow.Author.Tests.{eq-eqb}
use Rattle.compare_text.specs.Compare.{output_text}
use Rattle.compare_text.proofs.push_output.Goals as goal

pub returns-else-input-ne476 : goal.returns-else-input-ne476
unfolding output_text
returns-else-input-ne476 g c =
    let input = c.args.input.now in
    let rest : take (length input - 239) (drop 239 input) ≡ drop 239 input = take_all (length input - 239) (drop 239 input) (rw (length-drop 239 input) (le_refl _)) in
    rw (eq-eqb _ _ c.if-input-ne476.false, ← rest, ← c.from.ensures, ← c.from-else-input-ne476.ensures) c.push_compared.ensures
