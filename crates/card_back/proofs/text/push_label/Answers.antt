-- `push_label`: the name, then the blanks that are left of 11. Assumes nothing.
use native.Mathlib.Nat.{le_refl}
use native.Mathlib.Omega.{arith}
use Rattle.std.proofs.lemmas.List.{drop-replicate, take-replicate}
use Rattle.words.proofs.Writing.{joined, shorter}
use Rattle.card_back.specs.Text.{label}
use Rattle.card_back.proofs.Lengths.{label-length}
use Rattle.card_back.proofs.text.push_label.Goals as goal

pub returns : goal.returns
unfolding label
returns g c =
    let name = rw c.name_of-name.ensures at c.push_bytes.ensures in
    let blanks = rw (c.name_of-name.ensures, drop-replicate, take-replicate _ _ _ (le_refl _)) at c.push_bytes-2.ensures in
    shorter (joined name blanks) (omega (arith, label-length c.args.f))
