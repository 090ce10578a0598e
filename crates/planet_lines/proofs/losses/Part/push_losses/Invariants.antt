-- `Part::push_losses` meets its contract: the lines so far, of 12 bytes at most each. Assumes nothing.
use Prim.Native.Nat.{◌*◌}
use Rattle.words.specs.Writing.{Put}
use Rattle.planet_lines.specs.Losses.{loss_at}
use Rattle.planet_lines.specs.Text.{lines_to}
use Rattle.planet_lines.proofs.losses.Part.push_losses.Given as goal

abbrev pub invariant-loop-angle : goal.invariant-loop-angle
invariant-loop-angle g l = Put (12 * l.angle) l.initial.page (lines_to (loss_at l.self.numbers.now) l.angle) l.page
