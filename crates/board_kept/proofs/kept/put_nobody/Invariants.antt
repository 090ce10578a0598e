-- `board_kept::kept::put_nobody` meets its contract.
use mathlib.Core.Path.{◌≡◌}
use Prim.Native.Nat.{ℕ}
use Rattle.board_kept.specs.Steps.{entry}
use Rattle.board_kept.specs.declared.kept.Entry.{Entry}
use Rattle.board_kept.proofs.Writing.{written_to}
use Rattle.board_kept.proofs.kept.put_nobody.Given as goal

abbrev pub none_at : ℕ → Entry
none_at v = entry 0xC1F00000 0

abbrev pub invariant-loop-v : goal.invariant-loop-v
invariant-loop-v l = l.kept ≡ written_to none_at l.initial.kept l.v
