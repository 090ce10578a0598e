-- `push_numbers`, a number a turn, of 87 bytes at most each. Assumes nothing.
use Prim.Native.Nat.{◌*◌}
use Rattle.words.specs.Writing.{Put}
use Rattle.card_back.specs.Text.{place_in, in_turn, number_text}
use Rattle.card_back.proofs.text.Source.push_numbers.Given as goal

abbrev pub invariant-loop-k : goal.invariant-loop-k
invariant-loop-k g l = Put (87 * l.k) l.initial.page (in_turn (number_text l.self.kind (place_in l.self.station l.self.bytes.now) l.f) l.k) l.page
