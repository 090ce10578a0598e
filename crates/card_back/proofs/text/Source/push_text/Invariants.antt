-- `push_text`, a field a turn: there is room for the next. Assumes nothing.
use Prim.Native.Nat.{ℕ, suc}
use Rattle.words.specs.Writing.{Put}
use Rattle.card_back.specs.Text.{place_in, in_turn, field_text}
use Rattle.card_back.proofs.Lengths.{total, room_of}
use Rattle.card_back.proofs.text.Source.push_text.Given as goal

abbrev pub invariant-loop-i : goal.invariant-loop-i
invariant-loop-i g l =
    Put (total room_of l.i) l.initial.page (in_turn (λ (j : ℕ). field_text l.self.kind (place_in l.self.station l.self.bytes.now) (suc j)) l.i) l.page
