-- `push_text`, a field a turn: there is room for the next. Assumes nothing.
use Rattle.std.proofs.Common.{rules}
use mathlib.Core.Path.{◌≡◌, refl}
use Prim.Native.Nat.{suc}
use native.Mathlib.Omega.{arith}
use native.Mathlib.Numerals.{add-one}
use Rattle.words.proofs.Writing as writing
use Rattle.fields.specs.Names.{FIELDS}
use Rattle.card_back.specs.Text.{in_turn, text_of}
use Rattle.card_back.proofs.Rows.{at_most}
use Rattle.card_back.proofs.Lengths.{total, room_of, all_room, room-left}
use Rattle.card_back.proofs.text.Source.push_text.Goals as goal

pub loop-i-init : goal.loop-i-init
unfolding in_turn total
loop-i-init g c = writing.put_none 0 _

pub push_field-requires : goal.push_field-requires
push_field-requires g c =
    let l = c.loop-i in
    (search rules, rw add-one (omega (arith, l.invariant.room, room-left l.i (omega arith), at_most c.args.self.kind (suc l.i))))

pub loop-i-preserved : goal.loop-i-preserved
unfolding in_turn total room_of
loop-i-preserved g c =
    let l = c.loop-i in
    rw add-one (writing.put_two l.invariant (rw (add-one l.i) at c.push_field.ensures) refl (omega (arith, at_most c.args.self.kind (suc l.i))))

pub returns : goal.returns
unfolding text_of
returns g c =
    let e : c.loop-i.i ≡ FIELDS = omega arith in
    writing.at_most (rw e at c.loop-i.invariant) (omega (arith, all_room))
