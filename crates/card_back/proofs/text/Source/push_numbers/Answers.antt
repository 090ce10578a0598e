-- `push_numbers`, a number a turn, of 87 bytes at most each. Assumes nothing.
use Rattle.std.proofs.Common.{rules}
use mathlib.Core.Path.{refl}
use native.Mathlib.Omega.{arith}
use native.Mathlib.Numerals.{add-one}
use Rattle.words.proofs.Writing.{put_none, put_two}
use Rattle.card_back.specs.Text.{in_turn, number_text}
use Rattle.card_back.proofs.Rows.{in_places}
use Rattle.card_back.proofs.text.Source.push_numbers.Goals as goal

pub loop-k-init : goal.loop-k-init
unfolding in_turn
loop-k-init g c = put_none 0 _

pub overflow_add-first : goal.overflow_add-first
overflow_add-first g c = omega (arith, in_places c.args.self.kind c.args.f)

pub place-requires : goal.place-requires
place-requires g c = omega (arith, in_places c.args.self.kind c.args.f)

pub push_word-requires : goal.push_word-requires
push_word-requires g c =
    (search rules, (omega arith, rw c.place.ensures (c.args.self.sound.finites _ (omega (arith, in_places c.args.self.kind c.args.f)))))

pub loop-k-preserved : goal.loop-k-preserved
unfolding in_turn number_text
loop-k-preserved g c =
    let word = rw (c.place.ensures, c.first_place-first.ensures) at c.push_word.ensures in
    rw add-one (put_two c.loop-k.invariant word refl (omega arith))
