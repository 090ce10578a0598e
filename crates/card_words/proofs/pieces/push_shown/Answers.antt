-- `card_words::pieces::push_shown` meets its contract: a long word's first 40 bytes, and two points. Assumes nothing.
use Rattle.std.proofs.Common.{rules}
use mathlib.Core.Path.{refl, sym}
use native.Mathlib.Omega.{arith}
use lib.Seq.{length-take-le}
use borrow.Author.Tests.{lt-ltb}
use Rattle.quoted.specs.Quoted.{quoted}
use Rattle.words.proofs.Writing.{put_two}
use Rattle.card_words.specs.Pieces.{shown}
use Rattle.card_words.proofs.pieces.push_shown.Goals as goal

pub slice_bounds-push_bytes-end : goal.slice_bounds-push_bytes-end
slice_bounds-push_bytes-end g c = sym (length-take-le 40 c.args.word.now (omega arith))

pub push_bytes-requires-else-word-le40 : goal.push_bytes-requires-else-word-le40
push_bytes-requires-else-word-le40 g c = (search rules, omega (arith, length-take-le 40 c.args.word.now (omega arith)))

pub push_bytes-requires-else-word-le40-2 : goal.push_bytes-requires-else-word-le40-2
push_bytes-requires-else-word-le40-2 g c = (search rules, omega (arith, length-take-le 40 c.args.word.now (omega arith)))

pub returns-else-word-le40 : goal.returns-else-word-le40
unfolding shown quoted
returns-else-word-le40 g c =
    rw (lt-ltb 40 _ c.if-word-le40.false) (put_two c.push_bytes-else-word-le40.ensures c.push_bytes-else-word-le40-2.ensures refl (omega (arith, length-take-le 40 c.args.word.now (omega arith))))
