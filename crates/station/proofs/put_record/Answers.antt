-- `station::put_record` meets its contract: the words so far are written, but for the bits that are carried. Assumes nothing.
use mathlib.Core.Path.{◌≡◌, sym, ap, ◌∙◌}
use Prim.Native.Nat.{◌^◌, ◌<◌}
use native.Mathlib.Omega.{arith}
use native.Mathlib.Numerals.{add-one}
use lib.ListN.{length, get_or, length-map, get_or-map}
use lib.Ieee.{binary32, to_bits, nan}
use borrow.Author.Rules.{rules}
use Rattle.std.proofs.lemmas.Grind.{common_steps}
use Rattle.station.specs.Record.{floats_of, words_of, record_of}
use Rattle.station.proofs.Arrays.{floats-length}
use Rattle.station.proofs.Headers.{width_small, header-small}
use Rattle.station.proofs.Packing.{written_none, written_carry, written-more, written_all}
use Rattle.station.proofs.put_record.Goals as goal
use Rattle.station.proofs.put_record.Goals.{At-loop-k, Start}

words_count : (c : Start) → length (words_of c.args.s) ≡ 56
words_count c = length-map (floats_of c.args.s) (to_bits binary32) ∙ floats-length c.args.s (search rules) (search rules) (search rules)

-- what is carried has as many bits as the header
carry-small : (c : At-loop-k) → c.loop-k.carry < 2 ^ c.before.before.before.width_of-header.result
carry-small c =
    rw c.loop-k.invariant.0 (written_carry _ _ _ c.loop-k.out c.loop-k.carry c.loop-k.k c.loop-k.invariant.1)

pub loop-k-init : goal.loop-k-init
loop-k-init c = grind (arith, common_steps, written_none, header-small)

pub put_word-carry-requires : goal.put_word-carry-requires
put_word-carry-requires c =
    (omega arith, carry-small (goal.at.put_word-carry-requires c).At-loop-k, rw c.loop-k.invariant.0 (width_small _))

pub loop-k-preserved : goal.loop-k-preserved
loop-k-preserved c =
    let s = c.args.s in
    let k = c.loop-k.k in
    let w = c.bits_of-w.result in
    let e : w ≡ get_or (words_of s) k (to_bits binary32 nan) = c.bits_of-w.ensures ∙ ap (to_bits binary32) c.float_at.ensures ∙ sym (get_or-map (to_bits binary32) (floats_of s) k nan) in (
      c.loop-k.invariant.0,
      rw (add-one, c.put_word-carry.ensures.bytes, c.put_word-carry.ensures.rest, c.loop-k.invariant.0)
          (written-more _ _ (words_of s) c.loop-k.out c.loop-k.carry k w (to_bits binary32 nan) c.loop-k.invariant.1 (words_count (goal.at.loop-k-preserved c).Start) (omega arith) e (omega arith)),
    )

pub last_byte-requires : goal.last_byte-requires
last_byte-requires c = (carry-small (goal.at.last_byte-requires c).At-loop-k, rw c.loop-k.invariant.0 (width_small _))

pub returns : goal.returns
unfolding record_of
returns c =
    let e : c.loop-k.k ≡ 56 = omega arith in
    rw (c.last_byte.ensures, c.loop-k.invariant.0)
    (written_all _ (width_small _) _ (words_of c.args.s) c.loop-k.out c.loop-k.carry (rw e at c.loop-k.invariant.1) (words_count (goal.at.returns c).Start))
