-- `put_bytes`: the record, then the three words. Assumes nothing.
use mathlib.Core.Path.{sym, ap}
use native.Mathlib.Omega.{arith}
use Prim.Native.Nat.{ℕ}
use mathlib.Core.List.{List, ◌++◌}
use lib.Seq.{length-take-le}
use lib.ListN.{take, drop}
use Rattle.words.proofs.Digits.{length_digits}
use Rattle.station.specs.Record.{record_of}
use Rattle.card.specs.Reading.{bytes_of}
use Rattle.card.proofs.Laying.{record_length, record_taken, record_written, bytes-laid}
use Rattle.card.proofs.bytes.put_bytes.Goals as goal

pub slice_bounds-write-end-2 : goal.slice_bounds-write-end-2
slice_bounds-write-end-2 c = sym (length-take-le 225 c.args.out.now (omega arith))

pub unwrap-requires : goal.unwrap-requires
unwrap-requires c = let out = c.args.out.now in record_taken c.args.reading.station (take 225 out) _ c.write.result c.requires.1.finite c.requires.1.mode (length-take-le 225 out (omega arith)) c.write.ensures

pub returns : goal.returns
unfolding bytes_of
returns c =
    let start = c in
    let w = c.write in
    let r = start.args.reading in
    rw (← c.bits_of-3.ensures, ← c.bits_of-2.ensures, ← c.bits_of.ensures)
    (bytes-laid start.args.out.now (record_of 0 r.station) _ _ _ start.requires.0 (record_length r.station) (length_digits 256 4 _) (length_digits 256 4 _) (length_digits 256 4 _)
    (ap (λ (l : List ℕ). l ++ drop 225 start.args.out.now) (record_written r.station (take 225 start.args.out.now) _ w.result start.requires.1.finite start.requires.1.mode (length-take-le 225 start.args.out.now (omega arith)) w.ensures))
    c.put_word.ensures c.put_word-2.ensures c.put_word-3.ensures)
