-- `station::read_floats` meets its contract: the floats so far are finite, and stand over the blank station's. Assumes nothing.
use mathlib.Core.Path.{◌≡◌, ◌∙◌}
use native.Mathlib.Omega.{arith}
use native.Mathlib.Numerals.{add-one}
use lib.ListN.{get_or}
use lib.Seq.{paste-zero}
use lib.Ieee.{nan}
use Rattle.std.proofs.lemmas.Grind.{common_steps}
use Rattle.floats.specs.Ranges.{finite_to, all_finite}
use Rattle.station.specs.Record.{floats_in, zeros}
use Rattle.station.specs.Answers.{floats_answer}
use Rattle.station.proofs.Finite.{finite-more, finite-none}
use Rattle.station.proofs.Arrays.{pasted, pasted_all}
use Rattle.station.proofs.Unpacking.{float_in, floats_in_length}
use Rattle.station.proofs.read_floats.Invariants.{blanks}
use Rattle.station.proofs.read_floats.Goals as goal
use Rattle.station.proofs.read_floats.Goals.{After-float_of-x}

-- what was read is float k
read_float : (c : After-float_of-x) → c.float_of-x.result ≡ get_or (floats_in c.args.header c.args.bytes.now) c.loop-k.k nan
read_float c = grind (arith, float_in)

pub loop-k-init : goal.loop-k-init
unfolding finite_to zeros
loop-k-init c = grind (arith, common_steps, paste-zero)

pub returns-then-not-is_finite : goal.returns-then-not-is_finite
unfolding floats_answer
returns-then-not-is_finite c =
    let e = read_float (goal.at.returns-then-not-is_finite c).After-float_of-x in
    rw (finite-none (floats_in c.args.header c.args.bytes.now) c.loop-k.k (omega (arith, floats_in_length)) cc)

pub loop-k-preserved : goal.loop-k-preserved
loop-k-preserved c =
    let e = read_float (goal.at.loop-k-preserved c).After-float_of-x in
    record {
      finite = rw add-one (finite-more _ _ c.loop-k.invariant.finite cc);
      station =
          rw add-one
          (c.with_float-station.ensures
          ∙ pasted c.args.mode blanks _ c.loop-k.k c.float_of-x.result nan c.loop-k.station c.loop-k.invariant.station e (omega arith) (omega (arith, floats_in_length)));
    }

pub returns : goal.returns
unfolding floats_answer all_finite
returns c = grind (arith, common_steps, pasted_all, floats_in_length)
