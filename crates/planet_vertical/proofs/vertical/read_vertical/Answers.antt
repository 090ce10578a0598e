-- `planet_vertical::vertical::read_vertical` meets its contract: the numbers so far. Assumes nothing.
use mathlib.Core.Path.{◌≡◌, refl, sym, ap, ◌∙◌}
use native.Mathlib.Omega.{arith}
use native.Mathlib.Numerals.{add-one}
use lib.ListN.{length-set}
use lib.Seq.{take_all, take-suc-set}
use Rattle.std.proofs.Common.{Err, rules}
use Rattle.answers.specs.Outcome.{accepted}
use Rattle.request.specs.Request.{and_then}
use Rattle.planet_vertical.specs.Directions.{vertical_gain, number_of, numbers_to}
use Rattle.planet_vertical.proofs.Numbers.{numbers_more, numbers_stop}
use Rattle.planet_vertical.proofs.vertical.read_vertical.Goals as goal

pub loop-angle-init : goal.loop-angle-init
unfolding numbers_to
loop-angle-init c = (refl, refl)

pub gain_told-requires : goal.gain_told-requires
gain_told-requires c = sym c.requires

pub returns-in_err-gain : goal.returns-in_err-gain
unfolding number_of and_then
returns-in_err-gain c =
    let loop = c.loop-angle in
    let gain = vertical_gain c.args.q c.args.table.now in
    let at_angle = rw (c.elevation_at-u.ensures.0, c.azimuth_at-v.ensures.0) at c.in_err-gain.ensures in
    let out : c.from_residual.result ≡ Err c.in_err-gain.field-0.0 = search rules in
    rw out (sym (numbers_stop gain loop.angle loop.invariant.1 (rw (← at_angle)) 181 (omega arith)))

pub loop-angle-preserved : goal.loop-angle-preserved
unfolding number_of and_then
loop-angle-preserved c =
    let loop = c.loop-angle in
    let gain = vertical_gain c.args.q c.args.table.now in
    let at_angle = rw (c.elevation_at-u.ensures.0, c.azimuth_at-v.ensures.0) at c.in_ok-gain.ensures in (
      rw length-set loop.invariant.0,
      rw (add-one, take-suc-set loop.numbers loop.angle _ (omega arith)) (numbers_more gain loop.angle loop.invariant.1 (rw (← at_angle))),
    )

pub returns : goal.returns
returns c =
    let loop = c.loop-angle in
    let gain = vertical_gain c.args.q c.args.table.now in
    let e : 181 ≡ loop.angle = omega arith in
    sym (ap (numbers_to gain) e ∙ loop.invariant.1 ∙ ap accepted (take_all loop.angle loop.numbers (omega arith)))
