-- `curve::push_curve` meets its contract. Assumes nothing.
use mathlib.Core.Path.{refl}
use native.Mathlib.Omega.{arith}
use Rattle.quoted.specs.Quoted.{quoted}
use Rattle.words.proofs.Writing.{put_five}
use Rattle.curve.specs.Curve.{curve_text}
use Rattle.curve.proofs.push_curve.Goals as goal

pub returns : goal.returns
unfolding curve_text quoted
returns g c = put_five c.push_bytes.ensures c.push_stroke.ensures c.push_stroke-2.ensures c.push_stroke-3.ensures c.push_bytes-2.ensures refl (omega arith)
