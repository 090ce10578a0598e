-- Where the elements of a log-periodic antenna are: the first half of `logparm`. Elements count from 1, the shortest. Definitions only.
use Rattle.std.specs.Prelude.{ℕ, zero, suc, ◌-◌, cond, List, replicate, ◌==◌, slice_set, Float}
use Rattle.sine.specs.Sine.{sine}
use Rattle.root.specs.Root.{sqrt_of}
use Rattle.power.specs.Power.{powf_of}
use Rattle.arctangent.specs.Arctangent.{atan_of}
use Rattle.floats.specs.Ops.{◌⊕◌, ◌⊖◌, ◌⊗◌, ◌⊘◌, +0, count, at}
use Rattle.floats.specs.Literals.{one, four}
use Rattle.logperiodic.specs.declared.geometry.Design.{Design}
use Rattle.logperiodic.specs.declared.geometry.Boom.{Boom}
use Rattle.logperiodic.specs.declared.geometry.Apex.{Apex}
use Rattle.logperiodic.specs.declared.geometry.Layout.{Layout}

unfoldable pub boom : Design → Boom
boom d =
    let sinth = (d.hnel ⊖ d.h1) ⊘ d.dc in
    record { sinth = sinth; costh = sqrt_of (one ⊖ sinth ⊗ sinth) }

-- `tau`
unfoldable pub taper : Design → ℕ → Float
taper d nel =
    let rlr = d.rl1 ⊘ d.rlnel in
    let exl = one ⊘ (count nel ⊖ one) in
    powf_of rlr exl

-- `rl`: the longest element, and the k elements next to it, each tau times the longer one
unfoldable pub lengths_to : ℕ → Float → Float → ℕ → List Float
lengths_to nel rlnel tau zero = slice_set (replicate 36 +0) nel rlnel
lengths_to nel rlnel tau (suc k) =
    let rl = lengths_to nel rlnel tau k in
    slice_set rl (nel - suc k) (at rl (nel - k) ⊗ tau)

unfoldable pub lengths : ℕ → Float → Float → List Float
lengths nel rlnel tau = lengths_to nel rlnel tau (nel - 1)

-- `d`: from an element of length l to the shorter one next to it
unfoldable pub spacing : Float → Float → Float
spacing l sigma = four ⊗ l ⊗ sigma

-- p, with each of the k elements after element 1 a spacing times step further than the one before
unfoldable pub along_to : List Float → Float → List Float → Float → ℕ → List Float
along_to p step rl sigma zero = p
along_to p step rl sigma (suc k) =
    let q = along_to p step rl sigma k in
    slice_set q (suc (suc k)) (at q (suc k) ⊕ spacing (at rl (suc (suc k))) sigma ⊗ step)

-- elements 1 to nel, the first at start
unfoldable pub along : List Float → ℕ → Float → Float → List Float → Float → List Float
along p nel start step rl sigma = along_to (slice_set p 1 start) step rl sigma (nel - 1)

-- the vertical antenna's angles at its apex
unfoldable pub apex : Design → Float → Boom → Apex
apex d tau b =
    let rld = d.rlnel ⊖ d.rl1 in
    let dl1 = d.dc ⊗ d.rl1 ⊘ rld in
    let da1 = dl1 ⊗ b.costh in
    let db1 = dl1 ⊗ b.sinth in
    let dc1 = db1 ⊖ d.rl1 in
    let tg23 = b.sinth ⊘ b.costh in
    let tg3 = dc1 ⊘ da1 in
    let alfa3 = atan_of tg3 in
    let alfa2 = atan_of tg23 ⊖ alfa3 in
    record {
      tg23 = tg23;
      tg3 = tg3;
      sigma = (one ⊖ tau) ⊘ (four ⊗ (b.sinth ⊖ tg3 ⊗ b.costh));
      theta = sine alfa3 ⊗ b.costh ⊘ sine alfa2;
    }

-- `h` of the vertical antenna: the longest element's, without h0, and those of elements 1 to k
unfoldable pub raised_to : ℕ → List Float → Float → Float → ℕ → List Float
raised_to nel rl theta h0 zero = slice_set (replicate 31 +0) nel (at rl nel ⊗ (one ⊕ theta))
raised_to nel rl theta h0 (suc k) = slice_set (raised_to nel rl theta h0 k) (suc k) (at rl (suc k) ⊗ (one ⊕ theta) ⊕ h0)

unfoldable pub raised : ℕ → List Float → Float → Float → List Float
raised nel rl theta h0 = raised_to nel rl theta h0 (nel - 1)

unfoldable pub vertical : Design → ℕ → Float → Boom → Layout
vertical d nel tau b =
    let a = apex d tau b in
    let rl = lengths nel d.rlnel tau in
    let h0 = d.h1 ⊖ d.rl1 ⊗ (one ⊕ a.theta) in
    let y1 = at rl 1 ⊘ (a.tg23 ⊗ (one ⊖ a.tg3 ⊘ a.tg23)) in
    record {
      rl = rl;
      x = replicate 36 +0;
      y = along (replicate 36 +0) nel y1 b.costh rl a.sigma;
      h = raised nel rl a.theta h0;
      sigma = a.sigma;
    }

unfoldable pub horizontal : Design → ℕ → Float → Boom → Layout
horizontal d nel tau b =
    let rld = d.rlnel ⊖ d.rl1 in
    let alftan = rld ⊘ d.dc in
    let sigma = (one ⊖ tau) ⊘ (four ⊗ alftan) in
    let rl = lengths nel d.rlnel tau in
    let x1 = at rl 1 ⊘ alftan ⊗ b.costh in
    record {
      rl = rl;
      x = along (replicate 36 +0) nel x1 b.costh rl sigma;
      y = replicate 36 +0;
      h = along (replicate 31 +0) nel d.h1 b.sinth rl sigma;
      sigma = sigma;
    }

-- type 5 is horizontal, type 6 vertical
unfoldable pub layout : ℕ → Design → ℕ → Float → Boom → Layout
layout iant d nel tau b = cond (iant == 5) (horizontal d nel tau b) (vertical d nel tau b)
