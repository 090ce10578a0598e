-- `logparm` of the source: the elements of a log-periodic antenna, types 5 and 6. Definitions only.
use Rattle.std.specs.Prelude.{ℕ, List, Float}
use Rattle.model.specs.declared.record.Elements.{Elements}
use Rattle.logperiodic.specs.Current.{curcal_of}
use Rattle.logperiodic.specs.Geometry.{boom, taper, layout}
use Rattle.logperiodic.specs.Active.{band, active_to, excited, loudest, normalised}
use Rattle.logperiodic.specs.declared.current.Band.{Band}
use Rattle.logperiodic.specs.declared.geometry.Design.{Design}
use Rattle.logperiodic.specs.declared.geometry.Layout.{Layout}
use Rattle.logperiodic.specs.declared.active.Active.{Active}
use Rattle.logperiodic.specs.declared.active.Feed.{Feed}
use Rattle.logperiodic.specs.declared.logparm.LogPeriodic.{LogPeriodic}

-- phases taken from the largest current's, and currents by the largest
unfoldable pub fed : Active → Band → List Float → Float → Feed
fed a s rl beta =
    let x = excited a s (curcal_of s) rl in
    let top = loudest a x.ria x.fi in
    normalised a x.ria x.fi top beta rl

unfoldable pub elements : Layout → Active → Feed → Elements
elements t a f = record {
  fi = f.fi;
  rim = f.rim;
  x = t.x;
  y = t.y;
  iek = a.iek;
  rl = t.rl;
  h = t.h;
  nat = a.nat;
}

-- the design of nel elements at the wavelength rlambda, whose phase per metre is beta
unfoldable pub log_parm : ℕ → ℕ → Design → Float → Float → LogPeriodic
log_parm iant nel d rlambda beta =
    let tau = taper d nel in
    let t = layout iant d nel tau (boom d) in
    let s = band d.z0 rlambda t.sigma tau in
    let a = active_to s t.rl nel in
    record { elements = elements t a (fed a s t.rl beta); boom = boom d }
