-- The starred edges hold: each is cited from the crate that it is about.
use Rattle.sine.proofs.Edges.{cos_zero, sin_minus_zero, sin_65536, sin_past_65536}
use Rattle.logarithm.proofs.Edges.{logarithm_one, logarithm_eight, log10_one, logarithm_least, logarithm_subnormal, logarithm_normal, log10_least, log10_subnormal, ln_least, ln_subnormal}
use Rattle.root.proofs.Edges.{sqrt_four}
use Rattle.floats.proofs.Edges.{nint_half, nint_minus_half}
use Rattle.maxgain.proofs.Edges.{mode_1_at_31, gainterb_at_30}
use Rattle.curtain.proofs.Edges.{bare-curtain}
use Rattle.antenna.proofs.Edges.{ratio-at-floor, ratio_of_one}
use Rattle.claims.specs.StarredEdges.{StarredEdges}

pub starred_edges : StarredEdges
starred_edges =
    record {
      cos_0 = cos_zero;
      sin_minus_0 = sin_minus_zero;
      sin_65536 = sin_65536;
      sin_next = sin_past_65536;
      logarithm_1 = logarithm_one;
      logarithm_8 = logarithm_eight;
      log10_1 = log10_one;
      logarithm_least = logarithm_least;
      logarithm_subnormal = logarithm_subnormal;
      logarithm_normal = logarithm_normal;
      log10_least = log10_least;
      log10_subnormal = log10_subnormal;
      ln_least = ln_least;
      ln_subnormal = ln_subnormal;
      sqrt_4 = sqrt_four;
      nint_half = nint_half;
      nint_minus_half = nint_minus_half;
      gainterb_30 = gainterb_at_30;
      mode_1 = λ parm gainmax gainmaxb e giso p h. mode_1_at_31 parm gainmax gainmaxb e h;
      ratio = ratio-at-floor;
      ratio_added = ratio_of_one;
      curtain_0 = bare-curtain.0;
      curtain_180 = bare-curtain.1;
    }
