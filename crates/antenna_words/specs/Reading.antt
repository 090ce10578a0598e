-- The antenna record in 998 words, whatever they are: each field from its place on. Definitions only.
use Rattle.std.specs.Prelude.{ℕ, not, List, get_or, eqb, Float}
use Rattle.floats.specs.Ops.{at}
use Rattle.words.specs.Patterns.{floats, part}
use Rattle.model.specs.declared.record.Constants.{Constants}
use Rattle.model.specs.declared.record.Elements.{Elements}
use Rattle.model.specs.declared.record.Trig.{Trig}
use Rattle.model.specs.declared.record.Ground.{Ground}
use Rattle.search.specs.declared.record.Peak.{Peak}
use Rattle.antenna.specs.declared.record.Antenna.{Antenna}

unfoldable pub constants_of : List Float → Constants
constants_of k = record {
  d1 = at k 0;
  e1 = at k 1;
  beta = at k 2;
  cpfr = at k 3;
  cp11 = at k 4;
  fr1 = at k 5;
  h1 = at k 6;
  pfr = at k 7;
  p11 = at k 8;
  p11s = at k 9;
  q2 = at k 10;
  r2 = at k 11;
  r3 = at k 12;
  sl = at k 13;
  costh = at k 14;
  sinth = at k 15;
}

-- by the words ws, which are the floats fs
unfoldable pub elements_of : List ℕ → List Float → Elements
elements_of ws fs = record {
  fi = part fs 18 36;
  rim = part fs 54 36;
  x = part fs 90 36;
  y = part fs 126 36;
  iek = part ws 162 36;
  rl = part fs 198 36;
  h = part fs 234 31;
  nat = get_or ws 265 0;
}

unfoldable pub trig_of : List Float → Trig
trig_of fs = record { a = part fs 266 91; b = part fs 357 91 }

unfoldable pub ground_of : List Float → Ground
ground_of fs = record {
  w3 = part fs 448 91;
  w4 = part fs 539 91;
  w5 = part fs 630 91;
  w6 = part fs 721 91;
  w9 = part fs 812 91;
  w10 = part fs 903 91;
}

unfoldable pub peak_of : List Float → Peak
peak_of k = record { z6 = at k 0; umax = at k 1; vmax = at k 2 }

-- any word but 0 is "slewed"
unfoldable pub antenna_of : List ℕ → List Float → Antenna
antenna_of ws fs =
    let ground : Ground = ground_of fs in
    record {
      model = record {
        iant = get_or ws 0 0;
        slewed = not (eqb (get_or ws 1 0) 0);
        constants = constants_of (part fs 2 16);
        elements = elements_of ws fs;
        trig = trig_of fs;
        ground = ground;
      };
      peak = peak_of (part fs 994 3);
      sum = get_or ws 997 0;
    }

unfoldable pub antenna_in : List ℕ → Antenna
antenna_in ws = antenna_of ws (floats ws)
