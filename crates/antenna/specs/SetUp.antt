-- Document 01, part 7: `antinit2`, set-up from the twenty parameters, with its refusals; the table's sum is document 02's card 9. Definitions only.
use Rattle.std.specs.Prelude.{ℕ, Bool, false, cond, not, ◌&&◌, List, length, replicate, nat_lt, Float}
use Rattle.std.specs.Float.Ieee.{to_signed}
use Rattle.std.specs.Float.Ieee.Scale.{finite}
use Rattle.floats.specs.Ops.{◌⊘◌, +0}
use Rattle.floats.specs.Literals.{two}
use Rattle.model.specs.Types.{jant_of, array_type, log_periodic}
use Rattle.model.specs.declared.record.Ground.{Ground}
use Rattle.model.specs.declared.record.Model.{Model}
use Rattle.trig.specs.Trig.{trig_tables}
use Rattle.ground.specs.Ground.{ground_of}
use Rattle.ground.specs.Table.{table_of}
use Rattle.logperiodic.specs.LogPeriodic.{log_parm}
use Rattle.logperiodic.specs.declared.geometry.Design.{Design}
use Rattle.logperiodic.specs.declared.logparm.LogPeriodic.{LogPeriodic}
use Rattle.answers.specs.Outcome.{Outcome, refused, accepted}
use Rattle.answers.specs.Refusals.{PATTERN}
use Rattle.words.specs.Laid.{laid}
use Rattle.parameters.specs.Whole.{non_zero}
use Rattle.model.specs.Limits.{slot}
use Rattle.parameters.specs.Limits.{nel_of, start_of, refusal_of}
use Rattle.parameters.specs.TypeConstants.{rlambda_of, beta_of, wave_constants, constants_of}
use Rattle.search.specs.Search.{gainorm_of}
use Rattle.antenna.specs.TableSum.{table_sum}
use Rattle.antenna.specs.declared.record.Antenna.{Antenna}
use Rattle.search.specs.declared.gainorm.Search.{Search}
use Rattle.antenna.specs.declared.setup.SetUp.{SetUp}

-- `logparm`'s arguments for types 5 and 6
unfoldable pub design_of : List Float → Design
design_of p = record { rlnel = slot p 7 ⊘ two; rl1 = slot p 6 ⊘ two; hnel = slot p 10; h1 = slot p 9; dc = slot p 8; z0 = slot p 11 }

-- no elements, and no boom
unfoldable pub no_elements : LogPeriodic
no_elements = record {
  elements = record {
    fi = replicate 36 +0;
    rim = replicate 36 +0;
    x = replicate 36 +0;
    y = replicate 36 +0;
    iek = replicate 36 0;
    rl = replicate 36 +0;
    h = replicate 31 +0;
    nat = 0;
  };
  boom = record { sinth = +0; costh = +0 };
}

unfoldable pub elements_of : ℕ → List Float → LogPeriodic
elements_of iant p = cond (log_periodic iant) (log_parm iant (nel_of p) (design_of p) (rlambda_of p) (beta_of p)) no_elements

-- `ifs` isn't 0; types from 5 on have none
unfoldable pub slewed_of : ℕ → List Float → Bool
slewed_of iant p = array_type iant && non_zero (to_signed 31 (slot p 9))

-- all that `antinit2` leaves for `gainrel`, but for the table
unfoldable pub model_of : ℕ → List Float → Model
model_of iant p =
    let l = elements_of iant p in
    let k = constants_of iant p l.boom in
    let ground : Ground = ground_of iant k trig_tables in
    record { iant = iant; slewed = slewed_of iant p; constants = k; elements = l.elements; trig = trig_tables; ground = ground }

-- a gain met in the search, or z6, umax, vmax after it, isn't finite
unfoldable pub search_refused : Search → Bool
search_refused s = not (s.tally.sound && finite s.peak.z6 && finite s.peak.umax && finite s.peak.vmax)

-- the antenna record, with the sum of its table, and the readings of its search
unfoldable pub accepted_of : Model → Search → Outcome (Antenna × ℕ)
accepted_of m s = accepted (record { model = m; peak = s.peak; sum = table_sum (table_of m) }, s.tally.readings)

unfoldable pub found : Model → Search → Outcome (Antenna × ℕ)
found m s = cond (search_refused s) (refused PATTERN) (accepted_of m s)

unfoldable pub searched : ℕ → List Float → Outcome (Antenna × ℕ)
searched iant p = let m = model_of iant p in found m (gainorm_of m (table_of m) (start_of iant p))

-- `antinit2` of the parameters p, with n floats lent for the table
unfoldable pub set_up_of : List Float → ℕ → Outcome (Antenna × ℕ)
set_up_of p n =
    let iant = jant_of (slot p 1) in
    let number = refusal_of iant p n in
    cond (nat_lt 0 number) (refused number) (searched iant p)

-- what an accepted set-up says: the antenna record and the reading count
abbrev pub set_up : SetUp → Antenna × ℕ
set_up s = (s.antenna, s.readings)

-- an antenna of no type, which gain and row refuse: what `beside_of` names after a refusal
unfoldable pub no_antenna : Antenna
no_antenna = record {
  model = record {
    iant = 0;
    slewed = false;
    constants = wave_constants (replicate 20 +0);
    elements = no_elements.elements;
    trig = record { a = replicate 91 +0; b = replicate 91 +0 };
    ground = record {
      w3 = replicate 91 +0;
      w4 = replicate 91 +0;
      w5 = replicate 91 +0;
      w6 = replicate 91 +0;
      w9 = replicate 91 +0;
      w10 = replicate 91 +0;
    };
  };
  peak = record { z6 = +0; umax = +0; vmax = +0 };
  sum = 0;
}

-- the antenna record of an answer
unfoldable pub beside_of : Outcome (Antenna × ℕ) → Antenna
beside_of (refused n) = no_antenna
beside_of (accepted a) = a.0

-- the lent floats afterwards: the antenna's table, then those past it; after a refusal what they were
unfoldable pub kept_after : Outcome (Antenna × ℕ) → List Float → List Float
kept_after (refused n) lent = lent
kept_after (accepted a) lent = laid lent 0 (table_of a.0.model)

unfoldable pub lent_after : List Float → List Float → List Float
lent_after p lent = kept_after (set_up_of p (length lent)) lent
