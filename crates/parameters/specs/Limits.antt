-- Document 01, "Answers": the limits of set-up's parameters, and the refusals that need no search. Definitions only.
use Rattle.std.specs.Prelude.{ℕ, Bool, true, cond, not, ◌&&◌, ◌||◌, List, leb, ltb, eqb, Float}
use Rattle.std.specs.Float.Ieee.{neg, to_unsigned}
use Rattle.answers.specs.Refusals.{VALUE, TYPE, BAND, COUNT, AIM, SPACE}
use Rattle.floats.specs.Literals.{ninety}
use Rattle.floats.specs.Ops.{+0}
use Rattle.floats.specs.Ranges.{between, all_finite}
use Rattle.model.specs.Limits.{slot, in_band}
use Rattle.model.specs.Types.{type_ok, array_type, log_periodic}
use Rattle.model.specs.Counts.{count_ok}
use Rattle.model.specs.Table.{table_size}
use Rattle.search.specs.Literals.{full_circle}
use Rattle.search.specs.declared.record.Peak.{Peak}

-- design MHz: slot 7 of types 1 to 4, slot 5 of types 8 and 9
unfoldable pub design_ok : ℕ → List Float → Bool
design_ok iant p = cond (array_type iant) (in_band (slot p 7)) (cond (leb 8 iant) (in_band (slot p 5)) true)

-- with operating MHz, slot 4
unfoldable pub band_ok : ℕ → List Float → Bool
band_ok iant p = in_band (slot p 4) && design_ok iant p

-- nel: slot 5 truncated
abbrev pub nel_of : List Float → ℕ
nel_of p = to_unsigned 64 (slot p 5)

-- slot 5 of types 5 and 6 truncating to 2..30, slots 5 and 6 of types 1 to 4 in 0..64
unfoldable pub slots_ok : ℕ → List Float → Bool
slots_ok iant p =
    cond (log_periodic iant) (leb 2 (nel_of p) && leb (nel_of p) 30)
    (cond (array_type iant) (count_ok (slot p 5) && count_ok (slot p 6)) true)

-- the start values of the search as `antinit2` sets them: +0 for types 5 to 7
unfoldable pub start_of : ℕ → List Float → Peak
start_of iant p =
    cond (eqb iant 1) (record { z6 = slot p 16; umax = slot p 13; vmax = slot p 14 })
    (cond (eqb iant 2 || eqb iant 3) (record { z6 = +0; umax = slot p 11; vmax = slot p 12 })
    (cond (eqb iant 4 || leb 8 iant) (record { z6 = +0; umax = slot p 10; vmax = slot p 11 })
    (record { z6 = +0; umax = +0; vmax = +0 })))

-- the start elevation in 0..90 and azimuth in 0..360
unfoldable pub start_ok : Peak → Bool
start_ok s = between s.umax +0 ninety && between s.vmax +0 full_circle

-- the slew of types 1 to 4, slot 9, in -90..90
unfoldable pub slew_ok : ℕ → List Float → Bool
slew_ok iant p = cond (array_type iant) (between (slot p 9) (neg ninety) ninety) true

unfoldable pub aim_ok : ℕ → List Float → Bool
aim_ok iant p = start_ok (start_of iant p) && slew_ok iant p

-- the number of the first refusal that needs no search, with n floats lent for the table; 0 where there is none
unfoldable pub refusal_of : ℕ → List Float → ℕ → ℕ
refusal_of iant p n =
    cond (not (all_finite p)) VALUE
    (cond (not (type_ok iant)) TYPE
    (cond (not (band_ok iant p)) BAND
    (cond (not (slots_ok iant p)) COUNT
    (cond (not (aim_ok iant p)) AIM
    (cond (ltb n table_size) SPACE 0)))))
