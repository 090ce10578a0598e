-- Document 02, card 8: which rows cover a kHz, and how many. Definitions only.
use Rattle.std.specs.Prelude.{ℕ, ◌+◌, Bool, cond, ◌&&◌, List, [], ◌∷◌, ltb, leb}
use Rattle.bandbook.specs.declared.rows.Row.{Row}

-- from low kHz up to, not including, high kHz
unfoldable pub covers : ℕ → Row → Bool
covers khz r = leb r.low khz && ltb khz r.high

-- 1 for a row that covers the kHz, 0 for another
unfoldable pub one : ℕ → Row → ℕ
one khz r = cond (covers khz r) 1 0

-- how many rows cover a kHz
unfoldable pub covering : List Row → ℕ → ℕ
covering [] khz = 0
covering (r ∷ rows) khz = one khz r + covering rows khz

-- the id of the first row that covers a kHz, 0 where there is none
unfoldable pub station_at : List Row → ℕ → ℕ
station_at [] khz = 0
station_at (r ∷ rows) khz = cond (covers khz r) r.id (station_at rows khz)
