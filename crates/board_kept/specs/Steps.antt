-- Not of document 02: what the code's inner steps answer. No public contract cites it. Definitions only.
use Rattle.std.specs.Prelude.{ℕ, ◌+◌, ◌*◌, cond, ◌&&◌, ◌||◌, List, ◌++◌, get_or, ltb, eqb}
use Rattle.std.specs.Float.{binary32}
use Rattle.std.specs.Float.Ieee.{of_bits, to_bits, lt, eq}
use Rattle.board_air.specs.Stations.{Station, number_at, shown, up_to}
use Rattle.board_kept.specs.declared.kept.Entry.{Entry}

abbrev pub entry : ℕ → ℕ → Entry
entry bits id = record { bits = bits; id = id }

-- what a station would show at azimuth v
abbrev pub entry_of : ℕ → Station → Entry
entry_of v s = entry (to_bits binary32 (number_at v s)) s.id

-- what place k has there
abbrev pub entry_at : List ℕ → ℕ → ℕ → Entry
entry_at air k v = entry (get_or air (2 + 361 * k + v) 0) (get_or air (1 + 361 * k) 0)

-- what is kept there
abbrev pub entry_in : List ℕ → ℕ → Entry
entry_in kept v = entry (get_or kept v 0) (get_or kept (360 + v) 0)

-- one more against the one shown, which gives way where it is nobody, has a lower number, or an equal one and a higher id
unfoldable pub better_of : Entry → Entry → Entry
better_of a b =
    cond
    (eqb b.id 0
    || (lt (of_bits binary32 b.bits) (of_bits binary32 a.bits) || eq (of_bits binary32 b.bits) (of_bits binary32 a.bits) && ltb a.id b.id))
    a
    b

-- f at each azimuth, as it is kept
unfoldable pub kept_by : (ℕ → Entry) → List ℕ
kept_by f = up_to (λ (v : ℕ). (f v).bits) 360 ++ up_to (λ (v : ℕ). (f v).id) 360

-- what is kept at azimuth v with one more, who has this id and these bits
abbrev pub raised : ℕ → List ℕ → List ℕ → ℕ → Entry
raised id bits kept v = better_of (entry (get_or bits v 0) id) (entry_in kept v)

-- what is kept at azimuth v with one gone and these left: worked out anew only where the one gone was shown
abbrev pub renewed : ℕ → List Station → List ℕ → ℕ → Entry
renewed gone ss kept v = cond (eqb (get_or kept (360 + v) 0) gone) (entry_of v (shown v ss)) (entry_in kept v)

-- what is left at azimuth v with one more, who has this id and these bits, while those that showed the one gone are worked out anew
abbrev pub raised_vacated : ℕ → List ℕ → ℕ → List ℕ → List ℕ → ℕ → Entry
raised_vacated gone kept id bits left v = cond (eqb (get_or kept (360 + v) 0) gone) (raised id bits left v) (entry_in left v)
