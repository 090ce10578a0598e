-- Issue 27, "which mast leads at the azimuth of the base, how wide each beam is, what lies behind": the lines, in ASCII. Definitions only.
use Rattle.std.specs.Prelude.{ℕ, ◌+◌, ◌-◌, Bool, cond, List, [], ◌∷◌, ◌++◌}
use Rattle.answers.specs.declared.Kind.{Kind}
use Rattle.dial.specs.Kinds.{is_level, is_floor, is_silence}
use Rattle.quoted.specs.Quoted.{quoted}
use Rattle.labels.specs.Writing.{whole, reading}
use Rattle.figures.specs.Figures.{difference, leads_at, leads_of}
use Rattle.comparison.specs.declared.masts.Reading.{Reading}
use Rattle.comparison.specs.declared.masts.Mast.{Mast}
use Rattle.comparison.specs.Masts.{A, B, reading_of, mast_of}

-- a mast's name, then words
unfoldable pub named : ℕ → List ℕ → List ℕ
named name words = (name ∷ []) ++ words

-- ---- at the base

-- `A 3.21 dBi`, `A floor`, `A silence`
unfoldable pub reading_text : ℕ → Reading → List ℕ
reading_text name r =
    cond (is_level r.kind) ((name ∷ []) ++ reading (quoted " ") r.number ++ quoted " dBi")
    (cond (is_floor r.kind) (named name (quoted " floor")) (named name (quoted " silence")))

-- the leader, and by how much where the other has a level too
unfoldable pub leader_text : ℕ → Reading → Reading → List ℕ
leader_text name r other =
    cond (is_level other.kind) ((name ∷ []) ++ difference (quoted " leads by ") r.number other.number ++ quoted " dB")
    (named name (quoted " leads"))

unfoldable pub verdict_text : Bool → Bool → Reading → Reading → List ℕ
verdict_text a-leads b-leads a b = cond a-leads (leader_text A a b) (cond b-leads (leader_text B b a) (quoted "neither leads"))

unfoldable pub base_line : ℕ → Bool → Bool → Reading → Reading → List ℕ
base_line base a-leads b-leads a b =
    whole (quoted "at the base, azimuth ") base ++ quoted ": " ++ verdict_text a-leads b-leads a b
    ++ quoted " (" ++ reading_text A a ++ quoted ", " ++ reading_text B b ++ quoted ")\n"

-- ---- the peak and the beam

unfoldable pub beam_line : Mast → List ℕ
beam_line m =
    (m.name ∷ []) ++ reading (quoted ": peak ") m.peak.number ++ whole (quoted " dBi at ") m.azimuth
    ++ whole (quoted ", beam ") m.beam ++ quoted " degrees wide at 3 dB\n"

-- a mast is silent where its first entry is, and a floor all round where its peak is one
unfoldable pub peak_line : Mast → List ℕ
peak_line m =
    cond (is_silence m.front.kind) (named m.name (quoted ": silence, no gain in any direction\n"))
    (cond (is_floor m.peak.kind) (named m.name (quoted ": floor all round, -30 dBi or less\n")) (beam_line m))

-- ---- behind

-- front-to-back is told by the gain at azimuth 0
unfoldable pub level_behind : Mast → List ℕ
level_behind m =
    reading (quoted "at most ") m.behind.number
    ++ difference (quoted " dBi, front-to-back ") m.front.number m.behind.number ++ quoted " dB\n"

unfoldable pub floor_behind : Mast → List ℕ
floor_behind m =
    difference (quoted "floor, -30 dBi or less, front-to-back ") m.front.number m.behind.number ++ quoted " dB or more\n"

unfoldable pub behind_text : Mast → List ℕ
behind_text m =
    cond (is_silence m.front.kind) (quoted "silence\n")
    (cond (is_floor m.peak.kind) (quoted "floor\n") (cond (is_floor m.behind.kind) (floor_behind m) (level_behind m)))

unfoldable pub behind_line : Mast → List ℕ
behind_line m = quoted "behind " ++ (m.name ∷ []) ++ quoted ", 90 to 270: " ++ behind_text m

-- ---- both

unfoldable pub mast_lines : Mast → Mast → List ℕ
mast_lines a b = peak_line a ++ peak_line b ++ behind_line a ++ behind_line b

-- in how many azimuths each leads
unfoldable pub round_line : ℕ → ℕ → List ℕ
round_line a b =
    whole (quoted "all round: A leads in ") a ++ whole (quoted " azimuths, B in ") b
    ++ whole (quoted ", neither in ") (360 - (a + b)) ++ quoted "\n"

unfoldable pub refused_line : ℕ → ℕ → List ℕ
refused_line name number = (name ∷ []) ++ whole (quoted ": refused ") number ++ quoted "\n"

-- the lines of two rows, each its numbers and kinds
unfoldable pub lines_of : ℕ → List ℕ → List Kind → List ℕ → List Kind → List ℕ
lines_of base a ka b kb =
    base_line base (leads_at a ka b base) (leads_at b kb a base) (reading_of a ka base) (reading_of b kb base)
    ++ mast_lines (mast_of A a ka) (mast_of B b kb)
    ++ round_line (leads_of a ka b) (leads_of b kb a)
