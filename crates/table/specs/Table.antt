-- Issue 27: "a table (peak and where, width of the beam at 3 dB, front-to-back, how many azimuths each leads in)". Definitions only.
use Rattle.std.specs.Prelude.{ℕ, ◌+◌, ◌*◌, List, ◌++◌}
use Rattle.quoted.specs.Quoted.{quoted}
use Rattle.labels.specs.Writing.{whole, reading}
use Rattle.figures.specs.Figures.{difference}
use Rattle.captions.specs.declared.Heading.{Heading}
use Rattle.table.specs.declared.column.Shown.{Shown}
use Rattle.table.specs.declared.column.Shape.{Shape}
use Rattle.table.specs.declared.column.Shape.TheVariants as shape
use Rattle.table.specs.declared.column.Figures.{Figures}

-- the start of a cell: a column begins at x, and rows stand 310 apart
unfoldable pub cell_text : ℕ → ℕ → List ℕ
cell_text x row = whole (quoted "<text x='") x ++ whole (quoted "' y='") (8060 + 310 * row)

-- a cell of words alone
unfoldable pub words_text : ℕ → ℕ → List ℕ → List ℕ
words_text x row words = cell_text x row ++ quoted "'>" ++ words ++ quoted "</text>\n"

-- ---- the five rows, by their numbers (gains and MHz are raised hundredths)

-- MHz and elevation
unfoldable pub set_text : ℕ → Heading → List ℕ
set_text x h =
    cell_text x 0 ++ reading (quoted "'>") h.mhz ++ whole (quoted " MHz, ") h.elevation ++ quoted "&#176;</text>\n"

-- "peak and where"
unfoldable pub peak_text : ℕ → ℕ → ℕ → List ℕ
peak_text x peak azimuth =
    cell_text x 1 ++ reading (quoted "'>") peak ++ whole (quoted " dBi at ") azimuth ++ quoted "&#176;</text>\n"

-- "width of the beam at 3 dB"
unfoldable pub beam_text : ℕ → ℕ → List ℕ
beam_text x beam = cell_text x 2 ++ whole (quoted "'>") beam ++ quoted "&#176;</text>\n"

-- "front-to-back": the gain at azimuth 0 less the one behind
unfoldable pub back_text : ℕ → ℕ → ℕ → List ℕ
back_text x front behind = cell_text x 3 ++ difference (quoted "'>") front behind ++ quoted " dB</text>\n"

-- "how many azimuths each leads in"
unfoldable pub leads_text : ℕ → ℕ → List ℕ
leads_text x leads = cell_text x 4 ++ whole (quoted "'>") leads ++ quoted " azimuths</text>\n"

-- ---- a mast's column

-- words in place of the peak, and neither beam nor front-to-back
unfoldable pub none_text : ℕ → List ℕ → List ℕ
none_text x words = words_text x 1 words ++ words_text x 2 (quoted "-") ++ words_text x 3 (quoted "-")

unfoldable pub shown_text : ℕ → Shown → List ℕ
shown_text x s = peak_text x s.peak s.azimuth ++ beam_text x s.beam ++ back_text x s.front s.behind

-- a silence and a row of floors alone have no peak to speak of
unfoldable pub shape_text : ℕ → Shape → List ℕ
shape_text x shape.Silence = none_text x (quoted "silence")
shape_text x shape.Floors = none_text x (quoted "floor all round")
shape_text x (shape.Shown s) = shown_text x s

unfoldable pub column_text : ℕ → Figures → List ℕ
column_text x f = set_text x f.heading ++ shape_text x f.shape ++ leads_text x f.leads

-- ---- the table: what its columns and rows are, then the masts'

unfoldable pub heads_text : List ℕ
heads_text =
    quoted "<path d='M -850 7780 H 8850' stroke='#888' stroke-width='14'/>\n<text x='2600' y='7700'>A</text>\n<text x='6000' y='7700'>B</text>\n"
    ++ quoted "<text x='-850' y='8060'>set at</text>\n<text x='-850' y='8370'>peak</text>\n<text x='-850' y='8680'>beam at 3 dB</text>\n"
    ++ quoted "<text x='-850' y='8990'>front-to-back</text>\n<text x='-850' y='9300'>leads in</text>\n"

unfoldable pub table_text : Figures → Figures → List ℕ
table_text first second = heads_text ++ column_text 2600 first ++ column_text 6000 second
