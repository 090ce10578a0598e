-- Issue 27: "rings every 10 dB labelled in dBi". Definitions only.
use Rattle.std.specs.Prelude.{ℕ, zero, suc, ◌+◌, ◌*◌, ◌/◌, ◌%◌, Bool, cond, List, [], ◌++◌, ltb, get_or}
use Rattle.quoted.specs.Quoted.{quoted}
use Rattle.labels.specs.Writing.{whole, dbi}
use Rattle.dial.specs.Scale.{bottom_of, span_of, radius_of}

-- labels stand below the centre, within their ring or without: within where the curve at 175 degrees lies less than 5 dB beyond a ring, so that it passes them
abbrev pub within : List ℕ → Bool
within numbers = ltb (get_or numbers 175 0 % 1000) 500

-- a ring, by its distance from the centre
unfoldable pub ring_text : ℕ → List ℕ
ring_text r = whole (quoted "<circle cx='4000' cy='4000' r='") r ++ quoted "'/>\n"

-- the gain of the ring k times 10 dB above the bottom ring
abbrev pub ring_gain : ℕ → ℕ → ℕ
ring_gain peak k = bottom_of peak + 1000 * k

-- the first n rings, the bottom ring first
unfoldable pub rings_to : ℕ → ℕ → List ℕ
rings_to peak zero = []
rings_to peak (suc k) = rings_to peak k ++ ring_text (radius_of peak (ring_gain peak k))

-- the axes, and the rings from the bottom to the top
unfoldable pub scale_text : ℕ → List ℕ
scale_text peak =
    quoted "<g fill='none' stroke='#888' stroke-width='14'>\n"
    ++ quoted "<path d='M 4000 900 V 3600 M 4000 4400 V 7100 M 900 4000 H 3600 M 4400 4000 H 7100'/>\n"
    ++ rings_to peak (span_of peak / 1000 + 1)
    ++ quoted "</g>\n"

-- the height of the label of a ring
unfoldable pub label_height : Bool → ℕ → ℕ
label_height inner r = cond inner (3955 + r) (4215 + r)

-- the label of a ring: its gain in dBi
unfoldable pub label_text : Bool → ℕ → ℕ → List ℕ
label_text inner r gain =
    whole (quoted "<text x='4060' y='") (label_height inner r) ++ quoted "'>" ++ dbi gain ++ quoted "</text>\n"

-- the labels of the first n rings above the bottom ring
unfoldable pub labels_to : Bool → ℕ → ℕ → List ℕ
labels_to inner peak zero = []
labels_to inner peak (suc k) =
    labels_to inner peak k
    ++ label_text inner (radius_of peak (ring_gain peak (suc k))) (ring_gain peak (suc k))

-- the bottom ring's label, in two lines at the centre
unfoldable pub bottom_label : ℕ → List ℕ
bottom_label peak =
    quoted "<text x='4000' y='3980' text-anchor='middle'>"
    ++ dbi (bottom_of peak)
    ++ quoted "</text>\n<text x='4000' y='4230' text-anchor='middle'>dBi</text>\n"

-- the labels, with a white rim that keeps them readable on the curve
unfoldable pub labels_text : Bool → ℕ → List ℕ
labels_text inner peak =
    quoted "<g fill='#333' stroke='#fff' stroke-width='80' paint-order='stroke'>\n"
    ++ bottom_label peak
    ++ labels_to inner peak (span_of peak / 1000)
    ++ quoted "</g>\n"
