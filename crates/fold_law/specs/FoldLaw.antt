-- Issue 27: "The half that is folded (where the mirror law holds) can be shown apart with `--fold`, so that a class sees what is worked out and what is folded over." Definitions only.
use Rattle.std.specs.Prelude.{ℕ, ◌-◌, ◌<◌, ◌≡◌, true, List, pos, length, get_or}
use Rattle.answers.specs.Outcome.{accepted}
use Rattle.answers.specs.declared.Kind.TheVariants.{Level}
use Rattle.heading.specs.Heading.{heading_of}
use Rattle.heading.specs.declared.Heading.{Heading}
use Rattle.shown.specs.Plate.{Entry}
use Rattle.shown.specs.Shown.{shown_of}

-- the entry at an azimuth, of a plate that has one there
abbrev pub entry : List Entry → ℕ → Entry
entry entries v = get_or entries v (Level, pos 0)

-- the entry at each azimuth v but 90 and 270 is the entry at 360 - v, kind and number
abbrev pub MirrorImage : List Entry → Type 0
MirrorImage entries = (v : ℕ) → 0 < v → v < 360 → (v ≡ 90 → ⊥) → (v ≡ 270 → ⊥) → entry entries v ≡ entry entries (360 - v)

pub record FoldLaw : Type 0 where
  -- a plate has an entry for each azimuth
  pub whole : (input : List ℕ) {entries : List Entry} → shown_of input ≡ accepted entries → length entries ≡ 360
  -- where its heading says that it is mirrored, its halves are mirror images
  pub mirrored : (input : List ℕ) {h : Heading} {entries : List Entry} → heading_of input ≡ accepted h → h.mirrored ≡ true → shown_of input ≡ accepted entries → MirrorImage entries
