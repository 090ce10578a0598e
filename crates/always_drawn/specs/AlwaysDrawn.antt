-- Issue 27: "the plate as a picture", "both masts on one plate": what is shown is drawn, whole, where there is room. Definitions only.
use Rattle.std.specs.Prelude.{ℕ, ◌≤◌, ◌≡◌, Bool, ◌&&◌, List}
use Rattle.answers.specs.Outcome.{accepted}
use Rattle.picture.specs.Picture.{picture_of}
use Rattle.pair.specs.Pair.{pair_of}
use Rattle.svg_text.specs.Drawn.{Drawn, drawn_of}
use Rattle.svg_text.specs.Svg.{caption_of, svg_in, svg_two_in}

pub record AlwaysDrawn : Type 0 where
  -- a plate that is shown, in at least 65,536 bytes
  pub one : (room : ℕ) (input : List ℕ) (fold : Bool) {d : Drawn} → 65536 ≤ room → drawn_of input ≡ accepted d
      → svg_in room input fold ≡ picture_of d.numbers d.kinds (fold && d.heading.mirrored) (caption_of d.heading)
  -- two of them, in at least 131,072
  pub two : (room : ℕ) (first second : List ℕ) {a b : Drawn} → 131072 ≤ room → drawn_of first ≡ accepted a → drawn_of second ≡ accepted b
      → svg_two_in room first second ≡ pair_of a.numbers a.kinds (caption_of a.heading) b.numbers b.kinds (caption_of b.heading)
