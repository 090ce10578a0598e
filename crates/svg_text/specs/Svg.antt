-- Issue 27, "`--svg`: the plate as a picture": its text. Definitions only.
use Rattle.std.specs.Prelude.{ℕ, Bool, cond, ◌&&◌, None, Some, List, [], ltb}
use Rattle.answers.specs.Outcome.{Outcome, refused, accepted}
use Rattle.heading.specs.declared.Heading.{Heading}
use Rattle.captions.specs.declared.Heading as captions
use Rattle.captions.specs.declared.Mast.TheVariants as mast
use Rattle.picture.specs.Picture.{picture_in, refusal_in}
use Rattle.pair.specs.Pair.{pair_in}
use Rattle.svg_text.specs.Drawn.{Drawn, drawn_of}

-- "elevation, MHz and the antenna's name in words"
unfoldable pub caption_of : Heading → captions.Heading
caption_of h = record { antenna = h.antenna; mhz = h.mhz; elevation = h.elevation }

-- "a refusal as its sentence"; "the half that is folded (where the mirror law holds) can be shown apart"
unfoldable pub pictured : ℕ → Bool → Outcome Drawn → List ℕ
pictured room fold (refused number) = refusal_in room None number
pictured room fold (accepted d) = picture_in room d.numbers d.kinds (fold && d.heading.mirrored) (caption_of d.heading)

-- into a buffer of room bytes, of the 237 bytes that `plate` reads
unfoldable pub svg_in : ℕ → List ℕ → Bool → List ℕ
svg_in room input fold = pictured room fold (drawn_of input)

-- "both masts on one plate"; a refusal of the second is told as B's
unfoldable pub beside_in : ℕ → Drawn → Outcome Drawn → List ℕ
beside_in room a (refused number) = refusal_in room (Some mast.B) number
beside_in room a (accepted b) = pair_in room a.numbers a.kinds (caption_of a.heading) b.numbers b.kinds (caption_of b.heading)

-- a refusal of the first is told as A's, whatever the second is
unfoldable pub both_in : ℕ → Outcome Drawn → Outcome Drawn → List ℕ
both_in room (refused number) second = refusal_in room (Some mast.A) number
both_in room (accepted a) second = beside_in room a second

-- of two masts, into a buffer of room bytes: nothing where there are under 131,072
unfoldable pub svg_two_in : ℕ → List ℕ → List ℕ → List ℕ
svg_two_in room first second = cond (ltb room 131072) [] (both_in room (drawn_of first) (drawn_of second))
