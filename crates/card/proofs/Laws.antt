-- What is proved of reading a card, beside that the code does it. Assumes nothing.
use mathlib.Core.Path.{◌≡◌, refl}
use mathlib.Core.List.{List}
use Prim.Native.Nat.{ℕ, ◌+◌, ◌-◌, ◌≤◌}
use mathlib.Core.Bool.{true, false}
use Rattle.std.specs.Prelude.{Option, Some, None, is_some, Ok}
use Rattle.fields.specs.Names.{FIELDS}
use Rattle.fields.specs.Table.{has_field, count_of}
use Rattle.fields.proofs.Laws.{first_place}
use Rattle.card.specs.declared.Reading.{Reading}
use Rattle.card.specs.declared.mistakes.Mistake.{Mistake}
use Rattle.card.specs.Card.{card_of}
use Rattle.card.specs.Kind.{type_in, kind_in}
use Rattle.card.specs.Mistakes.{card_mistake}
use Rattle.card.specs.Reading.{accepted, unless, read_card, read_of}
use Rattle.card.specs.Good.{GoodCard, Stands, TypeStands}
use Rattle.card.proofs.GoodCard.{good_card, good-accepted}
use Rattle.card.proofs.Numbers.{number-stands, type-le, type-stands}
use Rattle.card.proofs.Sound.{mode-le}

granted : (m : Option Mistake) {r : Reading} → is_some m ≡ false → unless m r ≡ Ok r
granted None e = refl
granted (Some m) e = cc

module _ (text : List ℕ) where
  -- a good card is accepted, with the station of its places
  pub good-read : GoodCard (kind_in (card_of text)) (card_of text) → read_of text ≡ Ok (accepted (kind_in (card_of text)) (card_of text))
  unfolding read_of read_card
  good-read g = granted (card_mistake (kind_in (card_of text)) (card_of text)) (good-accepted (kind_in (card_of text)) (card_of text) g)

  module _ {r : Reading} (e : read_of text ≡ Ok r) where
    -- an accepted card is a good one
    pub accepted-good : GoodCard (kind_in (card_of text)) (card_of text)
    unfolding read_of read_card
    accepted-good = good_card (kind_in (card_of text)) (card_of text) (none _ (card_mistake (kind_in (card_of text)) (card_of text)) e)
      where
        none : (other : Reading) (m : Option Mistake) → unless m other ≡ Ok r → is_some m ≡ false
        none other None q = refl
        none other (Some m) q = cc

    -- its numbers, but the type, are those that their fields take, and stand in their places
    pub accepted-number : (f k : ℕ) → 2 ≤ f → f ≤ FIELDS → has_field (kind_in (card_of text)) f ≡ true → 1 ≤ k → k ≤ count_of (kind_in (card_of text)) f
        → Stands (kind_in (card_of text)) (card_of text) f k (first_place (kind_in (card_of text)) f + (k - 1))
    unfolding kind_in type_in
    accepted-number = number-stands (kind_in (card_of text)) (card_of text) accepted-good (type-le _) (mode-le _ (card_of text))

    -- its type is 1 to 9 and stands in slot 1, or it is the curtain
    pub accepted-type : TypeStands (kind_in (card_of text)) (card_of text)
    unfolding kind_in type_in
    accepted-type = type-stands (kind_in (card_of text)) (card_of text) accepted-good (type-le _) (mode-le _ (card_of text)) refl
