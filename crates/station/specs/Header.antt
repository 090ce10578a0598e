-- Document 02, card 7, "The type stands in the record": a record's header is 2 bits of the edition, 2 of the mode and, in edition 1, 4 of
-- the type. There are editions 0 and 1. Definitions only.
use Rattle.std.specs.Prelude.{ℕ, ◌+◌, ◌*◌, ◌^◌, Bool, true, cond, not, ◌&&◌, eqb, leb, Float}
use Rattle.model.specs.Types.{jant_of, type_ok}

-- the bits of the type: edition 0 has none
unfoldable pub type_bits : ℕ → ℕ
type_bits edition = cond (eqb edition 0) 0 4

-- the bits of the header
unfoldable pub width_of : ℕ → ℕ
width_of edition = 4 + type_bits edition

-- a station's type, by its mode and slot 1: `jant` of slot 1, or 10 for the curtain
unfoldable pub type_of : ℕ → Float → ℕ
type_of mode slot1 = cond (leb mode 2) (jant_of slot1) 10

-- what stands in the type's bits
unfoldable pub type_field : ℕ → ℕ → Float → ℕ
type_field edition mode slot1 = cond (eqb edition 0) 0 (type_of mode slot1)

-- edition, mode and type, one behind the other
unfoldable pub header_of : ℕ → ℕ → Float → ℕ
header_of edition mode slot1 = (edition * 4 + mode) * 2 ^ type_bits edition + type_field edition mode slot1

-- the reader's test of the type's bits: "In modes 0 to 2 the field must be 1 to 9 and equal `jant` of slot 1; mode 3 goes with 10 only."
unfoldable pub type_agrees : ℕ → ℕ → ℕ → Float → Bool
type_agrees edition field mode slot1 =
    cond (eqb edition 0) true (cond (leb mode 2) (type_ok field && eqb field (jant_of slot1)) (eqb field 10))

-- the writer's: "a station that can't have an edition 1 form, its `jant` outside 1 to 9 in modes 0 to 2"
unfoldable pub typeless : ℕ → ℕ → Float → Bool
typeless edition mode slot1 = eqb edition 1 && leb mode 2 && not (type_ok (jant_of slot1))
