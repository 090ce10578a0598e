-- Refusal 6 of an antenna record: the counts that gain runs its loops by. Definitions only.
use Rattle.std.specs.Prelude.{ℕ, zero, suc, Bool, true, ◌&&◌, List, get_or, leb, Float}
use Rattle.std.specs.Float.Ieee.{le}
use Rattle.floats.specs.Ops.{+0}
use Rattle.floats.specs.Literals.{sixty_four}
use Rattle.model.specs.declared.record.Model.{Model}

-- at least 0 and at most 64
unfoldable pub count_ok : Float → Bool
count_ok x = le +0 x && le x sixty_four

-- an element's number, 1 to 30
unfoldable pub element_ok : ℕ → Bool
element_ok i = leb 1 i && leb i 30

-- entries 1 to n of the list are numbers of elements
unfoldable pub elements_ok : List ℕ → ℕ → Bool
elements_ok iek zero = true
elements_ok iek (suc n) = elements_ok iek n && element_ok (get_or iek (suc n) 0)

unfoldable pub counts_ok : Model → Bool
counts_ok m =
    leb m.elements.nat 30
    && (count_ok m.constants.r2 && count_ok m.constants.r3 && elements_ok m.elements.iek m.elements.nat)
