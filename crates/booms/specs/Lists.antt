-- The elements of types 5 and 6 by their lists. Definitions only.
use Rattle.std.specs.Prelude.{ℕ, List, get_or, Float}
use Rattle.std.specs.Float.{nan}
use Rattle.model.specs.declared.record.Elements.{Elements}
use Rattle.booms.specs.declared.boom.Element.{Element}

-- element i, and all of them, by their lists
abbrev pub element_by : List Float → List Float → List Float → List Float → List Float → ℕ → Element
element_by fi rim x y rl i = record { rl = get_or rl i nan; rim = get_or rim i nan; fi = get_or fi i nan; x = get_or x i nan; y = get_or y i nan }

abbrev pub elements_by : List ℕ → List Float → List Float → List Float → List Float → List Float → List Float → ℕ → Elements
elements_by iek fi rim x y rl h nat = record { fi = fi; rim = rim; x = x; y = y; iek = iek; rl = rl; h = h; nat = nat }
