-- A plate as a row, as pictures and figures take it: hundredths raised by 100,000, and kinds. Definitions only.
use Rattle.std.specs.Prelude.{ℕ, List, map, ℤ, pos, nat_abs, ◌+ℤ◌}
use Rattle.answers.specs.declared.Kind.{Kind}
use Rattle.shown.specs.Plate.{Entry}

unfoldable pub raised : ℤ → ℕ
raised h = nat_abs (h +ℤ pos 100000)

unfoldable pub numbers_of : List Entry → List ℕ
numbers_of entries = map (λ (e : Entry). raised e.1) entries

unfoldable pub kinds_of : List Entry → List Kind
kinds_of entries = map (λ (e : Entry). e.0) entries
