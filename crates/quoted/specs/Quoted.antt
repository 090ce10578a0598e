-- A text in quotation marks as its bytes, for characters of ASCII: each is one byte, its code. Definitions only.
use Rattle.std.specs.Prelude.{ℕ, List, [], ◌∷◌}
use Prim.Native.Char.{code}
use Prim.Native.String.{String, [] as []ˢ, ◌∷◌ as ◌∷ˢ◌}

unfoldable pub quoted : String → List ℕ
quoted []ˢ = []
quoted (c ∷ˢ s) = code c ∷ quoted s
