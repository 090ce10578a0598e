-- What set-up's search found, as words. Definitions only.
use Rattle.std.specs.Prelude.{ℕ, ◌%◌, ◌^◌, List, [], ◌∷◌}
use Rattle.search.specs.declared.record.Peak.{Peak}
use Rattle.packed.specs.Lists.{bits}

-- the reading count, of which a word holds the low 32 bits, and the bits of z6, umax and vmax
unfoldable pub search_words : ℕ → Peak → List ℕ
search_words readings p = readings % 2 ^ 32 ∷ bits (p.z6 ∷ p.umax ∷ p.vmax ∷ [])
