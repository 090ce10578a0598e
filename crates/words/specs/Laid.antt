-- What a lent list holds after others are laid over its elements. Definitions only.
use Rattle.std.specs.Prelude.{ℕ, ◌+◌, List, ◌++◌, length, take, drop}

-- the list lent, with s over its elements from place k on
unfoldable pub laid : {A : Type 0} → List A → ℕ → List A → List A
laid lent k s = take k lent ++ s ++ drop (k + length s) lent
