-- What the words of an air let its readers ask, and a list read one by one. Assumes nothing.
use mathlib.Core.Path.{◌≡◌, refl, ap, ◌∙◌}
use mathlib.Core.Bool.{true}
use mathlib.Core.List.{List, [], ◌∷◌, ◌++◌}
use Prim.Native.Nat.{ℕ, zero, suc, ◌≤◌}
use native.Mathlib.Omega.{arith}
use lib.ListN.{length, get_or, take}
use lib.Seq.{take-suc}
use Rattle.board_air.specs.Stations.{up_to}
use Rattle.board_air.specs.Words.{air_size, count_in, stations_to, stations_ok, air_ok}
use Rattle.board_air.proofs.Good.{good}

pub air_counts : (air : List ℕ) → air_ok air ≡ true → (length air ≡ air_size) × (count_in air ≤ 16) × (stations_ok (stations_to air (count_in air)) ≡ true)
air_counts air h = let g = good air h in (g.size, g.few, g.ok)

-- the first n of l, read one by one
pub up_to-read : {A : Type 0} (l : List A) (d : A) (n : ℕ) → n ≤ length l → take n l ≡ up_to (λ (v : ℕ). get_or l v d) n
unfolding up_to
up_to-read l d zero h = refl
up_to-read {A} l d (suc n) h = take-suc l n d (omega arith) ∙ ap (λ (r : List A). r ++ (get_or l n d ∷ [])) (up_to-read l d n (omega arith))
