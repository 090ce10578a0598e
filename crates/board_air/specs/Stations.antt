-- Document 02, card 10: stations on the air, and what the board shows of them. Definitions only.
use Rattle.std.specs.Prelude.{◌≡◌, ℕ, zero, suc, ◌≤◌, Bool, true, false, cond, ◌&&◌, ◌||◌, replicate, ltb, Float}
use mathlib.Core.List.{List, [], ◌∷◌, ◌++◌, Memᴰ}
use Rattle.std.specs.Float.Ieee.{lt, eq, neg}
use Rattle.floats.specs.Literals.{thirty}
use Rattle.floats.specs.Ops.{at}

-- a station: its id, and its plate row of 360 numbers
pub record Station : Type 0 where
  pub id : ℕ
  pub row : List Float

abbrev pub station : ℕ → List Float → Station
station id row = record { id = id; row = row }

-- its number at azimuth v
abbrev pub number_at : ℕ → Station → Float
number_at v s = at s.row v

-- -30 and id 0: what is shown with nobody on
unfoldable pub nobody : Station
nobody = station 0 (replicate 360 (neg thirty))

-- t outdoes s at azimuth v: its number is greater, or equal (as +0 and -0 are) with a lower id
unfoldable pub outdoes : ℕ → Station → Station → Bool
outdoes v t s = lt (number_at v s) (number_at v t) || eq (number_at v s) (number_at v t) && ltb t.id s.id

-- one of them outdoes s
unfoldable pub outdone : ℕ → List Station → Station → Bool
outdone v [] s = false
outdone v (t ∷ ts) s = outdoes v t s || outdone v ts s

-- the first of ss that none of all the stations outdoes
unfoldable pub first_of : ℕ → List Station → List Station → Station
first_of v all [] = nobody
first_of v all (s ∷ ss) = cond (outdone v all s) (first_of v all ss) s

-- the station shown at azimuth v: the one of those on that none of them outdoes
unfoldable pub shown : ℕ → List Station → Station
shown v ss = first_of v ss ss

-- s is the strongest at azimuth v: on the air, with no number above its own and no lower id at an equal one
pub record Strongest (v : ℕ) (ss : List Station) (s : Station) : Type 0 where
  pub on : Memᴰ s ss
  pub greatest : (t : Station) → Memᴰ t ss → lt (number_at v s) (number_at v t) ≡ false
  pub lowest : (t : Station) → Memᴰ t ss → eq (number_at v s) (number_at v t) ≡ true → s.id ≤ t.id

-- f at each azimuth below n
unfoldable pub up_to : {A : Type 0} → (ℕ → A) → ℕ → List A
up_to f zero = []
up_to f (suc n) = up_to f n ++ (f n ∷ [])

-- the board worked out afresh from those on: the greatest number at each azimuth, and the id that has it
unfoldable pub numbers_shown : List Station → List Float
numbers_shown ss = up_to (λ (v : ℕ). number_at v (shown v ss)) 360

unfoldable pub ids_shown : List Station → List ℕ
ids_shown ss = up_to (λ (v : ℕ). (shown v ss).id) 360
