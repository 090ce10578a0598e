-- Document 02, card 10: joins and leaves, which of them are refused, and who is on the air after them. Definitions only.
use Rattle.std.specs.Prelude.{◌≡◌, ℕ, Bool, true, false, cond, not, ◌&&◌, ◌||◌, List, [], ◌∷◌, length, T, ltb, leb, eqb, Float}
use Rattle.std.specs.Float.{binary32}
use Rattle.std.specs.Float.Ieee.{fits}
use Rattle.floats.specs.Ops.{at}
use Rattle.floats.specs.Ranges.{all_finite}
use Rattle.answers.specs.Refusals.{VALUE, SPACE, CALL, FULL}
use Rattle.board_air.specs.Stations.{Station, station}

pub data Call : Type 0 where
  join : ℕ → List Float → Call
  leave : ℕ → Call

-- f32 numbers
abbrev pub F32s : List Float → Type 0
F32s row = (v : ℕ) → T (fits binary32 (at row v))

-- a call that can be made: its row is of f32 numbers
abbrev pub Made : Call → Type 0
Made (join id row) = F32s row
Made (leave id) = Unit

-- a run of them
pub data Run : List Call → Type 0 where
  start : Run []
  next : {c : Call} {cs : List Call} → Made c → Run cs → Run (c ∷ cs)

-- a station of this id is on
unfoldable pub on : ℕ → List Station → Bool
on id [] = false
on id (s ∷ ss) = eqb s.id id || on id ss

-- 1 to 65,535
unfoldable pub is_id : ℕ → Bool
is_id id = ltb 0 id && leb id 65535

-- the first number of the card's order, 0 where there is none. `space` says that what is lent for the board is one
unfoldable pub join_refusal : Bool → List Station → ℕ → List Float → ℕ
join_refusal space ss id row =
    cond (not (all_finite row)) VALUE
    (cond (not (space && eqb (length row) 360)) SPACE
    (cond (not (is_id id && not (on id ss))) CALL
    (cond (leb 16 (length ss)) FULL 0)))

unfoldable pub leave_refusal : Bool → List Station → ℕ → ℕ
leave_refusal space ss id = cond (not space) SPACE (cond (not (is_id id && on id ss)) CALL 0)

-- what a call answers on a board with these stations on
unfoldable pub refusal_of : List Station → Call → ℕ
refusal_of ss (join id row) = join_refusal true ss id row
refusal_of ss (leave id) = leave_refusal true ss id

-- a newcomer with 360 finite numbers
pub record New (id : ℕ) (row : List Float) (ss : List Station) : Type 0 where
  pub known : is_id id ≡ true
  pub new : on id ss ≡ false
  pub whole : length row ≡ 360
  pub numbers : all_finite row ≡ true

-- those on, less the one of this id
unfoldable pub without : ℕ → List Station → List Station
without id [] = []
without id (s ∷ ss) = cond (eqb s.id id) (without id ss) (s ∷ without id ss)

-- who is on after a call that is accepted, the latest to join first
unfoldable pub accepted : List Station → Call → List Station
accepted ss (join id row) = station id row ∷ ss
accepted ss (leave id) = without id ss

-- and after any call: a refused one changes nothing
unfoldable pub after : List Station → Call → List Station
after ss c = cond (ltb 0 (refusal_of ss c)) ss (accepted ss c)

-- and after a run of calls, the first call first
unfoldable pub after_all : List Station → List Call → List Station
after_all ss [] = ss
after_all ss (c ∷ cs) = after_all (after ss c) cs

-- from an empty board
unfoldable pub present : List Call → List Station
present cs = after_all [] cs
