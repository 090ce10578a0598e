-- What is known past the refusals, and that what a join, a leave and a show write is what they are to leave. Assumes nothing.
use mathlib.Core.Path.{◌≡◌, refl, sym, ap, ◌∙◌}
use mathlib.Core.Bool.{true, not, ◌&&◌}
use mathlib.Core.List.{List, [], ◌∷◌, ◌++◌, map}
use Prim.Native.Nat.{ℕ, ◌+◌, ◌<◌}
use lib.ListN.{length, get_or, replicate}
use lib.Ieee.{Float, binary32, to_bits, of_bits}
use lib.Dec.{eqb}
use borrow.Author.Tests.{eqb-true, not-false, lt-ltb}
use Rattle.answers.specs.declared.Refusal.{Refusal}
use Rattle.answers.specs.Outcome.{number}
use Rattle.answers.proofs.Outcome.{number-pos}
use Rattle.floats.proofs.Tests.{both, next}
use Rattle.board_air.specs.Stations.{Station, station, up_to}
use Rattle.board_air.specs.Runs.{F32s, on, without}
use Rattle.board_air.specs.Words.{U32s, board_size, air_of, places_of, air_ok, kept_of, words_of, air_in, kept_in, stations_on, stations_in, board_ok}
use Rattle.board.specs.Calls.{unless, join_answer, join_leaves, leave_answer, leave_leaves, show_answer, show_numbers, show_ids}
use Rattle.board_kept.specs.Steps.{kept_by, raised, renewed}
use Rattle.board_anew.proofs.Answers.{MayJoin, may_join, MayLeave, may_leave}
use Rattle.board_air.proofs.Airs.{OnAir, air_of_lem}
use Rattle.board.proofs.Boards.{Whole, whole, stations_on_air}
use Rattle.board_anew.proofs.Present.{one_more, one_fewer}
use Rattle.board_anew.proofs.Keeping.{kept_more, kept-fewer, numbers-kept, ids_kept}

-- a refusal leaves what is lent
pub refused_stays : {A : Type 0} (r : Refusal) (n : ℕ) (lent written : A) → number r ≡ n → lent ≡ unless n lent written
refused_stays r n lent written e = rw (← e, lt-ltb 0 (number r) (number-pos r))

-- ---- the board

module _ (words : List ℕ) (id : ℕ) where
  module _ (row : List Float) (accepted : join_answer words id row ≡ 0) where
    pub joining : MayJoin (board_ok words) (stations_in words) id row
    unfolding join_answer
    joining = may_join (board_ok words) (stations_in words) id row accepted

    pub join-left : U32s words → F32s row
        → air_of (station id row ∷ stations_in words) ++ kept_by (raised id (map (to_bits binary32) row) (kept_in words)) ≡ join_leaves words id row
    unfolding join_leaves words_of
    join-left u held =
        let w = whole words joining.good in
        let Now-on = one_more id row held (stations_on_air words u w) (rw joining.good at joining) in
        rw accepted
        (ap (λ (kept : List ℕ). air_of (station id row ∷ stations_in words) ++ kept_by (raised id (map (to_bits binary32) row) kept)) w.kept
        ∙ ap (λ (kept : List ℕ). air_of (station id row ∷ stations_in words) ++ kept) (kept_more (station id row) (stations_in words) Now-on))

  module _ (accepted : leave_answer words id ≡ 0) where
    pub leaving : MayLeave (board_ok words) (stations_in words) id
    unfolding leave_answer
    leaving = may_leave (board_ok words) (stations_in words) id accepted

    -- those left, in their places
    pub left-on : U32s words → OnAir (without id (stations_in words))
    left-on u = one_fewer id (stations_on_air words u (whole words leaving.good))

    pub leave-left : U32s words → let air = air_of (without id (stations_in words)) in
        air ++ kept_by (renewed id (stations_on air) (kept_in words)) ≡ leave_leaves words id
    unfolding leave_leaves words_of
    leave-left u =
        let w = whole words leaving.good in
        let ss = stations_in words in
        let rest = without id ss in
        rw accepted
        (ap (λ (on : List Station). air_of rest ++ kept_by (renewed id on (kept_in words))) (air_of_lem (left-on u)).1
        ∙ ap (λ (kept : List ℕ). air_of rest ++ kept_by (renewed id rest kept)) w.kept
        ∙ ap (λ (kept : List ℕ). air_of rest ++ kept) (kept-fewer id ss (stations_on_air words u w)))

-- an empty board, zeros with nobody shown
pub emptied : replicate 5777 0 ++ kept_of [] ≡ words_of []
unfolding words_of air_of places_of
emptied = refl

-- what the steps ask, past the refusals
pub join_asks : (words : List ℕ) (id : ℕ) (row : List Float) → 0 ≡ join_answer words id row
    → (length words ≡ board_size) × (air_ok (air_in words) ≡ true) × (length (stations_in words) < 16) × (length row ≡ 360)
join_asks words id row e =
    let may = joining words id row (sym e) in
    let w = whole words may.good in
    (w.size, w.air, may.room, may.whole)

pub leave_asks : (words : List ℕ) (id : ℕ) → 0 ≡ leave_answer words id
    → (length words ≡ board_size) × (air_ok (air_in words) ≡ true) × (on id (stations_in words) ≡ true)
leave_asks words id e =
    let may = leaving words id (sym e) in
    let w = whole words may.good in
    (w.size, w.air, may.present)

-- a board that is shown, and what is lent to show it in
pub record Shows (words : List ℕ) (numbers ids : ℕ) : Type 0 where
  pub board : Whole words
  pub whole : (numbers ≡ 360) × (ids ≡ 360)

pub shows : (words : List ℕ) (numbers ids : ℕ) → show_answer words numbers ids ≡ 0 → Shows words numbers ids
unfolding show_answer
shows words numbers ids h =
    let lent = board_ok words && eqb numbers 360 && eqb ids 360 in
    let p = both (board_ok words && eqb numbers 360) (eqb ids 360) (not-false lent (next (not lent) 7 0 h).0) in
    let q = both (board_ok words) (eqb numbers 360) p.0 in
    record { board = whole words q.0; whole = (eqb-true numbers 360 q.1, eqb-true ids 360 p.1) }

pub show_asks : (words : List ℕ) (numbers ids : ℕ) → 0 ≡ show_answer words numbers ids → (length words ≡ board_size) × (numbers ≡ 360) × (ids ≡ 360)
show_asks words numbers ids e = let s = shows words numbers ids (sym e) in (s.board.size, s.whole.0, s.whole.1)

-- what is kept is what is shown
module _ (words : List ℕ) (numbers : List Float) (ids : List ℕ) (accepted : 0 ≡ show_answer words (length numbers) (length ids)) where
  board : Whole words
  board = (shows words (length numbers) (length ids) (sym accepted)).board

  pub numbers-shown : U32s words → up_to (λ (v : ℕ). of_bits binary32 (get_or (kept_in words) v 0)) 360 ≡ show_numbers words numbers ids
  unfolding show_numbers
  numbers-shown u =
      rw (← accepted, board.kept) (numbers-kept (stations_in words) (stations_on_air words u board))

  pub ids-shown : up_to (λ (v : ℕ). get_or (kept_in words) (360 + v) 0) 360 ≡ show_ids words numbers ids
  unfolding show_ids
  ids-shown = rw (← accepted, board.kept) (ids_kept (stations_in words))
