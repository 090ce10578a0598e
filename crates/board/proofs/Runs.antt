-- What is promised of every run of joins and leaves from an empty board, refused ones among them. Assumes nothing.
use mathlib.Core.Path.{◌≡◌, refl, sym, ap, ◌∙◌}
use mathlib.Core.Bool.{Bool, true, false, cond, ◌||◌, false≢true}
use mathlib.Core.List.{List, [], ◌∷◌, ◌++◌, Memᴰ}
use Prim.Native.Nat.{ℕ, ◌≤◌, ◌<◌}
use native.Mathlib.Omega.{arith}
use lib.ListN.{length}
use lib.Dec.{ltb, eqb}
use lib.Ieee.{Float}
use borrow.Author.Tests.{eq-eqb, eqb-true}
use Rattle.answers.specs.Refusals.{FULL}
use Rattle.board_air.specs.Stations.{Station, station, numbers_shown, ids_shown, outdoes, shown, Strongest}
use Rattle.board_air.specs.Runs.{Call, join, leave, F32s, Run, start, next, on, is_id, join_refusal, leave_refusal, refusal_of, New, without, accepted, after, after_all, present}
use Rattle.board_air.specs.Words.{U32s, words_of, stations_in, board_ok, stations_ok}
use Rattle.board.specs.Calls.{join_answer, join_leaves, leave_answer, leave_leaves, show_answer, show_numbers, show_ids, answer, leaves, leaves_all, words_after}
use Rattle.board_air.proofs.Each.{Each, none, more}
use Rattle.board_air.proofs.Ranks.{shown-strongest, shown-more}
use Rattle.board_air.proofs.Good.{own}
use Rattle.board_anew.proofs.Keeping.{shown-stays}
use Rattle.board_anew.proofs.Answers.{MayJoin, may_join, joins}
use Rattle.board_air.proofs.Airs.{Row, OnAir}
use Rattle.board.proofs.Boards.{whole, stations_on_air, words_of_lem, words_back}
use Rattle.board_air.proofs.Moves.{one_gone}
use Rattle.board_anew.proofs.Present.{one_more, on_air_after, each-fit}

-- ---- the words after a run are those of the stations present

unless-same : {A B : Type 0} (f : A → B) (t : Bool) (x y : A) → cond t (f x) (f y) ≡ f (cond t x y)
unless-same f true x y = refl
unless-same f false x y = refl

-- a call on the words answers, and does, what it does on the stations
one_answer : {ss : List Station} → OnAir ss → (c : Call) → answer (words_of ss) c ≡ refusal_of ss c
unfolding answer join_answer leave_answer refusal_of
one_answer k (join id row) = rw ((words_of_lem k).0, (words_of_lem k).1)
one_answer k (leave id) = rw ((words_of_lem k).0, (words_of_lem k).1)

one-call : {ss : List Station} → OnAir ss → (c : Call) → leaves (words_of ss) c ≡ words_of (after ss c)
unfolding leaves join_leaves leave_leaves answer after accepted
one-call {ss} k (join id row) = rw (one_answer k (join id row), (words_of_lem k).1) (unless-same words_of (ltb 0 (refusal_of ss (join id row))) ss (station id row ∷ ss))
one-call {ss} k (leave id) = rw (one_answer k (leave id), (words_of_lem k).1) (unless-same words_of (ltb 0 (refusal_of ss (leave id))) ss (without id ss))

run-words : {ss : List Station} {cs : List Call} → OnAir ss → Run cs → (leaves_all (words_of ss) cs ≡ words_of (after_all ss cs)) × OnAir (after_all ss cs)
unfolding leaves_all after_all
run-words k start = (refl, k)
run-words {ss} k (next {c} {cs} m r) = rw (one-call k c) (run-words {ss = after ss c} (on_air_after c m k) r)

empty_air : OnAir []
unfolding stations_ok
empty_air = record { rows = none; few = omega arith; ok = refl }

after_run : {cs : List Call} → Run cs → (words_after cs ≡ words_of (present cs)) × OnAir (present cs)
unfolding words_after present
after_run r = run-words empty_air r

one_show : {ss : List Station} → OnAir ss → (numbers ids : ℕ) → numbers ≡ 360 → ids ≡ 360 → show_answer (words_of ss) numbers ids ≡ 0
unfolding show_answer
one_show k numbers ids n m = rw ((words_of_lem k).0, eq-eqb numbers 360 n, eq-eqb ids 360 m)

-- ---- the promises

-- the board equals the one worked out afresh from those present
pub board_law : {cs : List Call} → Run cs → (numbers : List Float) (ids : List ℕ) → length numbers ≡ 360 → length ids ≡ 360
    → (show_answer (words_after cs) (length numbers) (length ids) ≡ 0)
    × (show_numbers (words_after cs) numbers ids ≡ numbers_shown (present cs))
    × (show_ids (words_after cs) numbers ids ≡ ids_shown (present cs))
unfolding show_numbers show_ids
board_law r numbers ids n m =
    let a = after_run r in
    rw (a.0, one_show a.1 (length numbers) (length ids) n m, (words_of_lem a.1).1) (refl, refl, refl)

-- what it shows at an azimuth is the strongest of those present
pub strongest_law : {cs : List Call} → Run cs → (v : ℕ) → v < 360 → {t : Station} → Memᴰ t (present cs) → Strongest v (present cs) (shown v (present cs))
strongest_law {cs} r v h {t} m =
    let k = (after_run r).1 in
    shown-strongest v t (present cs) (each-fit v h k.rows k.ok) k.ok m

-- each call is answered by who is present
pub answers_law : {cs : List Call} → Run cs → (c : Call) → answer (words_after cs) c ≡ refusal_of (present cs) c
answers_law r c = let a = after_run r in rw a.0 (one_answer a.1 c)

-- ---- a place

after_all_append : (ss : List Station) (cs ds : List Call) → after_all ss (cs ++ ds) ≡ after_all (after_all ss cs) ds
unfolding after_all
after_all_append ss [] ds = refl
after_all_append ss (c ∷ cs) ds = after_all_append (after ss c) cs ds

-- after one call more
present-more : (cs : List Call) (c : Call) → refusal_of (present cs) c ≡ 0 → present (cs ++ (c ∷ [])) ≡ accepted (present cs) c
unfolding present after_all after
present-more cs c h = after_all_append [] cs (c ∷ []) ∙ rw h

run_append : {cs ds : List Call} → Run cs → Run ds → Run (cs ++ ds)
run_append start r = r
run_append (next m q) r = next m (run_append q r)

-- with one more the newcomer is shown where nobody was, or where it outdoes the one shown: one comparison an azimuth
pub join_law : {cs : List Call} → Run cs → (id : ℕ) (row : List Float) → F32s row → answer (words_after cs) (join id row) ≡ 0 → (v : ℕ) → v < 360
    → let was = shown v (present cs) in
    shown v (present (cs ++ (join id row ∷ []))) ≡ cond (eqb was.id 0 || outdoes v (station id row) was) (station id row) was
unfolding refusal_of accepted
join_law {cs} r id row held h v low =
    let ss = present cs in
    let may = sym (answers_law r (join id row)) ∙ h in
    let k = one_more id row held (after_run r).1 (may_join true ss id row may) in
    ap (shown v) (present-more cs (join id row) may) ∙ shown-more v (station id row) ss (each-fit v low k.rows k.ok) k.ok

-- with one gone the same is shown at each azimuth where the one gone wasn't
pub leave_law : {cs : List Call} → Run cs → (id : ℕ) → answer (words_after cs) (leave id) ≡ 0 → (v : ℕ) → v < 360 → eqb (shown v (present cs)).id id ≡ false
    → shown v (present (cs ++ (leave id ∷ []))) ≡ shown v (present cs)
unfolding accepted
leave_law {cs} r id h v low other =
    let k = (after_run r).1 in
    ap (shown v) (present-more cs (leave id) (sym (answers_law r (leave id)) ∙ h))
    ∙ shown-stays v id (present cs) (each-fit v low k.rows k.ok) k.ok other

on-id : (id : ℕ) (ss : List Station) → stations_ok ss ≡ true → on id ss ≡ true → is_id id ≡ true
unfolding on
on-id id [] ok h = absurd (false≢true h)
on-id id (s ∷ ss) ok h = let o = own s ss ok in go (eqb s.id id) refl o.1.id (on-id id ss o.0) h
  where
    go : (t : Bool) → eqb s.id id ≡ t → is_id s.id ≡ true → (on id ss ≡ true → is_id id ≡ true) → (t || on id ss) ≡ true → is_id id ≡ true
    go true e mine below h = ap is_id (sym (eqb-true s.id id e)) ∙ mine
    go false e mine below h = below h

-- a place given up can be taken again
pub place_again : {cs : List Call} → Run cs → (gone id : ℕ) (row : List Float) → on gone (present cs) ≡ true → New id row (without gone (present cs))
    → (answer (words_after cs) (leave gone) ≡ 0) × (answer (words_after (cs ++ (leave gone ∷ []))) (join id row) ≡ 0)
unfolding refusal_of leave_refusal accepted
place_again {cs} r gone id row here n =
    let ss = present cs in
    let k = (after_run r).1 in
    let leaves : leave_refusal true ss gone ≡ 0 = rw (on-id gone ss k.ok here, here) in
    let room = one_gone gone k.rows k.ok here in
    let may : MayJoin true (without gone ss) id row = record { numbers = n.numbers; good = refl; whole = n.whole; known = n.known; new = n.new; room = omega (arith, k.few) } in (
      answers_law r (leave gone) ∙ leaves,
      answers_law (run_append r (next tt start)) (join id row)
          ∙ ap (λ (on : List Station). join_refusal true on id row) (present-more cs (leave gone) leaves)
          ∙ joins true (without gone ss) id row may,
    )

-- a seventeenth is refused
pub seventeenth : {cs : List Call} → Run cs → length (present cs) ≡ 16 → (id : ℕ) (row : List Float) → New id row (present cs) → answer (words_after cs) (join id row) ≡ FULL
unfolding refusal_of join_refusal
seventeenth r full id row n =
    answers_law r (join id row) ∙ rw (n.numbers, eq-eqb (length row) 360 n.whole, n.known, n.new, full)

-- ---- words that a run can leave are just those that are accepted

pub runs_accepted : {cs : List Call} → Run cs → board_ok (words_after cs) ≡ true
runs_accepted r = let a = after_run r in rw a.0 (words_of_lem a.1).0

-- the stations join, the first of them first
joining_all : List Station → List Call
joining_all [] = []
joining_all (s ∷ ss) = joining_all ss ++ (join s.id s.row ∷ [])

run_joining : {ss : List Station} → Each Row ss → Run (joining_all ss)
unfolding joining_all
run_joining none = start
run_joining (more r rs) = run_append (run_joining rs) (next r.held start)

nobody-present : present [] ≡ []
unfolding present after_all
nobody-present = refl

present_joining : {ss : List Station} → Each Row ss → stations_ok ss ≡ true → length ss ≤ 16 → present (joining_all ss) ≡ ss
unfolding joining_all refusal_of accepted
present_joining none ok few = nobody-present
present_joining (more {s} {ss} r rs) ok few =
    let o = own s ss ok in
    let below = present_joining rs o.0 (omega arith) in
    let may : MayJoin true ss s.id s.row = record { numbers = o.1.numbers; good = refl; whole = r.whole; known = o.1.id; new = o.1.new; room = few } in
    let joins-now = ap (λ (on : List Station). join_refusal true on s.id s.row) below ∙ joins true ss s.id s.row may in
    present-more (joining_all ss) (join s.id s.row) joins-now ∙ ap (λ (on : List Station). s ∷ on) below

pub accepted_runs : (words : List ℕ) → U32s words → board_ok words ≡ true → (cs : List Call) × Run cs × (words_after cs ≡ words)
accepted_runs words u ok =
    let w = whole words ok in
    let k = stations_on_air words u w in
    let r = run_joining k.rows in
    (joining_all (stations_in words), r, (after_run r).0 ∙ ap words_of (present_joining k.rows k.ok k.few) ∙ words_back words u w)
