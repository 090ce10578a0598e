-- Each call refuses by its table.
use Prim.Native.Nat.{ℕ, suc}
use mathlib.Core.Path.{◌≡◌, refl, sym, ap, subst}
use mathlib.Core.Bool.{Bool, true, false, cond, not, ◌&&◌, ◌||◌}
use mathlib.Core.List.{List, [], ◌∷◌}
use native.Mathlib.Omega.{arith}
use lib.ListN.{length, take}
use lib.Dec.{ltb, eqb}
use lib.Ieee.{Float}
use lib.Ieee.Scale.{finite}
use borrow.Author.Tests.{lt-ltb}
use Rattle.answers.specs.Outcome.{Outcome, refused, accepted}
use Rattle.answers.specs.Refusals.{VALUE, TYPE, COUNT, AIM, SPACE, PATTERN, LEVEL, TABLE}
use Rattle.answers.specs.Table.{Line, Refuses, first_of, answered_by, rising}
use Rattle.answers.proofs.Table.{by_table, refuses}
use Rattle.floats.specs.Ranges.{all_finite}
use Rattle.model.specs.Counts.{counts_ok}
use Rattle.model.specs.Table.{table_size}
use Rattle.model.specs.Types.{type_ok}
use Rattle.maxgain.specs.Refusals as maxgain
use Rattle.maxgain.specs.Maximum as maximum
use Rattle.curtain.specs.Answers as curtain
use Rattle.curtain.specs.Level.{level_of}
use Rattle.station.specs.Answers as station
use Rattle.station.specs.declared.Station.{Station}
use Rattle.parameters.specs.Limits.{refusal_of}
use Rattle.antenna.specs.Asked.{asked_refusal}
use Rattle.antenna.specs.SetUp.{accepted_of, found, searched, set_up_of}
use Rattle.antenna.specs.Gain.{kind_of, graded, number_at, gain_asked, gain_of}
use Rattle.plate_row.specs.Row.{elevation_ok, numbers_of, front_to_back, measured, row_asked, row_of}
use Rattle.antenna.specs.TableSum.{own_table}
use Rattle.antenna.specs.declared.record.Antenna.{Antenna}
use Rattle.claims.specs.Tables.{maximum_table, search_of, set_up_table, gain_table, row_table, curtain_table, read_table, write_table, outcome_of}
use Rattle.claims.specs.Refusals.{Refusals}

setmaxgain : (mode : ℕ) (parm gainmax gainmaxb : List Float) (mhz design : Float)
    → Refuses (maximum.set_max_gain mode parm gainmax gainmaxb mhz design) (maximum_table mode parm gainmax gainmaxb mhz design)
unfolding maximum.set_max_gain maximum.graded maxgain.refusal_of maximum_table first_of rising
setmaxgain mode parm gainmax gainmaxb mhz design =
    refuses _ (take 4 (maximum_table mode parm gainmax gainmaxb mhz design)) LEVEL _ _ refl refl (omega arith) refl

antinit2 : (p : List Float) (size : ℕ) → Refuses (set_up_of p size) (set_up_table p size)
unfolding set_up_of searched found accepted_of refusal_of set_up_table search_of first_of rising
antinit2 p size = refuses _ (take 6 (set_up_table p size)) PATTERN _ _ refl refl (omega arith) refl

or_false : (b : Bool) → (b || false) ≡ b
or_false true = refl
or_false false = refl

-- the numbers that gain and row try before the table's sum
abbrev below : Bool → Bool → Bool → Bool → Bool → ℕ → ℕ
below values type counts aim space rest = cond values VALUE (cond type TYPE (cond counts COUNT (cond aim AIM (cond space SPACE rest))))

-- they try 15 before 10; as lines whose numbers rise, 10 supposes what 15 asks
fifteen_first : {A : Type 0} (values type counts aim space own odd : Bool) (x : A)
    → let tried = below values type counts aim space (cond (not own) TABLE 0) in
    let lower = below values type counts aim space (cond (own && odd) LEVEL 0) in
    ◌≡◌ {A = Outcome A} (cond (ltb 0 tried) (refused tried) (cond odd (refused LEVEL) (accepted x)))
    (cond (ltb 0 lower) (refused lower) (cond (not own) (refused TABLE) (accepted x)))
fifteen_first true type counts aim space own odd x = refl
fifteen_first false true counts aim space own odd x = refl
fifteen_first false false true aim space own odd x = refl
fifteen_first false false false true space own odd x = refl
fifteen_first false false false false true own odd x = refl
fifteen_first false false false false false false odd x = refl
fifteen_first false false false false false true true x = refl
fifteen_first false false false false false true false x = refl

ccirgain : (a : Antenna) (t : List Float) (u v giso : Float) → Refuses (gain_of a t u v giso) (gain_table a t u v giso)
unfolding gain_of graded asked_refusal gain_asked gain_table first_of rising
ccirgain a t u v giso =
    let x = number_at a.model a.peak.z6 t u v giso in
    refuses (gain_of a t u v giso) (take 5 (gain_table a t u v giso)) TABLE (not (own_table a t)) (kind_of a.peak.z6 x, x) refl refl (omega arith)
    (rw (or_false (ltb (length t) table_size)) (fifteen_first (not (finite u && finite v && finite giso)) (not (type_ok a.model.iant)) (not (counts_ok a.model)) false (ltb (length t) table_size) (own_table a t) (not (finite x)) (kind_of a.peak.z6 x, x)))

row : (a : Antenna) (t : List Float) (u giso : Float) (size : ℕ) → Refuses (row_of a t u giso size) (row_table a t u giso size)
unfolding row_of measured asked_refusal row_asked row_table first_of rising
row a t u giso size =
    let xs = numbers_of a t u giso in
    refuses (row_of a t u giso size) (take 6 (row_table a t u giso size)) TABLE (not (own_table a t)) (front_to_back xs) refl refl (omega arith)
    (fifteen_first (not (finite u && finite giso)) (not (type_ok a.model.iant)) (not (counts_ok a.model)) (not (elevation_ok u)) (ltb (length t) table_size || not (eqb size 360)) (own_table a t) (not (all_finite xs && finite (front_to_back xs))) (front_to_back xs))

-- two conditions of one number
either : (p q : Bool) (n rest : ℕ) → cond p n (cond q n rest) ≡ cond (p || q) n rest
either true q n rest = refl
either false q n rest = refl

turned : {A : Type 0} (b : Bool) (x y : A) → cond b x y ≡ cond (not b) y x
turned true x y = refl
turned false x y = refl

curtain-gain : (parm : List Float) (azimd elevd gnorm : Float) → Refuses (curtain.curtain_gain parm azimd elevd gnorm) (curtain_table parm azimd elevd gnorm)
unfolding curtain.curtain_gain curtain.graded curtain.refusal_of curtain.station_refusal_of curtain_table first_of rising
curtain-gain parm azimd elevd gnorm =
    let x = level_of parm azimd elevd gnorm in
    refuses _ (take 3 (curtain_table parm azimd elevd gnorm)) LEVEL (not (finite x)) x refl refl (omega arith) (rw (either, turned (finite x) (accepted x) (refused LEVEL)))

-- reader and writer: no test left, and one more before those that are
no_more : {A : Type 0} (x : A) → accepted x ≡ answered_by [] x
unfolding answered_by first_of
no_more x = refl

one_more : {A : Type 0} (x : A) (number : ℕ) (p : Bool) (rest : Outcome A) (lines : List Line) → rest ≡ answered_by lines x
    → cond p (refused (suc number)) rest ≡ answered_by ((suc number, p) ∷ lines) x
unfolding answered_by first_of
one_more {A} x number true rest lines e = sym (ap (λ (b : Bool). cond {A = Outcome A} b (refused (suc number)) (accepted x)) (lt-ltb 0 (suc number) (omega arith)))
one_more {A} x number false rest lines e = e

-- what a refusal of the writer leaves is no part of the outcome
one_more_left : {A : Type 0} (x left : A) (number : ℕ) (p : Bool) (rest : station.Answer A) (lines : List Line) → outcome_of rest ≡ answered_by lines x
    → outcome_of (cond p (station.refused (suc number) left) rest) ≡ answered_by ((suc number, p) ∷ lines) x
unfolding outcome_of answered_by first_of
one_more_left x left number true rest lines e = one_more x number true (outcome_of rest) lines e
one_more_left x left number false rest lines e = e

answered : {A : Type 0} {o : Outcome A} (t : List Line) (x : A) → rising 0 t ≡ true → o ≡ answered_by t x → Refuses o t
answered {A} t x r e = subst (λ (y : Outcome A). Refuses y t) (sym e) (by_table t r x)

reader : (bytes : List ℕ) → Refuses (station.read_of bytes) (read_table bytes)
unfolding station.read_of station.floats_answer read_table rising
reader bytes = answered (read_table bytes) _ refl (one_more _ 0 _ _ _ (one_more _ 1 _ _ _ (no_more _)))

writer : (edition : ℕ) (s : Station) (out : List ℕ) → Refuses (outcome_of (station.write_of edition s out)) (write_table edition s out)
unfolding station.write_of write_table rising outcome_of
writer edition s out =
    answered (write_table edition s out) _ refl
    (one_more_left _ _ 0 _ _ _ (one_more_left _ _ 1 _ _ _ (one_more_left _ _ 2 _ _ _ (one_more_left _ _ 3 _ _ _ (one_more_left _ _ 7 _ _ _ (no_more _))))))

pub refusals : Refusals
refusals = record { setmaxgain = setmaxgain; antinit2 = antinit2; ccirgain = ccirgain; row = row; curtain = curtain-gain; reader = reader; writer = writer }
