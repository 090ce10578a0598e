-- Card 4's laws of the next change of season, and of the season before and after it. Assumes nothing.
use Prim.Native.Nat.{ℕ, suc, ◌≤◌, ◌<◌}
use mathlib.Core.Path.{◌≡◌, refl, sym, ap, ◌∙◌}
use mathlib.Core.Bool.{Bool, true, false, cond}
use mathlib.Core.Logic.{inl, inr, ⊎_elim, ◌↔◌}
use Rattle.std.specs.Prelude.{Option, None, Some}
use native.Mathlib.Omega.{arith}
use lib.Dec.{eqb}
use borrow.Author.Tests.{lt-ltb, le-ltb, ltb-true, ltb-false, eqb-true, eqb-false}
use Rattle.calendar.specs.declared.time.Time.{Time}
use Rattle.calendar.specs.Times.{is_time, minutes, before}
use Rattle.calendar.specs.declared.seasons.BroadcastSeason.{BroadcastSeason}
use Rattle.calendar.specs.declared.seasons.BroadcastSeason.TheVariants.{A, B}
use Rattle.calendar.specs.Seasons.{other, to_a, to_b, IsChange, IsNext, NextIs, season_at, next_change}
use Rattle.calendar.proofs.Tests.{le_or_lt}
use Rattle.calendar.proofs.Times.{Real, real, earlier_year, year_order}
use Rattle.calendar.proofs.Changes.{next_in_year_lem}
use Rattle.calendar.proofs.ChangeLaws.{is-change, change-is, change_is_real, a_then_b, first_of_year, second_of_year, past_year}

-- ---- the next change

-- it is one, it is later, and none lies between
pub next-change : (t : Time) → is_time t ≡ true → NextIs t (next_change t)
next-change t h = rw (next_in_year_lem t r) (by_tests (before t (to_a t.year)) (before t (to_b t.year)) (eqb t.year 2099) refl refl refl)
  where
    r : Real t
    r = real t h

    change-a : (year : ℕ) → t.year ≤ year → year ≤ 2099 → IsChange (to_a year)
    change-a year from to = is-change year 3 (omega (arith, r.year_from)) to (inl refl)

    by_tests : (a b z : Bool) → before t (to_a t.year) ≡ a → before t (to_b t.year) ≡ b → eqb t.year 2099 ≡ z → NextIs t (cond a (Some (to_a t.year)) (cond b (Some (to_b t.year)) (cond z None (Some (to_a (suc t.year))))))
    by_tests true b z ea eb ez =
        let later : minutes t < minutes (to_a t.year) = ltb-true _ _ ea in
        record {
          is-change = change-a t.year (omega arith) r.year_to;
          later = later;
          first = λ d hd after. first_of_year t.year r.year_from r.year_to d hd (year_order t d r (change_is_real d hd) (omega arith));
        }
    by_tests false true z ea eb ez =
        let past : minutes (to_a t.year) ≤ minutes t = ltb-false _ _ ea in
        record {
          is-change = is-change t.year 10 r.year_from r.year_to (inr refl);
          later = ltb-true _ _ eb;
          first = λ d hd after. second_of_year t.year r.year_from r.year_to d hd (omega arith);
        }
    by_tests false false true ea eb ez =
        let past : minutes (to_b t.year) ≤ minutes t = ltb-false _ _ eb in
        let last : t.year ≡ 2099 = eqb-true _ _ ez in
        λ d hd. ⊎_elim
        (λ p. p)
        (λ (after : minutes t < minutes d). absurd (omega (arith, past_year t.year r.year_from r.year_to d hd (omega arith), hd.to)))
        (le_or_lt (minutes d) (minutes t))
    by_tests false false false ea eb ez =
        let past : minutes (to_b t.year) ≤ minutes t = ltb-false _ _ eb in
        let year_to : suc t.year ≤ 2099 = omega (arith, eqb-false t.year 2099 ez, r.year_to) in
        let c = change-a (suc t.year) (omega arith) year_to in
        record {
          is-change = c;
          later = earlier_year t (to_a (suc t.year)) r (change_is_real (to_a (suc t.year)) c) (omega arith);
          first = λ d hd after. first_of_year (suc t.year) (omega arith) year_to d hd (past_year t.year r.year_from r.year_to d hd (omega arith));
        }

-- from the last change in range on there is none, and before it there is one
pub last-change : (t : Time) → is_time t ≡ true → (next_change t ≡ None) ↔ (minutes (to_b 2099) ≤ minutes t)
last-change t h = (λ e. rw e at (next-change t h) (to_b 2099) last, λ late. nothing late (next_change t) (next-change t h))
  where
    last : IsChange (to_b 2099)
    last = is-change 2099 10 (omega arith) (omega arith) (inr refl)

    nothing : minutes (to_b 2099) ≤ minutes t → (o : Option Time) → NextIs t o → o ≡ None
    nothing late None k = refl
    nothing late (Some c) k =
        absurd (omega (arith, past_year 2099 (omega arith) (omega arith) c k.is-change (omega (arith, k.later)), k.is-change.to))

-- ---- the season

module _ (t : Time) (r : Real t) where
  before_a : minutes t < minutes (to_a t.year) → season_at t ≡ B
  unfolding season_at
  before_a early = rw (lt-ltb (minutes t) (minutes (to_a t.year)) early)

  from_a : minutes (to_a t.year) ≤ minutes t → minutes t < minutes (to_b t.year) → season_at t ≡ A
  unfolding season_at
  from_a late early = rw (le-ltb (minutes t) (minutes (to_a t.year)) late, lt-ltb (minutes t) (minutes (to_b t.year)) early)

  from_b : minutes (to_b t.year) ≤ minutes t → season_at t ≡ B
  unfolding season_at
  from_b late =
      let past : minutes (to_a t.year) ≤ minutes t = omega (arith, a_then_b t.year r.year_from r.year_to) in
      rw (le-ltb (minutes t) (minutes (to_a t.year)) past, le-ltb (minutes t) (minutes (to_b t.year)) late)

-- at the next change it turns
module _ (t c : Time) (h : is_time t ≡ true) (k : IsNext t c) where
  rt : Real t
  rt = real t h

  rc : Real c
  rc = change_is_real c k.is-change

  in_order : minutes (to_a c.year) < minutes (to_b c.year)
  in_order = a_then_b c.year rc.year_from rc.year_to

  from-b-to-a : c ≡ to_a c.year → season_at t ≡ B
  from-b-to-a e = ⊎_elim
      (λ (late : minutes (to_b t.year) ≤ minutes t). from_b t rt late)
      (λ (early : minutes t < minutes (to_b t.year)).
      let b = is-change t.year 10 rt.year_from rt.year_to (inr refl) in
      let year : c.year ≤ t.year = year_order c (to_b t.year) rc (change_is_real (to_b t.year) b) (k.first (to_b t.year) b early) in
      let same : c.year ≡ t.year = omega (arith, year_order t c rt rc (omega (arith, k.later))) in
      before_a t rt (omega (arith, ap minutes (e ∙ ap to_a same), k.later)))
      (le_or_lt (minutes (to_b t.year)) (minutes t))

  from-a-to-b : c ≡ to_b c.year → season_at t ≡ A
  from-a-to-b e =
      let a = is-change c.year 3 rc.year_from rc.year_to (inl refl) in
      let late : minutes (to_a c.year) ≤ minutes t = ⊎_elim
      (λ p. p)
      (λ early. absurd (omega (arith, k.first (to_a c.year) a early, ap minutes e, in_order)))
      (le_or_lt (minutes (to_a c.year)) (minutes t)) in
      let year : c.year ≤ t.year = year_order (to_a c.year) t (change_is_real (to_a c.year) a) rt late in
      let same : c.year ≡ t.year = omega (arith, year_order t c rt rc (omega (arith, k.later))) in
      from_a t rt (omega (arith, ap (λ (y : ℕ). minutes (to_a y)) same)) (omega (arith, ap minutes (e ∙ ap to_b same), k.later))

  pub season_turns : season_at c ≡ other (season_at t)
  season_turns = ⊎_elim
      (λ (e : c ≡ to_a c.year).
      from_a c rc (omega (arith, ap minutes e)) (omega (arith, ap minutes e, in_order)) ∙ sym (ap other (from-b-to-a e)))
      (λ (e : c ≡ to_b c.year). from_b c rc (omega (arith, ap minutes e)) ∙ sym (ap other (from-a-to-b e)))
      (change-is c k.is-change)

-- until then it stays
same-other : (x y : BroadcastSeason) → other x ≡ other y → x ≡ y
same-other A A e = refl
same-other A B e = sym e
same-other B A e = sym e
same-other B B e = refl

pub season_stays : (s t : Time) → is_time s ≡ true → is_time t ≡ true → minutes s ≤ minutes t
    → ((d : Time) → IsChange d → minutes s < minutes d → minutes t < minutes d) → season_at s ≡ season_at t
season_stays s t hs ht le none_between = by_next (next_change s) (next-change s hs)
  where
    by_next : (o : Option Time) → NextIs s o → season_at s ≡ season_at t
    by_next (Some c) k =
        let also : IsNext t c = record {
          is-change = k.is-change;
          later = none_between c k.is-change k.later;
          first = λ d hd after. k.first d hd (omega arith);
        } in
        same-other (season_at s) (season_at t) (sym (season_turns s c hs k) ∙ season_turns t c ht also)
    by_next None k =
        let rs = real s hs in
        let rt = real t ht in
        let b = is-change s.year 10 rs.year_from rs.year_to (inr refl) in
        let b' = is-change t.year 10 rt.year_from rt.year_to (inr refl) in
        from_b s rs (k (to_b s.year) b) ∙ sym (from_b t rt (omega (arith, k (to_b t.year) b')))
