-- Who is shown at an azimuth: stations by rank, which is their number's key and, among equal ones, how low the id is. Assumes nothing.
use mathlib.Core.Path.{◌≡◌, refl, sym, ap, subst, ◌∙◌}
use mathlib.Core.Logic.{◌⊎◌, inl, inr, ⊎_elim}
use mathlib.Core.Bool.{Bool, true, false, cond, ◌&&◌, ◌||◌, or-true, false≢true}
use mathlib.Core.List.Memᴰ
use mathlib.Core.List.{List, [], ◌∷◌, Memᴰ}
use Prim.Native.Nat.{ℕ, ◌+◌, ◌-◌, ◌*◌, ◌≤◌}
use native.Mathlib.Nat.{le_refl, le_trans, le_of_lt}
use native.Mathlib.Omega.{arith}
use lib.Dec.{ltb, eqb}
use borrow.Author.Tests.{ltb-true, ltb-false, lt-ltb, le-ltb, eqb-true, eq-eqb, ne_eqb}
use Rattle.floats.proofs.Tests.{both}
use Rattle.board_air.specs.Stations.{Station, number_at, nobody, outdoes, outdone, first_of, shown, Strongest}
use Rattle.board_air.specs.Runs.{on, is_id}
use Rattle.board_air.specs.Words.{stations_ok}
use Rattle.board_air.proofs.Tests.{same_test, neither}
use Rattle.board_air.proofs.Each.{Each, none, more, each_at}
use Rattle.board_air.proofs.Good.{own, id-some}
use Rattle.board_air.proofs.Order.{F32, key, lt_key}

-- ---- ranks

-- a station whose rank at azimuth v counts
pub record Fit (v : ℕ) (s : Station) : Type 0 where
  pub number : F32 (number_at v s)
  pub low : s.id ≤ 65535

abbrev rank_of : ℕ → ℕ → ℕ
rank_of k id = k * 65536 + (65535 - id)

abbrev rank : ℕ → Station → ℕ
rank v s = rank_of (key (number_at v s)) s.id

by_rank : (a b i j : ℕ) → i ≤ 65535 → j ≤ 65535 → (ltb a b || eqb a b && ltb j i) ≡ ltb (rank_of a i) (rank_of b j)
by_rank a b i j hi hj = go (ltb a b) refl
  where
    go : (t : Bool) → ltb a b ≡ t → (t || eqb a b && ltb j i) ≡ ltb (rank_of a i) (rank_of b j)
    go true e = sym (lt-ltb (rank_of a i) (rank_of b j) (omega (arith, ltb-true a b e)))
    go false e =
        same_test (eqb a b && ltb j i) (ltb (rank_of a i) (rank_of b j))
        (λ h.
        let t = both (eqb a b) (ltb j i) h in
        lt-ltb (rank_of a i) (rank_of b j) (omega (arith, eqb-true a b t.0, ltb-true j i t.1)))
        (λ h.
        let r = ltb-true (rank_of a i) (rank_of b j) h in
        let n = ltb-false a b e in
        rw (eq-eqb a b (omega arith), lt-ltb j i (omega arith)))

pub outdoes_rank : (v : ℕ) (t s : Station) → Fit v t → Fit v s → outdoes v t s ≡ ltb (rank v s) (rank v t)
unfolding outdoes
outdoes_rank v t s ft fs =
    let e = lt_key (number_at v s) (number_at v t) fs.number ft.number in
    rw (e.0, e.1) (by_rank (key (number_at v s)) (key (number_at v t)) s.id t.id fs.low ft.low)

-- ---- the leader

-- who leads at azimuth v, where first leads to begin with and each that outdoes the leader takes its place
leader : ℕ → Station → List Station → Station
leader v first [] = first
leader v first (s ∷ ss) = cond (outdoes v s (leader v first ss)) s (leader v first ss)

-- none of them has a rank above r
abbrev Within : ℕ → ℕ → List Station → Type 0
Within v r ss = Each (λ (t : Station). rank v t ≤ r) ss

widen : (v : ℕ) {r q : ℕ} {ss : List Station} → r ≤ q → Within v r ss → Within v q ss
widen v h none = none
widen v h (more p ps) = more (le_trans p h) (widen v h ps)

-- one of them, and none has a rank above its own
record Leads (v : ℕ) (first : Station) (ss : List Station) (l : Station) : Type 0 where
  fit : Fit v l
  mine : (l ≡ first) ⊎ Memᴰ l ss
  most : Within v (rank v l) ss

leads : (v : ℕ) (first : Station) (ss : List Station) → Fit v first → Each (Fit v) ss → Leads v first ss (leader v first ss)
unfolding leader
leads v first [] f none = record { fit = f; mine = inl refl; most = none }
leads v first (s ∷ ss) f (more p ps) = go (outdoes v s l) refl (leads v first ss f ps)
  where
    l : Station
    l = leader v first ss

    go : (t : Bool) → outdoes v s l ≡ t → Leads v first ss l → Leads v first (s ∷ ss) (cond t s l)
    go true e below =
        let r = ltb-true (rank v l) (rank v s) (sym (outdoes_rank v s l p below.fit) ∙ e) in
        record { fit = p; mine = inr (Memᴰ.head refl); most = more (le_refl (rank v s)) (widen v (le_of_lt r) below.most) }
    go false e below =
        let r = ltb-false (rank v l) (rank v s) (sym (outdoes_rank v s l p below.fit) ∙ e) in
        record { fit = below.fit; mine = ⊎_elim inl (λ m. inr (Memᴰ.tail m)) below.mine; most = more r below.most }

-- ---- the one shown

-- none outdoes a station just where none has a rank above its own
not-outdone : (v : ℕ) (s : Station) (ss : List Station) → Fit v s → Each (Fit v) ss → Within v (rank v s) ss → outdone v ss s ≡ false
unfolding outdone
not-outdone v s [] f none none = refl
not-outdone v s (t ∷ ts) f (more p ps) (more r rs) =
    rw (outdoes_rank v t s p f, le-ltb (rank v s) (rank v t) r) (not-outdone v s ts f ps rs)

within : (v : ℕ) (s : Station) (ss : List Station) → Fit v s → Each (Fit v) ss → outdone v ss s ≡ false → Within v (rank v s) ss
unfolding outdone
within v s [] f none h = none
within v s (t ∷ ts) f (more p ps) h =
    let q = neither (outdoes v t s) (outdone v ts s) h in
    more (ltb-false (rank v s) (rank v t) (sym (outdoes_rank v t s p f) ∙ q.0)) (within v s ts f ps q.1)

on_member : {s : Station} {ss : List Station} → Memᴰ s ss → on s.id ss ≡ true
unfolding on
on_member {s} (Memᴰ.head {x} e) = rw (eq-eqb x.id s.id (ap (λ (t : Station). t.id) (sym e)))
on_member {s} (Memᴰ.tail {x} m) = rw (on_member m) (or-true (eqb x.id s.id))

-- stations on have different ids
same-station : {x y : Station} (ss : List Station) → stations_ok ss ≡ true → Memᴰ x ss → Memᴰ y ss → x.id ≡ y.id → x ≡ y
same-station [] h m n e = absurd (Memᴰ.not-nil m)
same-station {x} {y} (s ∷ ss) h m n e =
    let o = own s ss h in
    go o.1.new (same-station ss o.0) (Memᴰ.cases_cons m) (Memᴰ.cases_cons n)
  where
    clash : {t : Station} → on s.id ss ≡ false → t.id ≡ s.id → Memᴰ t ss → ⊥
    clash new i k = false≢true (sym new ∙ (rw i at (on_member k)))

    go : on s.id ss ≡ false → (Memᴰ x ss → Memᴰ y ss → x.id ≡ y.id → x ≡ y) → (x ≡ s) ⊎ Memᴰ x ss → (y ≡ s) ⊎ Memᴰ y ss → x ≡ y
    go new below (inl p) (inl q) = p ∙ sym q
    go new below (inl p) (inr k) = absurd (clash new (sym e ∙ ap (λ (t : Station). t.id) p) k)
    go new below (inr k) (inl q) = absurd (clash new (e ∙ ap (λ (t : Station). t.id) q) k)
    go new below (inr k) (inr j) = below k j e

-- l is the first of xs that none of all outdoes
found : (v : ℕ) (l : Station) (all : List Station) → Each (Fit v) all → stations_ok all ≡ true → Memᴰ l all → Within v (rank v l) all
    → (xs : List Station) → ((x : Station) → Memᴰ x xs → Memᴰ x all) → Memᴰ l xs → first_of v all xs ≡ l
unfolding first_of
found v l all fit ok m most [] sub n = absurd (Memᴰ.not-nil n)
found v l all fit ok m most (x ∷ xs) sub n =
    go (outdone v all x) refl (found v l all fit ok m most xs (λ y k. sub y (Memᴰ.tail k)))
  where
    mine : Memᴰ x all
    mine = sub x (Memᴰ.head refl)

    go : (t : Bool) → outdone v all x ≡ t → (Memᴰ l xs → first_of v all xs ≡ l) → cond t (first_of v all xs) x ≡ l
    go true e below =
        ⊎_elim
        (λ (p : l ≡ x). absurd (false≢true (sym (not-outdone v l all (each_at fit m) fit most) ∙ ap (outdone v all) p ∙ e)))
        (λ (k : Memᴰ l xs). below k)
        (Memᴰ.cases_cons n)
    go false e below =
        let up = each_at (within v x all (each_at fit mine) fit e) m in
        let down = each_at most mine in
        same-station all ok mine m (omega (arith, (each_at fit mine).low, (each_at fit m).low))

-- one of them, and none has a rank above its own
pub record Best (v : ℕ) (ss : List Station) (l : Station) : Type 0 where
  pub mine : Memᴰ l ss
  pub most : Within v (rank v l) ss

pub best-shown : (v : ℕ) {l : Station} (ss : List Station) → Each (Fit v) ss → stations_ok ss ≡ true → Best v ss l → shown v ss ≡ l
unfolding shown
best-shown v {l} ss fit ok b = found v l ss fit ok b.mine b.most ss (λ x k. k) b.mine

leader_best : (v : ℕ) (first : Station) (ss : List Station) → Each (Fit v) ss → Memᴰ first ss → Best v ss (leader v first ss)
leader_best v first ss fit m =
    let l = leader v first ss in
    let r = leads v first ss (each_at fit m) fit in
    record { mine = ⊎_elim (λ (e : l ≡ first). Memᴰ.cast e m) (λ (k : Memᴰ l ss). k) r.mine; most = r.most }

leader_shown : (v : ℕ) (first : Station) (ss : List Station) → Each (Fit v) ss → stations_ok ss ≡ true → Memᴰ first ss → shown v ss ≡ leader v first ss
leader_shown v first ss fit ok m = best-shown v ss fit ok (leader_best v first ss fit m)

pub shown-best : (v : ℕ) (t : Station) (ss : List Station) → Each (Fit v) ss → stations_ok ss ≡ true → Memᴰ t ss → Best v ss (shown v ss)
shown-best v t ss fit ok m = subst (Best v ss) (sym (leader_shown v t ss fit ok m)) (leader_best v t ss fit m)

-- the one shown is the strongest
pub shown-strongest : (v : ℕ) (t : Station) (ss : List Station) → Each (Fit v) ss → stations_ok ss ≡ true → Memᴰ t ss → Strongest v ss (shown v ss)
shown-strongest v t ss fit ok m = strongest (shown-best v t ss fit ok m)
  where
    l : Station
    l = shown v ss

    strongest : Best v ss l → Strongest v ss l
    strongest b = record {
      on = b.mine;
      greatest = λ u k.
          let e = lt_key (number_at v l) (number_at v u) (each_at fit b.mine).number (each_at fit k).number in
          e.0 ∙ le-ltb (key (number_at v l)) (key (number_at v u)) (omega (arith, each_at b.most k, (each_at fit k).low, (each_at fit b.mine).low));
      lowest = λ u k h.
          let e = lt_key (number_at v l) (number_at v u) (each_at fit b.mine).number (each_at fit k).number in
          let same = eqb-true (key (number_at v l)) (key (number_at v u)) (sym e.1 ∙ h) in
          omega (arith, each_at b.most k, (each_at fit k).low, (each_at fit b.mine).low);
    }

-- ---- one more

pub shown-none : (v : ℕ) → shown v [] ≡ nobody
unfolding shown first_of
shown-none v = refl

nobody_id : nobody.id ≡ 0
unfolding nobody
nobody_id = refl

each_id : (ss : List Station) → stations_ok ss ≡ true → Each (λ (s : Station). is_id s.id ≡ true) ss
each_id [] ok = none
each_id (s ∷ ss) ok = let o = own s ss ok in more o.1.id (each_id ss o.0)

cond_same : {A : Type 0} (t : Bool) (x : A) → cond t x x ≡ x
cond_same true x = refl
cond_same false x = refl

-- a newcomer is shown where nobody was, or where it outdoes the one shown
pub shown-more : (v : ℕ) (s : Station) (ss : List Station) → Each (Fit v) (s ∷ ss) → stations_ok (s ∷ ss) ≡ true
    → shown v (s ∷ ss) ≡ cond (eqb (shown v ss).id 0 || outdoes v s (shown v ss)) s (shown v ss)
unfolding leader
shown-more v s [] fit ok =
    leader_shown v s (s ∷ []) fit ok (Memᴰ.head refl) ∙ cond_same (outdoes v s s) s ∙ rw (shown-none v, nobody_id)
shown-more v s (t ∷ ts) (more p fit) ok =
    let ss = t ∷ ts in
    let ok-others = (own s ss ok).0 in
    let before = leader_shown v t ss fit ok-others (Memᴰ.head refl) in
    let someone = id-some (shown v ss).id (each_at (each_id ss ok-others) (shown-best v t ss fit ok-others (Memᴰ.head refl)).mine) in
    leader_shown v t (s ∷ ss) (more p fit) ok (Memᴰ.tail (Memᴰ.head refl))
    ∙ rw (← before, ne_eqb (shown v ss).id 0 (λ e. omega arith))
