-- Sums over the rows of a book: none hangs on the rows' order. Assumes nothing.
use mathlib.Core.Path.{◌≡◌, refl, sym, ap, ◌∙◌}
use Prim.Native.Nat.{ℕ, zero, suc, ◌+◌, ◌<◌}
use native.Mathlib.Omega.{arith}
use mathlib.Core.Bool.{Bool, true, false, cond}
use mathlib.Core.List.{List, [], ◌∷◌, Permᴰ}
use lib.ListN.{length}
use Rattle.bandbook.specs.declared.rows.Row.{Row}
use Rattle.bandbook.specs.Rows.{row, row_ok}
use Rattle.bandbook.specs.Coverage.{covers, one, covering, station_at}
use Rattle.bandbook.specs.Meaning.{GoodRows}

total : (Row → ℕ) → List Row → ℕ
total f [] = 0
total f (r ∷ rows) = f r + total f rows

module _ (f : Row → ℕ) where
  total_order : {a b : List Row} → Permᴰ a b → total f a ≡ total f b
  unfolding total
  total_order Permᴰ.nil = refl
  total_order (Permᴰ.cons e p) = omega (arith, ap f e, total_order p)
  total_order (Permᴰ.swap e d) = omega (arith, ap f e, ap f d)
  total_order (Permᴰ.trans p q) = total_order p ∙ total_order q

  -- a sum of 0 has no summand but 0
  total-zero : (rows : List Row) → total f rows ≡ 0 → (i : ℕ) → i < length rows → f (row rows i) ≡ 0
  unfolding total
  total-zero [] e i h = absurd (omega arith)
  total-zero (r ∷ rows) e zero h = omega arith
  total-zero (r ∷ rows) e (suc i) h = total-zero rows (omega arith) i (omega arith)

  zero-total : (rows : List Row) → ((i : ℕ) → i < length rows → f (row rows i) ≡ 0) → total f rows ≡ 0
  unfolding total
  zero-total [] all = refl
  zero-total (r ∷ rows) all = omega (arith, all 0 (omega arith), zero-total rows (λ i h. all (suc i) (omega arith)))

-- ---- how many rows there are

length-total : (rows : List Row) → length rows ≡ total (λ r. 1) rows
unfolding total
length-total [] = refl
length-total (r ∷ rows) = omega (arith, length-total rows)

-- ---- how many are bad in themselves

bad : Row → ℕ
bad r = cond (row_ok r) 0 1

ok-zero : (r : Row) → row_ok r ≡ true → bad r ≡ 0
unfolding bad
ok-zero r e = rw e

zero_ok : (r : Row) → bad r ≡ 0 → row_ok r ≡ true
unfolding bad
zero_ok r e = go (row_ok r) e
  where
    go : (b : Bool) → ◌≡◌ {A = ℕ} (cond b 0 1) 0 → b ≡ true
    go true e = refl
    go false e = absurd (omega arith)

pub good_order : {a b : List Row} → Permᴰ a b → GoodRows a → GoodRows b
good_order {a} {b} p good =
    let none = zero-total bad a (λ i h. ok-zero _ (good.ok i h)) in
    record {
      few = omega (arith, length-total a, length-total b, total_order (λ r. 1) p);
      ok = λ i h. zero_ok _ (total-zero bad b (sym (total_order bad p) ∙ none) i h);
    }

-- ---- how many cover a kHz, and whose id they have

module _ (khz : ℕ) where
  covering_total : (rows : List Row) → covering rows khz ≡ total (one khz) rows
  unfolding total covering
  covering_total [] = refl
  covering_total (r ∷ rows) = ap (λ (n : ℕ). one khz r + n) (covering_total rows)

  pub covering_order : {a b : List Row} → Permᴰ a b → covering a khz ≡ covering b khz
  covering_order {a} {b} p = covering_total a ∙ total_order (one khz) p ∙ sym (covering_total b)

  pub covered_one : (r : Row) → covers khz r ≡ true → one khz r ≡ 1
  unfolding one
  covered_one r e = rw e

  pub bare-zero : (r : Row) → covers khz r ≡ false → one khz r ≡ 0
  unfolding one
  bare-zero r e = rw e

  pub none-covers : (rows : List Row) → covering rows khz ≡ 0 → (i : ℕ) → i < length rows → covers khz (row rows i) ≡ true → ⊥
  none-covers rows e i h c = omega (arith, covered_one _ c, total-zero (one khz) rows (sym (covering_total rows) ∙ e) i h)

  id_there : Row → ℕ
  id_there r = cond (covers khz r) r.id 0

  none-there : (rows : List Row) → covering rows khz ≡ 0 → total id_there rows ≡ 0
  unfolding id_there
  none-there rows e = zero-total id_there rows (λ i h. go (covers khz (row rows i)) (row rows i).id (none-covers rows e i h))
    where
      go : (b : Bool) (n : ℕ) → (b ≡ true → ⊥) → cond b n 0 ≡ 0
      go true n not = absurd (not refl)
      go false n not = refl

  station_total : (rows : List Row) → covering rows khz ≡ 1 → station_at rows khz ≡ total id_there rows
  unfolding total covering station_at id_there
  station_total [] e = absurd (omega arith)
  station_total (r ∷ rows) e = go (covers khz r) refl (station_total rows)
    where
      go : (b : Bool) → covers khz r ≡ b → (covering rows khz ≡ 1 → station_at rows khz ≡ total id_there rows)
          → cond b r.id (station_at rows khz) ≡ cond b r.id 0 + total id_there rows
      go true t later = omega (arith, covered_one r t, none-there rows (omega (arith, covered_one r t, e)))
      go false t later = omega (arith, later (omega (arith, bare-zero r t, e)))

  pub station_order : {a b : List Row} → Permᴰ a b → covering a khz ≡ 1 → station_at a khz ≡ station_at b khz
  station_order {a} {b} p e = station_total a e ∙ total_order id_there p ∙ sym (station_total b (sym (covering_order p) ∙ e))
