-- The same elements in another order: each is one of the other list's, and no two the same one. Assumes nothing.
use mathlib.Core.Path.{◌≡◌, refl, ap, ◌∙◌}
use mathlib.Core.List.{List, ◌∷◌, Permᴰ}
use Prim.Native.Nat.{ℕ, zero, suc, ◌<◌, suc-le-suc}
use native.Mathlib.Nat.{le_of_suc-le-suc}
use native.Mathlib.Omega.{arith}
use lib.ListN.{length, get_or}

pub record Among {A : Type 0} (a b : List A) : Type 0 where
  pub to : ℕ → ℕ
  pub inside : (i : ℕ) → i < length a → to i < length b
  pub same : (i : ℕ) → i < length a → (d : A) → get_or a i d ≡ get_or b (to i) d
  pub apart : (i j : ℕ) → i < length a → j < length a → to i ≡ to j → i ≡ j

-- behind one more element
behind : (ℕ → ℕ) → ℕ → ℕ
behind to zero = zero
behind to (suc i) = suc (to i)

-- the first two turned
turned : ℕ → ℕ
turned zero = 1
turned (suc zero) = 0
turned (suc (suc i)) = suc (suc i)

module _ {A : Type 0} where
  one_more : {x y : A} {a b : List A} → x ≡ y → Among a b → Among (x ∷ a) (y ∷ b)
  unfolding behind
  one_more {x} {y} {a} {b} e r = record { to = behind r.to; inside = inside; same = same; apart = apart }
    where
      inside : (i : ℕ) → i < suc (length a) → behind r.to i < suc (length b)
      inside zero h = omega arith
      inside (suc i) h = suc-le-suc (r.inside i (le_of_suc-le-suc h))

      same : (i : ℕ) → i < suc (length a) → (d : A) → get_or (x ∷ a) i d ≡ get_or (y ∷ b) (behind r.to i) d
      same zero h d = e
      same (suc i) h d = r.same i (le_of_suc-le-suc h) d

      apart : (i j : ℕ) → i < suc (length a) → j < suc (length a) → behind r.to i ≡ behind r.to j → i ≡ j
      apart zero zero h k q = refl
      apart zero (suc j) h k q = absurd (omega arith)
      apart (suc i) zero h k q = absurd (omega arith)
      apart (suc i) (suc j) h k q = ap suc (r.apart i j (le_of_suc-le-suc h) (le_of_suc-le-suc k) (omega arith))

  two_turned : {x y v w : A} {l : List A} → x ≡ w → y ≡ v → Among (x ∷ y ∷ l) (v ∷ w ∷ l)
  unfolding turned
  two_turned {x} {y} {v} {w} {l} e f = record { to = turned; inside = inside; same = same; apart = apart }
    where
      inside : (i : ℕ) → i < suc (suc (length l)) → turned i < suc (suc (length l))
      inside zero h = omega arith
      inside (suc zero) h = omega arith
      inside (suc (suc i)) h = h

      same : (i : ℕ) → i < suc (suc (length l)) → (d : A) → get_or (x ∷ y ∷ l) i d ≡ get_or (v ∷ w ∷ l) (turned i) d
      same zero h d = e
      same (suc zero) h d = f
      same (suc (suc i)) h d = refl

      apart : (i j : ℕ) → i < suc (suc (length l)) → j < suc (suc (length l)) → turned i ≡ turned j → i ≡ j
      apart zero zero h k q = refl
      apart zero (suc zero) h k q = absurd (omega arith)
      apart zero (suc (suc j)) h k q = absurd (omega arith)
      apart (suc zero) zero h k q = absurd (omega arith)
      apart (suc zero) (suc zero) h k q = refl
      apart (suc zero) (suc (suc j)) h k q = absurd (omega arith)
      apart (suc (suc i)) zero h k q = absurd (omega arith)
      apart (suc (suc i)) (suc zero) h k q = absurd (omega arith)
      apart (suc (suc i)) (suc (suc j)) h k q = q

  in_turn_lem : {a b c : List A} → Among a b → Among b c → Among a c
  in_turn_lem r s = record {
    to = λ i. s.to (r.to i);
    inside = λ i h. s.inside (r.to i) (r.inside i h);
    same = λ i h d. r.same i h d ∙ s.same (r.to i) (r.inside i h) d;
    apart = λ i j h k q. r.apart i j h k (s.apart (r.to i) (r.to j) (r.inside i h) (r.inside j k) q);
  }

  pub among : {a b : List A} → Permᴰ a b → Among a b
  among Permᴰ.nil = record { to = λ i. i; inside = λ i h. h; same = λ i h d. refl; apart = λ i j h k q. q }
  among (Permᴰ.cons e p) = one_more e (among p)
  among (Permᴰ.swap e f) = two_turned e f
  among (Permᴰ.trans p q) = in_turn_lem (among p) (among q)
