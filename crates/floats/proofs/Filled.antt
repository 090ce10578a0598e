-- What floats filled in order hold, and what an array of `from_fn` does.
use Prim.Native.Nat.{ℕ, zero, suc, ◌+◌, ◌≤◌, ◌<◌}
use mathlib.Core.Path.{◌≡◌, sym, subst, ◌∙◌}
use mathlib.Core.Logic.{⊎_elim}
use mathlib.Core.List.{List}
use native.Mathlib.Nat.{eq-or-lt_of_le}
use native.Mathlib.Omega.{arith}
use lib.ListN.{length, get_or, length-set, length-replicate}
use lib.Seq.{get_or-set_same, get_or-set_other, ext_get_or}
use lib.Ieee.{Float, nan}
use denote.Param.Members.{Mut, Called}
use Rattle.std.specs.Array.{IsFromFnResultFrom, IsFromFnResult}
use Rattle.floats.specs.Ops.{+0}
use Rattle.floats.specs.Filled.{filled_to}

module _ (v : ℕ → Float) (size : ℕ) where
  pub filled-length : (n : ℕ) → length (filled_to v size n) ≡ size
  unfolding filled_to
  filled-length zero = length-replicate size +0
  filled-length (suc n) = rw length-set (filled-length n)

  pub filled_at : (n u : ℕ) → n ≤ size → u < n → get_or (filled_to v size n) u nan ≡ v u
  unfolding filled_to
  filled_at zero u h l = absurd (omega arith)
  filled_at (suc n) u h l =
      let inside : n < length (filled_to v size n) = rw (filled-length n) h in
      let le : u ≤ n = omega arith in
      ⊎_elim
      (λ (e : u ≡ n). rw e (get_or-set_same (filled_to v size n) n (v n) nan inside))
      (λ (lt : u < n). get_or-set_other (filled_to v size n) n u (v n) nan (λ (e : u ≡ n). omega arith) ∙ filled_at n u (omega arith) lt)
      (eq-or-lt_of_le le)

-- ---- an array of `from_fn`
-- what is called gives v of the index, below n, and stays as it is
module _ {F A : Type 0} (g : Mut F (ℕ × Unit {0}) A) (f : F) where
  abbrev pub Gives : (ℕ → A) → ℕ → Type 0
  Gives v n = (i : ℕ) (y : A) (q : F) → i < n → Called g f (i, tt) y q → y ≡ v i

  abbrev pub Stays : ℕ → Type 0
  Stays n = (i : ℕ) (y : A) (q : F) → i < n → Called g f (i, tt) y q → q ≡ f

module _ {F A : Type 0} {g : Mut F (ℕ × Unit {0}) A} {f : F} {v : ℕ → A} {n : ℕ} where
  from-at : Gives g f v n → Stays g f n → (ys : List A) (i m : ℕ) → i + m ≤ n → IsFromFnResultFrom g f ys i m → (k : ℕ) (d : A) → i ≤ k → k < i + m → get_or ys k d ≡ v k
  from-at gives stays ys i zero h p k d l lt = absurd (omega arith)
  from-at gives stays ys i (suc m) h p k d l lt =
      ⊎_elim
      (λ (e : i ≡ k). subst (λ (j : ℕ). get_or ys j d ≡ v j) e (p.2.1 d ∙ gives i p.1 p.0 (omega arith) p.3))
      (λ (le : i < k). from-at gives stays ys (i + 1) m (omega arith) (subst (λ (q : F). IsFromFnResultFrom g q ys (i + 1) m) (stays i p.1 p.0 (omega arith) p.3) p.4) k d (omega arith) (omega arith))
      (eq-or-lt_of_le l)

  -- then it is any list of n such values
  pub list_from : {ys : List A} → IsFromFnResult g f ys n → Gives g f v n → Stays g f n → (d : A) (zs : List A) → length zs ≡ n → ((k : ℕ) → k < n → get_or zs k d ≡ v k) → ys ≡ zs
  list_from {ys} p gives stays d zs long at =
      ext_get_or d ys zs (p.long ∙ sym long)
      (λ k l. from-at gives stays ys 0 n (omega arith) p.each k d (omega arith) (omega (arith, p.long)) ∙ sym (at k (omega (arith, p.long))))

-- and of floats those that are filled to the end
pub filled_from : {F : Type 0} {g : Mut F (ℕ × Unit {0}) Float} {f : F} {v : ℕ → Float} {n : ℕ} {ys : List Float} → IsFromFnResult g f ys n → Gives g f v n → Stays g f n → ys ≡ filled_to v n n
filled_from {v = v} {n} p gives stays = list_from p gives stays nan (filled_to v n n) (filled-length v n n) (λ k l. filled_at v n n k (omega arith) l)
