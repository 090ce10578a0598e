-- An array filled entry by entry, and one that `map` makes. Assumes nothing.
use Prim.Native.Nat.{ℕ, zero, suc, ◌+◌, ◌≤◌, ◌<◌}
use mathlib.Core.Path.{◌≡◌, sym, subst, ap, ◌∙◌}
use mathlib.Core.Logic.{⊎_elim}
use mathlib.Core.List.{List}
use native.Mathlib.Nat.{eq-or-lt_of_le}
use native.Mathlib.Omega.{arith}
use borrow.Author.Count.{below_more}
use lib.ListN.{length, get_or, set}
use lib.Seq.{get_or-set_same, get_or-set_other}
use denote.Param.Members.{Mut, Called}
use Rattle.std.specs.Array.{MapsFrom, IsMapOf}

-- what holds of the entries below v, and of the value stored at v, holds of the entries below v + 1
pub filled_more : {A : Type 0} (P : ℕ → A → Type 0) (out : List A) (v : ℕ) (x d : A) → v < length out
    → ((k : ℕ) → k < v → P k (get_or out k d)) → P v x → (k : ℕ) → k < v + 1 → P k (get_or (set out v x) k d)
filled_more P out v x d inside below here =
    below_more (λ (k : ℕ). P k (get_or (set out v x) k d)) v
    (λ k h. rw (get_or-set_other out v k x d (λ (e : k ≡ v). omega arith)) (below k h))
    (rw (get_or-set_same out v x d inside) here)

-- what is called gives h of its argument, and stays as it is
module _ {F A B : Type 0} (g : Mut F (A × Unit {0}) B) (f : F) where
  abbrev pub Gives : (A → B) → Type 0
  Gives h = (x : A) (y : B) (q : F) → Called g f (x, tt) y q → y ≡ h x

  abbrev pub Stays : Type 0
  Stays = (x : A) (y : B) (q : F) → Called g f (x, tt) y q → q ≡ f

module _ {F A B : Type 0} {g : Mut F (A × Unit {0}) B} {f : F} {h : A → B} where
  from-at : Gives g f h → Stays g f → (xs : List A) (ys : List B) (i n : ℕ) → MapsFrom g f xs ys i n → (k : ℕ) (d : A) (e : B) → i ≤ k → k < i + n → get_or ys k e ≡ h (get_or xs k d)
  from-at gives stays xs ys i zero p k d e l m = absurd (omega arith)
  from-at gives stays xs ys i (suc n) p k d e l m =
      ⊎_elim
      (λ (same : i ≡ k). subst (λ (j : ℕ). get_or ys j e ≡ h (get_or xs j d)) same (p.4.1 e ∙ gives p.1 p.2 p.0 p.5 ∙ ap h (sym (p.3.1 d))))
      (λ (less : i < k). from-at gives stays xs ys (i + 1) n (subst (λ (q : F). MapsFrom g q xs ys (i + 1) n) (stays p.1 p.2 p.0 p.5) p.6) k d e (omega arith) (omega arith))
      (eq-or-lt_of_le l)

  -- so each entry of an array that `map` makes is h of the other's
  pub mapped_at : {xs : List A} {ys : List B} {n : ℕ} → IsMapOf g f xs ys n → Gives g f h → Stays g f → (k : ℕ) (d : A) (e : B) → k < n → get_or ys k e ≡ h (get_or xs k d)
  mapped_at {xs} {ys} {n} p gives stays k d e l = from-at gives stays xs ys 0 n p.each k d e (omega arith) (omega arith)
