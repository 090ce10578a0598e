-- The state that a run leaves is of one of the two shapes, and holds the run's tail. Assumes nothing.
use mathlib.Core.Path.{◌≡◌, refl, sym, ap, subst, ◌∙◌}
use mathlib.Core.Bool.{Bool, true, false, cond}
use mathlib.Core.List.{List, [], ◌∷◌, ◌++◌, append_assoc, append-nil, foldl, foldl-append}
use Prim.Native.Nat.{ℕ, zero, suc, ◌+◌, ◌<◌}
use native.Mathlib.Nat.{zero-add, suc-add}
use native.Mathlib.Omega.{arith}
use lib.ListN.{length, length-append, take, get_or, drop_of_length-le, replicate}
use lib.Seq.{append_snoc, split_at, length-take-le}
use lib.Ieee.{Float, nan}
use lib.Ieee.Scale.{finite}
use Rattle.levels.specs.State.{received}
use Rattle.levels.specs.Run.{counted, tail, sent, leaves}
use Rattle.levels.proofs.Counting.{Counts, and_one, counts_parts}
use Rattle.levels.proofs.Shapes.{filling, turning, fill_more, fill_last, turn_more, turn_last}
use Rattle.levels.proofs.Tails.{tail_all, tail_one_off, tail_more}

-- the state s holds the levels t, the earliest first
pub data Holds : List ℕ → List Float → Type 0 where
  fills : (a : List Float) (z : ℕ) → length a + suc z ≡ 64 → Holds (filling a z) a
  turns : (a b : List Float) → length a + length b ≡ 64 → 0 < length b → Holds (turning a b) (b ++ a)

-- full for the first time, or once more
full : (a : List Float) → length a ≡ 64 → Holds (turning [] a) a
full a e = subst (Holds (turning [] a)) (append-nil a) (turns [] a (omega arith) (omega arith))

longer : (a : List Float) (x : Float) → length (a ++ (x ∷ [])) ≡ length a + 1
longer a x = length-append a (x ∷ [])

-- one level more, and of 65 the earliest less
one_more : (s : List ℕ) (t : List Float) → Holds s t → (x : Float) → Holds (received s x) (tail (t ++ (x ∷ [])))
one_more s t (fills a zero e) x =
    let n = longer a x in
    rw (fill_last a x e, tail_all (a ++ (x ∷ [])) (omega arith)) (full (a ++ (x ∷ [])) (omega arith))
one_more s t (fills a (suc z) e) x =
    let n = longer a x in
    rw (fill_more a x z e, tail_all (a ++ (x ∷ [])) (omega arith)) (fills (a ++ (x ∷ [])) z (omega arith))
one_more s t (turns a [] e h) x = absurd (omega arith)
one_more s t (turns a (y ∷ []) e h) x =
    let n = longer a x in
    rw (turn_last a x y e, tail_one_off y (a ++ (x ∷ [])) (omega arith)) (full (a ++ (x ∷ [])) (omega arith))
one_more s t (turns a (y ∷ y' ∷ b) e h) x =
    let n = longer a x in
    let m : length (y' ∷ b ++ a ++ (x ∷ [])) ≡ 64 = longer (y' ∷ b ++ a) x ∙ omega (arith, length-append (y' ∷ b) a) in
    rw (turn_more a x y (y' ∷ b) (omega arith) (omega arith), tail_one_off y (y' ∷ b ++ a ++ (x ∷ [])) m, append_assoc (y' ∷ b) a (x ∷ []))
    (turns (a ++ (x ∷ [])) (y' ∷ b) (omega arith) (omega arith))

go_on : (s : List ℕ) (ys xs : List Float) → Holds s (tail ys) → Holds (foldl sent s xs) (tail (ys ++ counted xs))
unfolding sent counted
go_on s ys [] p = rw append-nil p
go_on s ys (x ∷ xs) p = by (finite x) refl (λ q. go_on (received s x) (ys ++ (x ∷ [])) xs q) (go_on s ys xs p)
  where
    by : (b : Bool) → finite x ≡ b
        → (Holds (received s x) (tail (ys ++ (x ∷ []))) → Holds (foldl sent (received s x) xs) (tail (ys ++ (x ∷ []) ++ counted xs)))
        → Holds (foldl sent s xs) (tail (ys ++ counted xs))
        → Holds (foldl sent (cond b (received s x) s) xs) (tail (ys ++ cond b (x ∷ counted xs) (counted xs)))
    by true e f g = rw append_snoc at (f (subst (Holds (received s x)) (tail_more ys x) (one_more s (tail ys) p x)))
    by false e f g = g

-- what a run leaves holds the run's tail
pub holds-tail : (xs : List Float) → Holds (leaves xs) (tail (counted xs))
unfolding leaves
holds-tail xs = go_on (filling [] 63) [] xs (subst (Holds (filling [] 63)) (sym (tail_all [] (omega arith))) (fills [] 63 refl))

pub leaves_append : (xs ys : List Float) → leaves (xs ++ ys) ≡ foldl sent (leaves xs) ys
unfolding leaves
leaves_append xs ys = foldl-append sent (replicate 66 0) xs ys

-- ---- and the other way: levels that are sent one after the other

-- into a ring that has room for them
fill_up : (a b : List Float) (z : ℕ) → Counts b → length a + length b + suc z ≡ 64 → foldl sent (filling a (length b + z)) b ≡ filling (a ++ b) z
unfolding sent
fill_up a [] z p e = rw (append-nil, zero-add)
fill_up a (y ∷ b) z (and_one f h p) e =
    rw (f, suc-add (length b) z, fill_more a y (length b + z) (omega arith))
    (fill_up (a ++ (y ∷ [])) b z p (omega (arith, longer a y)) ∙ ap (λ (l : List Float). filling l z) (append_snoc a y b))

pub leaves_filling : (a : List Float) (z : ℕ) → Counts a → length a + suc z ≡ 64 → leaves a ≡ filling a z
unfolding leaves
leaves_filling a z p e =
    let k : 63 ≡ length a + z = omega arith in
    ap (λ (n : ℕ). foldl sent (filling [] n) a) k ∙ fill_up [] a z p (omega arith)

leaves-full : (l : List Float) → Counts l → length l ≡ 64 → leaves l ≡ turning [] l
unfolding sent
leaves-full l p n =
    let a = take 63 l in
    let x = get_or l 63 nan in
    let split : l ≡ a ++ (x ∷ []) = split_at l 63 nan (omega arith) ∙ ap (λ (r : List Float). a ++ x ∷ r) (drop_of_length-le l {i = 64} (omega arith)) in
    let k : length a + 1 ≡ 64 = omega (arith, length-take-le 63 l (omega arith)) in
    by a x split k (counts_parts a (subst Counts split p))
  where
    by : (a : List Float) (x : Float) → l ≡ a ++ (x ∷ []) → length a + 1 ≡ 64 → Counts a × Counts (x ∷ []) → leaves l ≡ turning [] l
    by a x e k (p, and_one f h q) =
        rw e (leaves_append a (x ∷ []) ∙ ap (λ (s : List ℕ). sent s x) (leaves_filling a 0 p k) ∙ (rw f (fill_last a x k)))

-- over the earliest of a full ring, which are the same
turn_on : (a c b : List Float) → Counts c → length a + length c + length b ≡ 64 → 0 < length b → foldl sent (turning a (c ++ b)) c ≡ turning (a ++ c) b
unfolding sent
turn_on a [] b p e h = rw append-nil
turn_on a (y ∷ c) b (and_one f g p) e h =
    let n = length-append c b in
    rw (f, turn_more a y y (c ++ b) (omega arith) (omega arith))
    (turn_on (a ++ (y ∷ [])) c b p (omega (arith, longer a y)) h ∙ ap (λ (l : List Float). turning l b) (append_snoc a y c))

pub leaves_turning : (a b : List Float) → Counts (a ++ b) → length a + length b ≡ 64 → 0 < length b → leaves (a ++ b ++ a) ≡ turning a b
leaves_turning a b p e h =
    leaves_append (a ++ b) a
    ∙ ap (λ (s : List ℕ). foldl sent s a) (leaves-full (a ++ b) p (length-append a b ∙ e))
    ∙ turn_on [] a b (counts_parts a p).0 (omega arith) h
