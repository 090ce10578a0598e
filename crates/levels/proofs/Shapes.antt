-- The two shapes of a state that a run leaves, a ring that fills and a full ring that turns, and what one level more makes of them. Assumes nothing.
use mathlib.Core.Path.{◌≡◌, refl, sym, ap, ◌∙◌}
use mathlib.Core.List.{List, [], ◌∷◌, ◌++◌, map, map-append, append_assoc, append-nil}
use Prim.Native.Nat.{ℕ, suc, ◌+◌, ◌%◌, ◌<◌, min}
use native.Mathlib.Omega.{arith}
use lib.ListN.{length, drop, length-append, length-map, get_or, set, replicate, length-replicate}
use lib.Seq.{slice, take_at, drop_at, append_snoc, set-append_left, set_at, get_or_at, get_or-append-add}
use lib.Ieee.{Float, binary32, to_bits}
use Rattle.levels.specs.State.{held, next, received}

abbrev pub bits : List Float → List ℕ
bits xs = map (to_bits binary32) xs

-- a ring, how many it holds, the next place
abbrev pub state_of : List ℕ → ℕ → ℕ → List ℕ
state_of ring n place = ring ++ (n ∷ place ∷ [])

-- a was received, and there is room for z levels more beside the next
abbrev pub filling : List Float → ℕ → List ℕ
filling a z = state_of (bits a ++ replicate (suc z) 0) (length a) (length a)

-- b was received and then a, over what stood before b
abbrev pub turning : List Float → List Float → List ℕ
turning a b = state_of (bits a ++ bits b) 64 (length a)

module _ (ring : List ℕ) (n place : ℕ) (full : length ring ≡ 64) where
  pub words_of_lem : length (state_of ring n place) ≡ 66
  words_of_lem = length-append ring (n ∷ place ∷ []) ∙ omega arith

  pub held_of : held (state_of ring n place) ≡ n
  held_of = get_or_at ring n (place ∷ []) 0 64 full

  pub next_of : next (state_of ring n place) ≡ place
  next_of =
      let e : 65 ≡ length ring + 1 = omega arith in
      ap (λ (k : ℕ). get_or (state_of ring n place) k 0) e ∙ get_or-append-add ring (n ∷ place ∷ []) 1 0

  stores : (m p : ℕ) → set (set (state_of ring n place) 64 m) 65 p ≡ state_of ring m p
  stores m p =
      ap (λ (l : List ℕ). set l 65 p) (set_at ring n (place ∷ []) m 64 full ∙ sym (append_snoc ring m (place ∷ [])))
      ∙ set_at (ring ++ (m ∷ [])) place [] p 65 (length-append ring (m ∷ []) ∙ omega arith)
      ∙ append_snoc ring m (p ∷ [])

-- a ring in two parts, the first k words long
module _ (xs ys : List ℕ) (k n place : ℕ) (e : length xs ≡ k) (full : length (xs ++ ys) ≡ 64) where
  pub first_part : slice 0 k (state_of (xs ++ ys) n place) ≡ xs
  first_part = rw append_assoc (take_at xs (ys ++ (n ∷ place ∷ [])) k e)

  pub second-part : slice k 64 (state_of (xs ++ ys) n place) ≡ ys
  second-part = ap (drop k) (take_at (xs ++ ys) (n ∷ place ∷ []) 64 full) ∙ drop_at xs ys k e

ring_length : (a : List Float) (ws : List ℕ) → length (bits a ++ ws) ≡ length a + length ws
ring_length a ws = rw (length-append, length-map a (to_bits binary32))

pub filling_full : (a : List Float) (z : ℕ) → length a + suc z ≡ 64 → length (bits a ++ replicate (suc z) 0) ≡ 64
filling_full a z e = ring_length a (replicate (suc z) 0) ∙ omega (arith, length-replicate {A = ℕ} (suc z) 0)

pub turning_full : (a b : List Float) → length a + length b ≡ 64 → length (bits a ++ bits b) ≡ 64
turning_full a b e = ring_length a (bits b) ∙ omega (arith, length-map b (to_bits binary32))

-- the level's bits go to the place after those of a
placed : (a : List Float) (w : ℕ) (rest : List ℕ) (n : ℕ) (x : Float) → length a + suc (length rest) ≡ 64
    → received (state_of (bits a ++ w ∷ rest) n (length a)) x ≡ state_of (bits (a ++ (x ∷ [])) ++ rest) (min (n + 1) 64) ((length a + 1) % 64)
unfolding received
placed a w rest n x e =
    let b = to_bits binary32 x in
    let k = length-map a (to_bits binary32) in
    let old : length (bits a ++ w ∷ rest) ≡ 64 = ring_length a (w ∷ rest) ∙ e in
    let new : length (bits a ++ b ∷ rest) ≡ 64 = ring_length a (b ∷ rest) ∙ e in
    let more : bits a ++ b ∷ rest ≡ bits (a ++ (x ∷ [])) ++ rest = sym (append_snoc (bits a) b rest) ∙ ap (λ (l : List ℕ). l ++ rest) (sym (map-append (to_bits binary32) a (x ∷ []))) in
    rw (held_of (bits a ++ w ∷ rest) n (length a) old, next_of (bits a ++ w ∷ rest) n (length a) old)
    (ap (λ (l : List ℕ). set (set l 64 (min (n + 1) 64)) 65 ((length a + 1) % 64)) (set-append_left (bits a ++ w ∷ rest) (n ∷ length a ∷ []) (length a) b (omega arith) ∙ ap (λ (l : List ℕ). state_of l n (length a)) (set_at (bits a) w rest b (length a) k))
    ∙ stores (bits a ++ b ∷ rest) n (length a) new (min (n + 1) 64) ((length a + 1) % 64)
    ∙ ap (λ (l : List ℕ). state_of l (min (n + 1) 64) ((length a + 1) % 64)) more)

-- not the last place of the ring: the next one follows
goes_on : (a : List Float) (x : Float) (rest : List ℕ) (n : ℕ) → length a + 1 < 64
    → state_of (bits (a ++ (x ∷ [])) ++ rest) n ((length a + 1) % 64) ≡ state_of (bits (a ++ (x ∷ [])) ++ rest) n (length (a ++ (x ∷ [])))
goes_on a x rest n h = ap (state_of (bits (a ++ (x ∷ [])) ++ rest) n) (rw length-append (omega arith))

-- the last place: place 0 comes next
comes_round : (a : List Float) (x : Float) (n : ℕ) → length a + 1 ≡ 64 → n ≡ 64 → state_of (bits (a ++ (x ∷ [])) ++ []) n ((length a + 1) % 64) ≡ turning [] (a ++ (x ∷ []))
comes_round a x n h e = rw (append-nil (bits (a ++ (x ∷ []))), h, e)

module _ (a : List Float) (x : Float) where
  pub fill_more : (z : ℕ) → length a + suc (suc z) ≡ 64 → received (filling a (suc z)) x ≡ filling (a ++ (x ∷ [])) z
  fill_more z e =
      let rest : List ℕ = replicate (suc z) 0 in
      let n : min (length a + 1) 64 ≡ length (a ++ (x ∷ [])) = rw length-append (omega arith) in
      placed a 0 rest (length a) x (omega (arith, length-replicate {A = ℕ} (suc z) 0))
      ∙ goes_on a x rest (min (length a + 1) 64) (omega arith)
      ∙ ap (λ (k : ℕ). state_of (bits (a ++ (x ∷ [])) ++ rest) k (length (a ++ (x ∷ [])))) n

  pub fill_last : length a + 1 ≡ 64 → received (filling a 0) x ≡ turning [] (a ++ (x ∷ []))
  fill_last e = placed a 0 [] (length a) x e ∙ comes_round a x (min (length a + 1) 64) e (omega arith)

  pub turn_more : (y : Float) (b : List Float) → length a + suc (length b) ≡ 64 → 0 < length b → received (turning a (y ∷ b)) x ≡ turning (a ++ (x ∷ [])) b
  turn_more y b e h =
      placed a (to_bits binary32 y) (bits b) 64 x (omega (arith, length-map b (to_bits binary32))) ∙ goes_on a x (bits b) 64 (omega arith)

  pub turn_last : (y : Float) → length a + 1 ≡ 64 → received (turning a (y ∷ [])) x ≡ turning [] (a ++ (x ∷ []))
  turn_last y e = placed a (to_bits binary32 y) [] 64 x e ∙ comes_round a x 64 e refl
