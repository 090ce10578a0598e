-- A state that is accepted has one of the shapes, and so is left by a run. Assumes nothing.
use mathlib.Core.Path.{◌≡◌, sym, ap, subst, ◌∙◌}
use mathlib.Core.Bool.{true}
use mathlib.Core.List.{List, [], ◌∷◌, ◌++◌, map, map-append}
use mathlib.Core.Logic.{⊎_elim}
use Prim.Native.Nat.{ℕ, zero, suc, ◌-◌, ◌<◌}
use native.Mathlib.Omega.{arith}
use lib.ListN.{length, length-map, length-drop, take, drop, replicate, take-append-drop, drop_of_length-le}
use lib.Seq.{slice, take-take, drop-cons, length-take-le, length-slice}
use lib.Dec.{lit<}
use lib.Ieee.{Float, binary32, of_bits, to_bits}
use Rattle.std.specs.List.{list_all}
use Rattle.levels.specs.State.{held, next, is_level}
use Rattle.levels.specs.Run.{leaves}
use Rattle.levels.specs.RunLaw.{Run, Words}
use Rattle.levels.proofs.Acceptance.{Accepted}
use Rattle.levels.proofs.Shapes.{bits, state_of}
use Rattle.levels.proofs.Counting.{Counts, counts_parts, levels_of_lem, zeros_of, run_of, counts_append}
use Rattle.levels.proofs.Runs.{leaves_filling, leaves_turning}

parts : (s : List ℕ) → length s ≡ 66 → s ≡ state_of (take 64 s) (held s) (next s)
parts s e =
    sym (take-append-drop 64 s)
    ∙ ap (λ (l : List ℕ). take 64 s ++ l) (drop-cons s 64 0 (omega arith))
    ∙ ap (λ (l : List ℕ). take 64 s ++ held s ∷ l) (drop-cons s 65 0 (omega arith))
    ∙ ap (λ (l : List ℕ). take 64 s ++ held s ∷ next s ∷ l) (drop_of_length-le s {i = 66} (omega arith))

words_take : (k : ℕ) (s : List ℕ) → Words s → Words (take k s)
words_take zero s h i = lit< tt
words_take (suc k) [] h i = lit< tt
words_take (suc k) (w ∷ s) h zero = h zero
words_take (suc k) (w ∷ s) h (suc i) = words_take k s (λ j. h (suc j)) i

-- words whose floats count
levels : (s : List ℕ) (k : ℕ) → Words s → list_all is_level (slice 0 k s) ≡ true → Counts (map (of_bits binary32) (take k s)) × (bits (map (of_bits binary32) (take k s)) ≡ take k s)
levels s k w a = levels_of_lem (take k s) (words_take k s w) a

left_filling : (s : List ℕ) → Words s → Accepted s → held s < 64 → next s ≡ held s → (xs : List Float) × Run xs × (leaves xs ≡ s)
left_filling s w a h p =
    let n = held s in
    let z = 63 - n in
    let xs = map (of_bits binary32) (take n s) in
    let q = levels s n w a.levels in
    let zs = slice n 64 s in
    let k : length xs ≡ n = length-map (take n s) (of_bits binary32) ∙ length-take-le n s (omega arith) in
    let m : length zs ≡ suc z = length-slice n 64 s (omega arith) ∙ omega arith in
    let zero-words : zs ≡ replicate (suc z) 0 = zeros_of zs a.zeros ∙ ap (λ (j : ℕ). replicate j 0) m in
    let ring : bits xs ++ replicate (suc z) 0 ≡ take 64 s = rw (q.1, ← zero-words, ← take-take n 64 s (omega arith)) (take-append-drop n (take 64 s)) in
    (xs, run_of q.0, leaves_filling xs z q.0 (omega arith) ∙ (rw (ring, k) (ap (state_of (take 64 s) n) (sym p))) ∙ sym (parts s a.words))

left_turning : (s : List ℕ) → Words s → Accepted s → held s ≡ 64 → next s < 64 → (xs : List Float) × Run xs × (leaves xs ≡ s)
left_turning s w a h p =
    let l = map (of_bits binary32) (take 64 s) in
    let q = levels s 64 w (rw h at a.levels) in
    let n = next s in
    let k : length l ≡ 64 = length-map (take 64 s) (of_bits binary32) ∙ length-take-le 64 s (omega arith) in
    let early = take n l in
    let late = drop n l in
    let i : length early ≡ n = length-take-le n l (omega arith) in
    let j : length late ≡ 64 - n = length-drop n l ∙ omega arith in
    let split = take-append-drop n l in
    let good : Counts (early ++ late) = subst Counts (sym split) q.0 in
    let ring : bits early ++ bits late ≡ take 64 s = sym (map-append (to_bits binary32) early late) ∙ ap bits split ∙ q.1 in (
      early ++ late ++ early,
      run_of (counts_append good (counts_parts early good).0),
      leaves_turning early late good (omega arith) (omega arith) ∙ (rw (ring, i) (ap (λ (m : ℕ). state_of (take 64 s) m n) (sym h))) ∙ sym (parts s a.words),
    )

pub left : (s : List ℕ) → Words s → Accepted s → (xs : List Float) × Run xs × (leaves xs ≡ s)
left s w a = ⊎_elim (λ e. left_turning s w a e.0 e.1) (λ e. left_filling s w a e.0 e.1) a.place
