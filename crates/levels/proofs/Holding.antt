-- A state in either shape is accepted, and its levels are those that it holds. Assumes nothing.
use mathlib.Core.Path.{◌≡◌, sym, ap, ◌∙◌}
use mathlib.Core.List.{List, [], ◌∷◌, ◌++◌, map, map-append}
use mathlib.Core.Logic.{inl, inr}
use Prim.Native.Nat.{ℕ, suc}
use native.Mathlib.Omega.{arith}
use lib.ListN.{length, length-map, replicate}
use lib.Seq.{slice_empty, take_at}
use lib.Ieee.{Float, binary32, of_bits, to_bits}
use Rattle.levels.specs.State.{levels_in, is_level}
use Rattle.levels.proofs.Acceptance.{Accepted}
use Rattle.std.proofs.lemmas.List.Folds.{list_all-append}
use Rattle.levels.proofs.Shapes.{bits, state_of, filling, words_of_lem, held_of, next_of, first_part, second-part, filling_full, turning_full}
use Rattle.levels.proofs.Counting.{Counts, counts_parts, read_back, all_levels_lem, all-zeros}
use Rattle.levels.proofs.Runs.{Holds, fills, turns}

pub holds-accepted : (s : List ℕ) (t : List Float) → Holds s t → Counts t → Accepted s
holds-accepted s t (fills a z e) p =
    let rest : List ℕ = replicate (suc z) 0 in
    let ring = bits a ++ rest in
    let full = filling_full a z e in
    let k = length-map a (to_bits binary32) in
    let n = length a in
    let h = held_of ring n n full in
    record {
      words = words_of_lem ring n n full;
      few = rw h (omega arith);
      place = inr (rw h (omega arith), next_of ring n n full ∙ sym h);
      levels = rw (h, first_part (bits a) rest n n n k full) (all_levels_lem p);
      zeros = rw (h, second-part (bits a) rest n n n k full) (all-zeros (suc z));
    }
holds-accepted s t (turns a b e l) p =
    let ring = bits a ++ bits b in
    let full = turning_full a b e in
    let n = length a in
    let h = held_of ring 64 n full in
    let q = counts_parts b p in
    record {
      words = words_of_lem ring 64 n full;
      few = rw h (omega arith);
      place = inl (h, rw (next_of ring 64 n full) (omega arith));
      levels = rw (h, take_at ring (64 ∷ n ∷ []) 64 full, list_all-append is_level (bits a) (bits b), all_levels_lem q.1, all_levels_lem q.0);
      zeros = rw (h, slice_empty 64 (state_of ring 64 n));
    }

pub holds_levels : (s : List ℕ) (t : List Float) → Holds s t → Counts t → levels_in s ≡ t
unfolding levels_in
holds_levels s t (fills a z e) p =
    let rest : List ℕ = replicate (suc z) 0 in
    let ring = bits a ++ rest in
    let full = filling_full a z e in
    let n = length a in
    rw (held_of ring n n full, next_of ring n n full, slice_empty n (filling a z), first_part (bits a) rest n n n (length-map a (to_bits binary32)) full) (read_back p)
holds_levels s t (turns a b e l) p =
    let ring = bits a ++ bits b in
    let full = turning_full a b e in
    let n = length a in
    let k = length-map a (to_bits binary32) in
    rw (held_of ring 64 n full, next_of ring 64 n full, second-part (bits a) (bits b) n 64 n k full, first_part (bits a) (bits b) n 64 n k full)
    (ap (map (of_bits binary32)) (sym (map-append (to_bits binary32) b a)) ∙ read_back p)
