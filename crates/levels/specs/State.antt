-- Document 02, card 13: the lent state, 66 words: a ring of 64 levels' bits, then how many it holds, then the next place 0 to 63. Definitions only.
use Rattle.std.specs.Prelude.{ℕ, ◌+◌, ◌%◌, min, Bool, cond, ◌&&◌, List, ◌++◌, map, length, get_or, set, eqb, ltb, leb, Float}
use Rattle.std.specs.List.{list_all}
use Rattle.std.proofs.Math.Seq.{slice}
use Rattle.std.specs.Float.{binary32}
use Rattle.std.specs.Float.Ieee.{of_bits, to_bits}
use Rattle.std.specs.Float.Ieee.Scale.{finite}

-- how many levels it holds
abbrev pub held : List ℕ → ℕ
held s = get_or s 64 0

-- the place where the next level goes
abbrev pub next : List ℕ → ℕ
next s = get_or s 65 0

-- one level more: its bits at the next place, over the earliest where the ring is full; after place 63 comes place 0
unfoldable pub received : List ℕ → Float → List ℕ
received s x = set (set (set s (next s) (to_bits binary32 x)) 64 (min (held s + 1) 64)) 65 ((next s + 1) % 64)

-- the levels that it holds, the earliest first, which stands at the next place where the ring is full, else at place 0
unfoldable pub levels_in : List ℕ → List Float
levels_in s = map (of_bits binary32) (slice (next s) (held s) s ++ slice 0 (next s) s)

-- the bits of a finite float
abbrev pub is_level : ℕ → Bool
is_level w = finite (of_bits binary32 w)

abbrev pub is_zero : ℕ → Bool
is_zero w = eqb w 0

-- any place of a full ring; before that the one after the last level
unfoldable pub next_ok : ℕ → ℕ → Bool
next_ok n place = cond (eqb n 64) (ltb place 64) (eqb place n)

-- words that some run could leave, which `RunLaw` says in so many words
unfoldable pub can_be_left : List ℕ → Bool
can_be_left s =
    eqb (length s) 66
    && leb (held s) 64
    && next_ok (held s) (next s)
    && list_all is_level (slice 0 (held s) s)
    && list_all is_zero (slice (held s) 64 s)
