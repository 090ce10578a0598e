-- What is known of words that `can_be_left` accepts, and of those that one level more makes of them. Assumes nothing.
use mathlib.Core.Path.{◌≡◌, refl, sym, ◌∙◌}
use mathlib.Core.Bool.{Bool, true, false, cond, not, ◌&&◌, false≢true}
use mathlib.Core.Logic.{◌⊎◌, inl, inr, ⊎_elim}
use mathlib.Core.List.{List}
use Prim.Native.Nat.{ℕ, ◌+◌, ◌%◌, ◌≤◌, ◌<◌, min}
use native.Mathlib.Omega.{arith}
use lib.ListN.{length, length-set, set}
use lib.Seq.{slice, get_or-set_same, get_or-set_other}
use lib.Dec.{eqb, ltb, leb}
use lib.Ieee.{Float, binary32, to_bits}
use lib.Ieee.Scale.{finite}
use Rattle.answers.specs.declared.Refusal.{Refusal}
use Rattle.answers.specs.Outcome.{number}
use Rattle.answers.specs.Refusals.{VALUE, SPACE}
use Rattle.answers.proofs.Outcome.{number-pos}
use borrow.Author.Tests.{eqb-true, eqb-false, leb-true, ltb-true, eq-eqb, ne_eqb, le-leb, lt-ltb}
use Rattle.std.specs.List.{list_all}
use Rattle.levels.specs.State.{held, next, received, is_level, is_zero, next_ok, can_be_left}
use Rattle.levels.specs.Answers.{refusal_of}

-- what the test asks, part by part
pub record Accepted (s : List ℕ) : Type 0 where
  pub words : length s ≡ 66
  pub few : held s ≤ 64
  pub place : ((held s ≡ 64) × (next s < 64)) ⊎ ((held s < 64) × (next s ≡ held s))
  pub levels : list_all is_level (slice 0 (held s) s) ≡ true
  pub zeros : list_all is_zero (slice (held s) 64 s) ≡ true

pub both : (p q : Bool) → (p && q) ≡ true → (p ≡ true) × (q ≡ true)
both true q h = (refl, h)
both false q h = absurd (false≢true h)

place_of : (n p : ℕ) → n ≤ 64 → next_ok n p ≡ true → ((n ≡ 64) × (p < 64)) ⊎ ((n < 64) × (p ≡ n))
unfolding next_ok
place_of n p few ok = by (eqb n 64) refl ok
  where
    by : (b : Bool) → eqb n 64 ≡ b → cond b (ltb p 64) (eqb p n) ≡ true → ((n ≡ 64) × (p < 64)) ⊎ ((n < 64) × (p ≡ n))
    by true e h = inl (eqb-true n 64 e, ltb-true p 64 h)
    by false e h = let d = eqb-false n 64 e in inr (omega arith, eqb-true p n h)

pub parts_of : (s : List ℕ) → can_be_left s ≡ true → Accepted s
unfolding can_be_left
parts_of s h =
    let a = both (eqb (length s) 66 && leb (held s) 64 && next_ok (held s) (next s) && list_all is_level (slice 0 (held s) s)) (list_all is_zero (slice (held s) 64 s)) h in
    let b = both (eqb (length s) 66 && leb (held s) 64 && next_ok (held s) (next s)) (list_all is_level (slice 0 (held s) s)) a.0 in
    let c = both (eqb (length s) 66 && leb (held s) 64) (next_ok (held s) (next s)) b.0 in
    let d = both (eqb (length s) 66) (leb (held s) 64) c.0 in
    let few = leb-true (held s) 64 d.1 in
    record { words = eqb-true (length s) 66 d.0; few = few; place = place_of (held s) (next s) few c.1; levels = b.1; zeros = a.1 }

place_ok : (n p : ℕ) → ((n ≡ 64) × (p < 64)) ⊎ ((n < 64) × (p ≡ n)) → next_ok n p ≡ true
unfolding next_ok
place_ok n p (inl (e, h)) = rw (eq-eqb n 64 e, lt-ltb p 64 h)
place_ok n p (inr (h, e)) = rw (ne_eqb n 64 (λ f. omega arith), eq-eqb p n e)

pub accepts : (s : List ℕ) → Accepted s → can_be_left s ≡ true
unfolding can_be_left
accepts s a = rw (eq-eqb (length s) 66 a.words, le-leb (held s) 64 a.few, place_ok (held s) (next s) a.place, a.levels, a.zeros)

-- a record that isn't refused
pub passed : (s : List ℕ) (x : Float) → refusal_of s x ≡ 0 → Accepted s
unfolding refusal_of
passed s x h = parts_of s (by (finite x) (can_be_left s) h)
  where
    by : (f b : Bool) → cond (not f) VALUE (cond (not b) SPACE 0) ≡ 0 → b ≡ true
    by f true e = refl
    by true false e = absurd (eqb-false SPACE 0 refl e)
    by false false e = absurd (eqb-false VALUE 0 refl e)

-- the state after a record that is refused, and after one that isn't
module _ (n : ℕ) (was is : List ℕ) where
  pub kept_by : (r : Refusal) → number r ≡ n → cond (ltb 0 n) was is ≡ was
  kept_by r e = rw (← e, lt-ltb 0 (number r) (number-pos r))

  pub changed_by : 0 ≡ n → cond (ltb 0 n) was is ≡ is
  changed_by e = rw (← e)

-- what `shown` asks of a state
abbrev pub Readable : List ℕ → Type 0
Readable s = (length s ≡ 66) × (held s ≤ 64) × (next s ≤ held s)

module _ (s : List ℕ) (a : Accepted s) where
  pub next-below : next s < 64
  next-below = ⊎_elim (λ w. omega arith) (λ w. omega arith) a.place

  pub readable : Readable s
  readable = (a.words, a.few, ⊎_elim (λ w. omega arith) (λ w. omega arith) a.place)

  module _ (x : Float) where
    stored : List ℕ
    stored = set s (next s) (to_bits binary32 x)

    held_after : held (received s x) ≡ min (held s + 1) 64
    unfolding received stored
    held_after =
        let n = min (held s + 1) 64 in
        get_or-set_other (set stored 64 n) 65 64 ((next s + 1) % 64) 0 (λ e. omega arith)
        ∙ get_or-set_same stored 64 n 0 (simp length-set (omega arith))

    next_after_lem : next (received s x) ≡ (next s + 1) % 64
    unfolding received stored
    next_after_lem = get_or-set_same (set stored 64 (min (held s + 1) 64)) 65 ((next s + 1) % 64) 0 (simp length-set (omega arith))

    -- one level more keeps it readable
    pub readable_after : Readable (received s x)
    unfolding received
    readable_after = (
      simp length-set a.words,
      rw held_after (omega arith),
      rw (next_after_lem, held_after) (⊎_elim (λ w. omega arith) (λ w. omega arith) a.place),
    )

-- ---- what the calls ask of a state

pub readable_left : (s : List ℕ) → can_be_left s ≡ true → Readable s
readable_left s h = readable s (parts_of s h)

pub takes_more : (s : List ℕ) (x : Float) → 0 ≡ refusal_of s x → (length s ≡ 66) × (held s ≤ 64) × (next s < 64)
takes_more s x h = let p = passed s x (sym h) in (p.words, p.few, next-below s p)

pub readable_more : (s : List ℕ) (x : Float) → 0 ≡ refusal_of s x → Readable (received s x)
readable_more s x h = readable_after s (passed s x (sym h)) x
