-- Where the words of a text without remarks start: after its first blanks, and from each word on after the blanks behind it. Assumes nothing.
use mathlib.Core.Path.{◌≡◌, refl, sym, ap, ◌∙◌}
use Prim.Native.Nat.{ℕ, ◌+◌, ◌-◌, ◌≤◌, ◌<◌}
use native.Mathlib.Nat.{add-zero, sub-zero}
use native.Mathlib.Omega.{arith}
use mathlib.Core.Bool.{true, false, not}
use mathlib.Core.List.{List, [], ◌∷◌}
use lib.ListN.{length, take, drop, get_or, length-drop, drop_of_length-le, take-append-drop}
use lib.Seq.{drop-drop, get_or-drop, length-take-le, take-append-le, drop-append-le}
use Rattle.lines.specs.Pieces.{up_to, end_from, pieces}
use Rattle.lines.specs.Words.{is_remark, is_blank, filled, runs_of, words_of, IsWord}
use Rattle.lines.specs.Inner.{is_filled, StartsAfter}
use Rattle.lines.proofs.Runs.{by_test, run_none, run_stops, run_goes, end_run, end_le, end_bytes, end_again, pieces_none, pieces_stop, pieces_go}

-- ---- words by the text's first byte

runs_pieces : (s : List ℕ) → filled (pieces is_blank s) ≡ runs_of s
unfolding runs_of
runs_pieces s = refl

runs_none : runs_of [] ≡ []
unfolding runs_of filled
runs_none = rw (pieces_none is_blank)

runs_blank : (b : ℕ) (s : List ℕ) → is_blank b ≡ true → runs_of (b ∷ s) ≡ runs_of s
unfolding runs_of filled
runs_blank b s e = rw (pieces_stop is_blank b s e)

-- the pieces after the first hold the words that stand after it
runs_rest : (s : List ℕ) → filled (drop 1 (pieces is_blank s)) ≡ runs_of (drop (length (up_to is_blank s)) s)
unfolding filled
runs_rest [] = rw (pieces_none is_blank, run_none is_blank, runs_none)
runs_rest (b ∷ s) =
    by_test (is_blank b)
    (λ e. rw (pieces_stop is_blank b s e, run_stops is_blank b s e, runs_blank b s e) (runs_pieces s))
    (λ e. rw (pieces_go is_blank b s e, run_goes is_blank b s e) (runs_rest s))

runs_filled : (b : ℕ) (s : List ℕ) → is_blank b ≡ false → runs_of (b ∷ s) ≡ (b ∷ up_to is_blank s) ∷ runs_of (drop (length (up_to is_blank s)) s)
unfolding runs_of filled
runs_filled b s e = rw (pieces_go is_blank b s e) (ap (λ (ws : List (List ℕ)). (b ∷ up_to is_blank s) ∷ ws) (runs_rest s))

-- blanks before the first word count nothing
runs_skip : (s : List ℕ) → runs_of (drop (length (up_to is_filled s)) s) ≡ runs_of s
runs_skip [] = rw (run_none is_filled)
runs_skip (b ∷ s) =
    by_test (is_blank b)
    (λ e. rw (run_goes is_filled b s (ap not e), runs_blank b s e) (runs_skip s))
    (λ e. rw (run_stops is_filled b s (ap not e)))

-- ---- a text that starts with no blank starts with its first word

led-filled : (b : ℕ) (s : List ℕ) → length (up_to is_filled (b ∷ s)) ≡ 0 → is_blank b ≡ false
led-filled b s z = by_test (is_blank b) (λ e. absurd (omega (arith, ap length (run_goes is_filled b s (ap not e))))) (λ e. e)

led_runs : (b : ℕ) (s : List ℕ) → length (up_to is_filled (b ∷ s)) ≡ 0
    → runs_of (b ∷ s) ≡ up_to is_blank (b ∷ s) ∷ runs_of (drop (length (up_to is_blank (b ∷ s))) (b ∷ s))
led_runs b s z = rw (run_goes is_blank b s (led-filled b s z)) (runs_filled b s (led-filled b s z))

led-some : (s : List ℕ) → length (up_to is_filled s) ≡ 0 → 0 < length s → 0 < length (up_to is_blank s)
led-some [] z h = absurd (omega arith)
led-some (b ∷ s) z h = rw (run_goes is_blank b s (led-filled b s z)) (omega arith)

led_counts : (s : List ℕ) → length (up_to is_filled s) ≡ 0 → 0 < length s → 0 < length (runs_of s)
led_counts [] z h = absurd (omega arith)
led_counts (b ∷ s) z h = rw (led_runs b s z) (omega arith)

led-word : (s : List ℕ) → length (up_to is_filled s) ≡ 0 → get_or (runs_of s) 0 [] ≡ up_to is_blank s
led-word [] z = rw (runs_none, run_none is_blank)
led-word (b ∷ s) z = rw (led_runs b s z)

led-rest : (s : List ℕ) → length (up_to is_filled s) ≡ 0 → runs_of (drop (length (up_to is_blank s)) s) ≡ drop 1 (runs_of s)
led-rest [] z = rw (run_none is_blank, runs_none)
led-rest (b ∷ s) z = rw (led_runs b s z)

-- ---- words by an index

module _ (s : List ℕ) (k at : ℕ) where
  -- past the blanks at an index
  starts_skip : at ≤ length s → runs_of (drop at s) ≡ drop k (runs_of s) → StartsAfter s k (end_from is_filled s at)
  starts_skip h e =
      record {
        led = end_again is_filled s at h;
        rest = rw (end_run is_filled s at h, ← drop-drop (length (up_to is_filled (drop at s))) at s, runs_skip (drop at s)) e;
      }

  module _ (c : StartsAfter s k at) where
    starts_inside : at ≤ length s
    starts_inside = omega (arith, c.led, end_le is_filled s at)

    no_blank : length (up_to is_filled (drop at s)) ≡ 0
    no_blank = omega (arith, c.led, end_run is_filled s at starts_inside)

    -- there is no word more where the text ends, and else there is
    pub starts_end : length s ≤ at → length (runs_of s) ≤ k
    starts_end h =
        let none : length (drop k (runs_of s)) ≡ 0 = rw (← c.rest, drop_of_length-le s h, runs_none) in
        omega (arith, length-drop k (runs_of s))

    pub starts_some : at < length s → k < length (runs_of s)
    starts_some h =
        let some : 0 < length (drop k (runs_of s)) = rw (← c.rest) (led_counts (drop at s) no_blank (omega (arith, length-drop at s))) in
        omega (arith, length-drop k (runs_of s))

    pub starts_past : length s ≤ at → (n : ℕ) → k ≤ n → StartsAfter s n at
    starts_past h n g =
        let none = starts_end h in
        record {
          led = c.led;
          rest = c.rest ∙ drop_of_length-le (runs_of s) none ∙ sym (drop_of_length-le (runs_of s) {i = n} (omega arith));
        }

    -- the next word starts further on
    pub starts_further : at < length s → at < end_from is_filled s (end_from is_blank s at)
    starts_further h =
        omega (
          arith,
          led-some (drop at s) no_blank (omega (arith, length-drop at s)),
          end_run is_blank s at starts_inside,
          end_run is_filled s (end_from is_blank s at) (end_le is_blank s at),
        )

    starts_word : up_to is_blank (drop at s) ≡ get_or (runs_of s) k []
    starts_word =
        sym (led-word (drop at s) no_blank)
        ∙ ap (λ (ws : List (List ℕ)). get_or ws 0 []) c.rest
        ∙ get_or-drop k (runs_of s) 0 []
        ∙ ap (λ (i : ℕ). get_or (runs_of s) i []) (add-zero k)

pub starts_first : (s : List ℕ) → StartsAfter s 0 (end_from is_filled s 0)
starts_first s = starts_skip s 0 0 (omega arith) refl

pub starts_next : (s : List ℕ) (k at : ℕ) → StartsAfter s k at → StartsAfter s (k + 1) (end_from is_filled s (end_from is_blank s at))
starts_next s k at c =
    let n = length (up_to is_blank (drop at s)) in
    starts_skip s (k + 1) (end_from is_blank s at) (end_le is_blank s at)
    (ap (λ (i : ℕ). runs_of (drop i s)) (end_run is_blank s at (starts_inside s k at c))
    ∙ ap runs_of (sym (drop-drop n at s))
    ∙ led-rest (drop at s) (no_blank s k at c)
    ∙ ap (drop 1) c.rest
    ∙ drop-drop 1 k (runs_of s))

-- ---- before a remark

-- a line without its remark
abbrev pub bare : List ℕ → List ℕ
bare line = take (end_from is_remark line 0) line

pub bare_length : (line : List ℕ) → length (bare line) ≡ end_from is_remark line 0
bare_length line = length-take-le (end_from is_remark line 0) line (end_le is_remark line 0)

pub bare_words : (line : List ℕ) → runs_of (bare line) ≡ words_of line
unfolding words_of
bare_words line = ap (λ (n : ℕ). runs_of (take n line)) (sym (sub-zero (end_from is_remark line 0))) ∙ ap runs_of (end_bytes is_remark line 0)

-- a part that ends before the remark
bare-part : (line : List ℕ) (f n : ℕ) → f + n ≤ length (bare line) → take n (drop f line) ≡ take n (drop f (bare line))
bare-part line f n h =
    let rest = drop (end_from is_remark line 0) line in
    ap (λ (l : List ℕ). take n (drop f l)) (sym (take-append-drop (end_from is_remark line 0) line))
    ∙ ap (take n) (drop-append-le f (bare line) rest (omega arith))
    ∙ take-append-le n (drop f (bare line)) rest (omega (arith, length-drop f (bare line)))

pub starts_found : (line : List ℕ) (k from : ℕ) → StartsAfter (bare line) k from → IsWord line k (record { from = from; to = end_from is_blank (bare line) from })
starts_found line k from c =
    let s = bare line in
    let to = end_from is_blank s from in
    let forward : from ≤ to = omega (arith, end_run is_blank s from (starts_inside s k from c)) in
    let inside : to ≤ length s = end_le is_blank s from in
    record {
      bytes =
          bare-part line from (to - from) (omega arith)
          ∙ end_bytes is_blank s from
          ∙ starts_word s k from c
          ∙ ap (λ (ws : List (List ℕ)). get_or ws k []) (bare_words line);
      ordered = forward;
      inside = omega (arith, bare_length line, end_le is_remark line 0);
    }
