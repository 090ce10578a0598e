-- How long a card is at most. Assumes nothing.
use mathlib.Core.Path.{◌≡◌, refl}
use mathlib.Core.Logic.{⊎_elim}
use mathlib.Core.Bool.{Bool, true, false, ◌&&◌}
use mathlib.Core.List.{List}
use Prim.Native.Nat.{ℕ, zero, suc, ◌+◌, ◌-◌, ◌*◌, ◌≤◌, ◌<◌}
use native.Mathlib.Nat.{le_refl, eq-or-lt_of_le, le_of_suc-le-suc}
use native.Mathlib.Omega.{arith}
use lib.Dec.{eqb, lit≤}
use lib.ListN.{length, replicate, length-append, length-replicate}
use lib.Ieee.{Float}
use Rattle.quoted.specs.Quoted.{quoted}
use Rattle.typed.proofs.Laws.{typed_length}
use Rattle.fields.specs.declared.Kind.{Kind}
use Rattle.fields.specs.Names.{TYPE, FIELDS, name_of}
use Rattle.fields.specs.Table.{CURTAIN, has_field, count_of, first_place}
use Rattle.fields.proofs.Lengths.{name_length}
use Rattle.card_back.specs.Text.{word_of, in_turn, label, number_text, line_text, field_text, text_of}
use Rattle.card_back.proofs.Rows.{most_of, at_most}

-- ---- texts one after the other, each with a bound

unfoldable pub total : (ℕ → ℕ) → ℕ → ℕ
total bound zero = 0
total bound (suc n) = total bound n + bound n

pub turn-length : (text : ℕ → List ℕ) (bound : ℕ → ℕ) → ((k : ℕ) → length (text k) ≤ bound k) → (n : ℕ) → length (in_turn text n) ≤ total bound n
unfolding in_turn total
turn-length text bound h zero = lit≤ tt
turn-length text bound h (suc n) = omega (arith, turn-length text bound h n, h n, length-append (in_turn text n) (text n))

-- the same bound for all
total-same : (b n : ℕ) → total (λ (k : ℕ). b) n ≡ b * n
unfolding total
total-same b zero = omega arith
total-same b (suc n) = omega (arith, total-same b n)

-- fewer, and one of the rest, are no longer
pub total-part : (bound : ℕ → ℕ) (i n : ℕ) → i < n → total bound i + bound i ≤ total bound n
unfolding total
total-part bound i zero h = absurd (omega arith)
total-part bound i (suc n) h = ⊎_elim (λ (e : i ≡ n). rw e (le_refl (total bound n + bound n))) (λ (l : i < n). omega (arith, total-part bound i n l)) (eq-or-lt_of_le (le_of_suc-le-suc h))

-- ---- a line

word-length : (kind : Kind) (f : ℕ) (x : Float) → length (word_of kind f x) ≤ 86
unfolding word_of quoted
word-length kind f x = go (eqb f TYPE && eqb kind.iant CURTAIN) refl
  where
    go : (b : Bool) → (eqb f TYPE && eqb kind.iant CURTAIN) ≡ b → length (word_of kind f x) ≤ 86
    go true e = rw e (lit≤ tt)
    go false e = rw e (typed_length x)

pub label-length : (f : ℕ) → length (label f) ≡ 11
unfolding label
label-length f = omega (arith, length-append (name_of f) (replicate (11 - length (name_of f)) 32), length-replicate {A = ℕ} (11 - length (name_of f)) 32, name_length f)

module _ (kind : Kind) (place : ℕ → Float) where
  pub numbers-length : (f n : ℕ) → length (in_turn (number_text kind place f) n) ≤ 87 * n
  unfolding number_text
  numbers-length f n =
      omega (arith, total-same 87 n, turn-length (number_text kind place f) (λ (k : ℕ). 87) (λ k. omega (arith, word-length kind f (place (first_place kind f + k)))) n)

  line-length : (f : ℕ) → length (line_text kind place f) ≤ 12 + 87 * count_of kind f
  unfolding line_text
  line-length f = simp length-append (omega (arith, label-length f, numbers-length f (count_of kind f)))

  -- ---- the whole card: 68 numbers of at most 87 bytes in 26 lines, if a kind had all

  field_length : (f : ℕ) → length (field_text kind place f) ≤ 12 + 87 * most_of f
  unfolding field_text
  field_length f = go (has_field kind f) refl
    where
      go : (b : Bool) → has_field kind f ≡ b → length (field_text kind place f) ≤ 12 + 87 * most_of f
      go true e = rw e (omega (arith, line-length f, at_most kind f))
      go false e = rw e (omega arith)

-- the most bytes of the field after i others, and of the first i
unfoldable pub room_of : ℕ → ℕ
room_of i = 12 + 87 * most_of (suc i)

pub all_room : total room_of FIELDS ≡ 6228
unfolding total room_of most_of
all_room = refl

pub room-left : (i : ℕ) → i < FIELDS → total room_of i + 12 + 87 * most_of (suc i) ≤ 8192
unfolding room_of
room-left i h = omega (arith, all_room, total-part room_of i FIELDS h)

module _ (kind : Kind) (place : ℕ → Float) where
  pub fields-length : (n : ℕ) → length (in_turn (λ (i : ℕ). field_text kind place (suc i)) n) ≤ total room_of n
  unfolding room_of
  fields-length n = turn-length (λ (i : ℕ). field_text kind place (suc i)) room_of (λ i. field_length kind place (suc i)) n

  pub card_length : length (text_of kind place) ≤ 6228
  unfolding text_of
  card_length = omega (arith, fields-length FIELDS, all_room)
