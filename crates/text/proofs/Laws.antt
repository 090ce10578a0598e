-- How long the lines are, and what is printed of an outcome. Assumes nothing.
use mathlib.Core.Path.{◌≡◌, refl, ap}
use Prim.Native.Nat.{ℕ, zero, suc, ◌*◌, ◌≤◌, ◌<◌}
use native.Mathlib.Nat.{le_trans}
use native.Mathlib.Omega.{arith}
use mathlib.Core.List.{List, [], ◌∷◌, ◌++◌}
use lib.ListN.{length, length-append}
use lib.Dec.{lit≤}
use lib.Ieee.{Float, binary32, to_bits}
use Rattle.words.specs.Numbers.{decimal, hexadecimal}
use Rattle.words.proofs.Numbers.{decimal-length, hexadecimal-length}
use Rattle.answers.specs.Outcome.{Outcome, refused, accepted}
use Rattle.answers.specs.declared.Kind.{Kind}
use Rattle.answers.specs.declared.Kind.TheVariants.{Level, Floor, Silence}
use Rattle.text.specs.Lines.{kind_name, line, refusal_line, printed, gain_line, lines_to}

pub kind_length : (k : Kind) → length (kind_name k) ≤ 7
unfolding kind_name
kind_length Level = lit≤ tt
kind_length Floor = lit≤ tt
kind_length Silence = lit≤ tt

line-length : (n : ℕ) (x : Float) (kind : List ℕ) → length kind ≤ 7 → length (line n x kind) ≤ 21
unfolding line
line-length n x kind short =
    let d = decimal n in
    let h = hexadecimal (to_bits binary32 x) in
    let a = d ++ (32 ∷ []) in
    omega
    (arith, decimal-length n, hexadecimal-length (to_bits binary32 x), length-append (a ++ h ++ (32 ∷ []) ++ kind) (10 ∷ []), length-append (a ++ h ++ (32 ∷ [])) kind, length-append (a ++ h) (32 ∷ []), length-append a h, length-append d (32 ∷ []))

refusal_length : (n : ℕ) → length (refusal_line n) ≤ 12
unfolding refusal_line
refusal_length n =
    let s : List ℕ = 114 ∷ 101 ∷ 102 ∷ 117 ∷ 115 ∷ 101 ∷ 100 ∷ 32 ∷ [] in
    omega (arith, decimal-length n, length-append (s ++ decimal n) (10 ∷ []), length-append s (decimal n))

-- a text that has room for a refusal's line
pub printed-length : {A : Type 0} (o : Outcome A) (text : A → List ℕ) (n : ℕ) → 12 ≤ n → ((x : A) → length (text x) ≤ n) → length (printed o text) ≤ n
unfolding printed
printed-length (refused number) text n h f = le_trans (refusal_length number) h
printed-length (accepted x) text n h f = f x

pub gain-line-length : (v : ℕ) (o : Outcome (Kind × Float)) → length (gain_line v o) ≤ 21
unfolding gain_line
gain-line-length v o = printed-length o _ 21 (lit≤ tt) λ g. line-length v g.1 (kind_name g.0) (kind_length g.0)

pub lines-length : (answers : ℕ → Outcome (Kind × Float)) (n : ℕ) → length (lines_to answers n) ≤ 21 * n
unfolding lines_to
lines-length answers zero = lit≤ tt
lines-length answers (suc v) =
    omega (arith, lines-length answers v, gain-line-length v (answers v), length-append (lines_to answers v) (gain_line v (answers v)))

-- the same answers, the same lines
pub lines_same : (f g : ℕ → Outcome (Kind × Float)) (n : ℕ) → ((v : ℕ) → v < n → f v ≡ g v) → lines_to f n ≡ lines_to g n
unfolding lines_to
lines_same f g zero e = refl
lines_same f g (suc v) e = rw (lines_same f g v (λ i h. e i (omega arith)), e v (omega arith))

module _ {A : Type 0} (o : Outcome A) (text : A → List ℕ) where
  pub printed_refused : (n : ℕ) → o ≡ refused n → printed o text ≡ refusal_line n
  unfolding printed
  printed_refused n e = ap (λ (p : Outcome A). printed p text) e

  pub printed_accepted : (x : A) → o ≡ accepted x → printed o text ≡ text x
  unfolding printed
  printed_accepted x e = ap (λ (p : Outcome A). printed p text) e
