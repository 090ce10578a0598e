-- One line more. Assumes nothing.
use Prim.Native.Nat.{ℕ, zero, suc, ◌+◌}
use mathlib.Core.Path.{◌≡◌, refl}
use mathlib.Core.List.{List, [], ◌∷◌, ◌++◌, append_assoc, append-nil}
use native.Mathlib.Nat.{add-zero, zero-add}
use native.Mathlib.Omega.{arith}
use native.Mathlib.Numerals.{add-one}
use lib.ListN.{length, length-append}
use Rattle.shown.specs.InOrder.{up_to}
use Rattle.shown.specs.Plate.{Entry}
use Rattle.dbi_text.specs.Dbi.{entry_line, lines_from}

lines_append : (v : ℕ) (es : List Entry) (e : Entry) → lines_from v (es ++ (e ∷ [])) ≡ lines_from v es ++ entry_line (v + length es) e
unfolding lines_from
lines_append v [] e = rw (add-zero, append-nil)
lines_append v (x ∷ es) e = let n : suc v + length es ≡ v + suc (length es) = omega arith in rw (lines_append (suc v) es e, append_assoc, n)

up-to-length : (f : ℕ → Entry) (n : ℕ) → length (up_to f n) ≡ n
unfolding up_to
up-to-length f zero = refl
up-to-length f (suc n) = rw (length-append, up-to-length f n, add-one)

pub lines_more : (f : ℕ → Entry) (n : ℕ) → lines_from 0 (up_to f (suc n)) ≡ lines_from 0 (up_to f n) ++ entry_line n (f n)
unfolding up_to
lines_more f n = rw (lines_append 0 (up_to f n) (f n), up-to-length f n, zero-add)
