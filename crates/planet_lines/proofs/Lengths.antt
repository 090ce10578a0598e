-- How long the lines and the text are. Assumes nothing.
use Prim.Native.Nat.{ℕ, zero, suc, ◌+◌, ◌-◌, ◌*◌, ◌≤◌, ◌<◌}
use mathlib.Core.Path.{◌≡◌, refl}
use mathlib.Core.Bool.{Bool, true, false}
use mathlib.Core.List.{List}
use native.Mathlib.Omega.{arith}
use borrow.Author.Tests.{ltb-true, ltb-false}
use lib.Dec.{lit≤, ltb}
use lib.IntN.{pos, nat_abs}
use lib.ListN.{length, length-append}
use lib.Ieee.{Float}
use Rattle.floats.specs.Ops.{at}
use Rattle.model.specs.Types.{jant_of}
use Rattle.model.specs.Limits.{slot}
use Rattle.quoted.specs.Quoted.{quoted}
use Rattle.numerals.specs.Numeral.{numeral}
use Rattle.numerals.proofs.Laws.{numeral-length}
use Rattle.hundredths.specs.Decimals.{two_decimals}
use Rattle.hundredths.specs.Raised.{raised_of, lowered}
use Rattle.hundredths.proofs.Raised.{lowered_below, lowered_from}
use Rattle.hundredths.proofs.Text.{numeral-short, loss_length, two-decimals-length}
use Rattle.planet_lines.specs.Losses.{all_in_span, loss_at, top}
use Rattle.planet_lines.specs.Text.{whole_line, gain_line, loss_line, lines_to, part_text, mhz_of, header_text, text_of}
use Rattle.planet_lines.proofs.Greatest.{lowered-top, top_le, loss_is}

pub whole_length : (word : List ℕ) (n : ℕ) → length (whole_line word n) ≤ length word + 11
unfolding whole_line
whole_length word n = simp length-append (omega (arith, numeral-length 10 n))

pub angle-length : (angle : ℕ) → angle < 1000 → length (numeral angle) ≤ 3
angle-length angle h = numeral-short 10 2 angle h

pub loss_line_length : (angle n : ℕ) → angle < 1000 → n ≤ 200000 → length (loss_line angle (pos n)) ≤ 12
unfolding loss_line quoted
loss_line_length angle n h l = simp length-append (omega (arith, angle-length angle h, loss_length n l))

-- raised hundredths of a number in span
lowered-size : (r : ℕ) → r ≤ 200000 → nat_abs (lowered r) ≤ 200000
lowered-size r h = go (ltb r 100000) refl
  where
    go : (b : Bool) → ltb r 100000 ≡ b → nat_abs (lowered r) ≤ 200000
    go true e = rw (lowered_below r (ltb-true r 100000 e)) (omega arith)
    go false e = rw (lowered_from r (ltb-false r 100000 e)) (omega arith)

pub lowered-length : (r : ℕ) → r ≤ 200000 → length (two_decimals (lowered r)) ≤ 8
lowered-length r h = two-decimals-length (lowered r) (lowered-size r h)

pub gain-line-length : (r : ℕ) → r ≤ 200000 → length (gain_line (lowered r)) ≤ 18
unfolding gain_line quoted
gain-line-length r h = simp length-append (omega (arith, lowered-length r h))

pub name_length : (n : ℕ) → length (whole_line (quoted "NAME T") n) ≤ 17
unfolding quoted
name_length n = whole_length (quoted "NAME T") n

pub mhz-length : (n : ℕ) → length (whole_line (quoted "FREQUENCY ") n) ≤ 21
unfolding quoted
mhz-length n = whole_length (quoted "FREQUENCY ") n

pub header-length : (parm : List Float) (r : ℕ) → r ≤ 200000 → length (header_text parm (lowered r)) ≤ 56
unfolding header_text
header-length parm r h = simp length-append (omega (arith, name_length (jant_of (slot parm 1)), mhz-length (mhz_of (slot parm 4)), gain-line-length r h))

-- a part, whose numbers are in span
module _ (numbers : List Float) (span : all_in_span numbers ≡ true) where
  loss_small : (angle : ℕ) → (n : ℕ) × (n ≤ 200000) × (loss_at numbers angle ≡ pos n)
  unfolding loss_at
  loss_small angle = go (ltb angle (length numbers)) refl
    where
      go : (b : Bool) → ltb angle (length numbers) ≡ b → (n : ℕ) × (n ≤ 200000) × (loss_at numbers angle ≡ pos n)
      go true e =
          let i = ltb-true angle (length numbers) e in
          (top numbers - raised_of (at numbers angle), omega (arith, top_le numbers span), loss_is numbers span angle i)
      go false e = (9999, lit≤ tt, rw e)

  lines-length : (n : ℕ) → n ≤ 1000 → length (lines_to (loss_at numbers) n) ≤ 12 * n
  unfolding lines_to
  lines-length zero h = lit≤ tt
  lines-length (suc angle) h =
      let small = loss_small angle in
      let line : length (loss_line angle (loss_at numbers angle)) ≤ 12 = rw small.2 (loss_line_length angle small.0 (omega arith) small.1) in
      omega (arith, lines-length angle (omega arith), length-append (lines_to (loss_at numbers) angle) (loss_line angle (loss_at numbers angle)))

  pub part_length : (word : List ℕ) → length (part_text word numbers) ≤ length word + 4331
  unfolding part_text
  part_length word = simp length-append (omega (arith, whole_length word 360, lines-length 360 (lit≤ tt)))

-- the whole text
module _ (parm horizontal vertical : List Float) (span-h : all_in_span horizontal ≡ true) (span-v : all_in_span vertical ≡ true) (some : 0 < length horizontal) where
  pub text_length : length (text_of parm horizontal vertical) ≤ 8738
  unfolding text_of quoted
  text_length =
      let header = rw (lowered-top horizontal span-h some) at (header-length parm (top horizontal) (top_le horizontal span-h)) in
      simp length-append (omega (arith, header, part_length horizontal span-h (quoted "HORIZONTAL "), part_length vertical span-v (quoted "VERTICAL ")))
