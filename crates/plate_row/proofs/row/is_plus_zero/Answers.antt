-- `plate_row::row::is_plus_zero` meets its contract.
use mathlib.Core.Path.{◌≡◌, sym, ap, subst, ◌∙◌}
use borrow.Author.Tests.{eqb-true}
use lib.Dec.{T}
use lib.Ieee.{Float, binary32, fits, of_bits, to_bits}
use lib.Ieee.Bits.{of_bits-to_bits}
use Rattle.floats.specs.Ops.{+0}
use Rattle.plate_row.proofs.row.is_plus_zero.Goals as goal

no_bits : (x : Float) → T (fits binary32 x) → to_bits binary32 x ≡ 0 → x ≡ +0
no_bits x h e = sym (of_bits-to_bits binary32 x h) ∙ ap (of_bits binary32) e

pub returns : goal.returns
returns c = λ e. no_bits _ (subst T (sym c.well_formed.0.1) tt) (sym c.bits_of.ensures ∙ eqb-true _ 0 e)
