-- `sqrt_positive`. The parts of x are those of its square, and the bits of the root are read as the root.
use mathlib.Core.Path.{◌≡◌, sym, ap, ◌∙◌, subst}
use Prim.Native.Nat.{ℕ}
use mathlib.Core.Bool.{not}
use lib.Dec.{T}
use lib.Ieee.{binary32, fits, nan_bits, to_bits, of_bits}
use Rattle.root.specs.Root.{sqrt_of}
use Rattle.numeric.proofs.Comparisons.{holds}
use Rattle.root.proofs.Shifts.{root-read, root_no_nan, square-is}
use Rattle.root.proofs.sqrt_positive.Goals as goal
use Rattle.root.proofs.sqrt_positive.Goals.{After-root_bits, Start}

held : (s : Start) → T (fits binary32 s.args.x)
held s = holds s.well_formed.0.1

bits : (c : After-root_bits) → c.root_bits.result ≡ to_bits binary32 (sqrt_of c.before.before.before.args.x)
bits c =
    let s = c.before.before.before in
    let p = c.before.before.parts_of-parts in
    c.root_bits.ensures s.args.x (held s) s.requires (square-is s.args.x p.result.significand p.result.exponent p.ensures.whole)

pub float_from_bits-result : goal.float_from_bits-result
float_from_bits-result c =
    let s = c.before.before.before in
    subst (λ (b : ℕ). T (not (nan_bits binary32 b))) (sym (bits c)) (root_no_nan s.args.x (held s) s.requires)

pub returns : goal.returns
returns c = let s = c.before.before.before in ap (of_bits binary32) (bits c) ∙ root-read s.args.x (held s) s.requires
