-- Parts of a list of words. Assumes nothing.
use mathlib.Core.Path.{◌≡◌, sym, ap, ◌∙◌}
use mathlib.Core.List.{List}
use Prim.Native.Nat.{ℕ, ◌+◌, ◌-◌, ◌≤◌}
use native.Mathlib.Omega.{arith}
use lib.ListN.{take, drop}
use lib.Seq.{slice}
use Rattle.std.specs.List.{slice_range}
use Rattle.std.proofs.lemmas.List.{drop-take}

-- a part of a list as code takes it
pub as_slice : (s : List ℕ) (from to : ℕ) → from ≤ to → slice_range s from to ≡ slice from to s
as_slice s from to h =
    let e : from + (to - from) ≡ to = omega arith in
    sym (drop-take from (to - from) s) ∙ ap (λ (k : ℕ). drop from (take k s)) e
