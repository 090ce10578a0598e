-- The parameters as mode 1 leaves them, type 8's slot 5 written too or not. Assumes nothing.
use Prim.Native.Nat.{ℕ}
use mathlib.Core.Path.{◌≡◌, refl, ◌∙◌}
use mathlib.Core.Bool.{Bool, true, false, cond}
use mathlib.Core.List.{List}
use native.Mathlib.Omega.{arith}
use lib.ListN.{length, set, length-set}
use lib.Seq.{get_or-set_same, get_or-set_other}
use lib.Ieee.{Float, nan}
use Rattle.floats.specs.Ops.{at}

-- a store elsewhere
pub elsewhere : (l : List Float) (i k : ℕ) (x : Float) → (k ≡ i → ⊥) → at (set l i x) k ≡ at l k
elsewhere l i k x = get_or-set_other l i k x nan

module _ (parm : List Float) (f d : Float) where
  abbrev both : List Float
  both = set (set parm 4 f) 7 d

  abbrev pub mode_1 : Bool → List Float
  mode_1 eight = cond eight (set both 5 d) both

  pub as_many : (eight : Bool) → length (mode_1 eight) ≡ length parm
  as_many true = simp length-set
  as_many false = simp length-set

  -- what slot 5's store leaves alone
  beside : (eight : Bool) (k : ℕ) → (k ≡ 5 → ⊥) → at (mode_1 eight) k ≡ at both k
  beside true k h = elsewhere both 5 k d h
  beside false k h = refl

  pub others : (eight : Bool) (k : ℕ) → (k ≡ 4 → ⊥) → (k ≡ 5 → ⊥) → (k ≡ 7 → ⊥) → at (mode_1 eight) k ≡ at parm k
  others eight k four five seven = beside eight k five ∙ elsewhere (set parm 4 f) 7 k d seven ∙ elsewhere parm 4 k f four

  module _ (e : length parm ≡ 20) where
    pub slot_4 : (eight : Bool) → at (mode_1 eight) 4 ≡ f
    slot_4 eight =
        beside eight 4 (λ n. omega arith) ∙ elsewhere (set parm 4 f) 7 4 d (λ n. omega arith) ∙ get_or-set_same parm 4 f nan (omega arith)

    pub slot_7 : (eight : Bool) → at (mode_1 eight) 7 ≡ d
    slot_7 eight = beside eight 7 (λ n. omega arith) ∙ get_or-set_same (set parm 4 f) 7 d nan (rw length-set (omega arith))

    pub slot_5 : (eight : Bool) → at (mode_1 eight) 5 ≡ cond eight d (at parm 5)
    slot_5 true = get_or-set_same both 5 d nan (simp length-set (omega arith))
    slot_5 false = elsewhere (set parm 4 f) 7 5 d (λ n. omega arith) ∙ elsewhere parm 4 5 f (λ n. omega arith)
