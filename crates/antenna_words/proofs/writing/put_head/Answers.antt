-- `put_head`: two words, then the constants.
use mathlib.Core.Path.{◌≡◌, refl, ap, ◌∙◌}
use mathlib.Core.Bool.{Bool, true, false}
use Rattle.std.specs.Int.{from_bool}
use Prim.Native.Nat.{ℕ}
use mathlib.Core.List.{List, [], ◌∷◌}
use native.Mathlib.Omega.{arith}
use lib.ListN.{length-set}
use Rattle.words.specs.Laid.{laid}
use Rattle.words.specs.Patterns.{bits}
use Rattle.words.proofs.Laid.{laid-sets, laid_more}
use Rattle.antenna_words.specs.Fields.{flag, constant_floats}
use Rattle.antenna_words.proofs.writing.put_head.Goals as goal

as_flag : (b : Bool) → from_bool b ≡ flag b
as_flag true = refl
as_flag false = refl

pub put_floats-requires : goal.put_floats-requires
put_floats-requires c = simp length-set (omega arith)

pub shape_of-out : goal.shape_of-out
shape_of-out c =
    let k = c.put_floats.auto.out in
    k ∙ simp length-set

pub returns : goal.returns
returns c =
    let put = c in
    let start = put in
    let a = start.args in
    let w = put.from.result in
    let e : w ≡ flag a.slewed = put.from.ensures ∙ as_flag a.slewed in
    record {
      out_after = rw (← e) (put.put_floats.ensures.out_after
          ∙ ap (λ (l : List ℕ). laid l 2 (bits (constant_floats a.k))) (laid-sets a.out.now 0 (a.iant ∷ w ∷ []) (omega (arith, start.requires)))
          ∙ laid_more a.out.now 0 2 (a.iant ∷ w ∷ []) (bits (constant_floats a.k)) (omega arith) (omega (arith, start.requires)));
      f32s = put.put_floats.ensures.f32s;
    }
