-- `turn::left_of`: one doubling a turn.
use Rattle.std.proofs.Common.{ℕ, ◌*◌, ◌%◌, ◌^◌, ap, ◌∙◌, sym, mul_assoc, pow-add}
use Rattle.std.proofs.lemmas.Nat.{mul-mod_first}
use Rattle.directions.proofs.turn.left_of.Goals as goal

pub loop-k-preserved : goal.loop-k-preserved
loop-k-preserved c =
    let d = c.args.d in
    let k = c.loop-k.k in
    ap (λ (z : ℕ). z * 2 % 11796480) c.loop-k.invariant
    ∙ mul-mod_first (d * 2 ^ k) 2 11796480
    ∙ ap (λ (z : ℕ). z % 11796480) (mul_assoc d (2 ^ k) 2 ∙ ap (λ (z : ℕ). d * z) (sym (pow-add 2 k 1)))
