use Rattle.std.proofs.Common.{◌≡◌, ℕ, zero, suc, ◌≤◌, true, ◌&&◌, List, length, take, refl, add-one, arith, rules, tests}
use Rattle.std.specs.Prelude.{Float}
use Rattle.std.specs.Float.{nan}
use Rattle.std.specs.Float.Ieee.Scale.{finite}
use Rattle.std.specs.List.{list_all}
use Rattle.std.proofs.lemmas.Iterator.{YieldsList-from_slice}
use Rattle.std.proofs.lemmas.Iterator.Consumers.{fold_from_yields_List}
use Rattle.std.proofs.Math.Seq.{take-length}
use Rattle.std.proofs.lemmas.List.Folds.{list_all_more}
use Rattle.floats.proofs.Folded.{all-by-fold}
use Rattle.floats.specs.Ranges.{finite_to, all_finite}
use Rattle.floats.proofs.range.all_finite.Goals as goal

first_finite : (l : List Float) (n : ℕ) → n ≤ length l → finite_to l n ≡ list_all finite (take n l)
unfolding finite_to
first_finite l zero h = refl
first_finite l (suc n) h = rw (← add-one, list_all_more finite l n nan (omega arith), first_finite l n (omega arith))

pub returns : goal.returns
unfolding all_finite
returns c =
    let l = c.args.s.now in
    let e = fold_from_yields_List _ (λ ok x. ok && finite x) true _ c.fold.ensures.ran (YieldsList-from_slice l cc) (λ a x b q k. search (rules, tests)) in
    rw (e, all-by-fold finite true l, first_finite l (length l) (omega arith), take-length)
