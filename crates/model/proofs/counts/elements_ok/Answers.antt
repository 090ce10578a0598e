-- `model::counts::elements_ok` meets its contract.
use Rattle.std.proofs.Common.{◌≡◌, ℕ, zero, suc, ◌+◌, ◌-◌, ◌≤◌, add_comm, List, length, take, drop, refl, add-one, arith, rules, tests}
use Rattle.std.specs.List.{list_all}
use Rattle.std.proofs.lemmas.Iterator.{YieldsList-from_slice}
use Rattle.std.proofs.lemmas.Iterator.Search.{all_from_yields_List}
use Rattle.std.proofs.lemmas.Grind.{get_or_after_one}
use Rattle.std.proofs.lemmas.List.{length-drop}
use Rattle.std.proofs.lemmas.List.Folds.{list_all_more}
use Rattle.model.specs.Counts.{element_ok, elements_ok}
use Rattle.model.proofs.counts.elements_ok.Goals as goal

first_ok : (l : List ℕ) (n : ℕ) → n + 1 ≤ length l → elements_ok l n ≡ list_all element_ok (take n (drop 1 l))
unfolding elements_ok
first_ok l zero h = refl
first_ok l (suc n) h = rw (← add-one, list_all_more element_ok (drop 1 l) n 0 (omega (arith, length-drop 1 l)), first_ok l n (omega arith), get_or_after_one l n 0, add_comm 1 n)

pub returns : goal.returns
returns c =
    let l = c.args.iek in
    let e = all_from_yields_List element_ok _ _ _ c.all.ensures.ran (YieldsList-from_slice (take (c.args.n + 1 - 1) (drop 1 l)) c.iter.ensures.rest) (λ x b q k. search (rules, tests)) in
    let k : c.args.n + 1 - 1 ≡ c.args.n = omega arith in
    rw (e, k, first_ok l c.args.n (omega arith))
