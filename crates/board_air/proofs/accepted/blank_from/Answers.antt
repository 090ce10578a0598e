-- `board_air::accepted::blank_from` meets its contract.
use Rattle.std.proofs.Common.{◌≡◌, ℕ, true, ◌-◌, length, length-drop, drop, ◌&&◌, eqb, refl, sym, rules, tests, ◌∙◌}
use lib.Seq.{take-length}
use Rattle.std.specs.List.{list_all}
use Rattle.std.proofs.lemmas.Iterator.{YieldsList-from_slice}
use Rattle.std.proofs.lemmas.Iterator.Consumers.{fold_from_yields_List}
use Rattle.std.proofs.lemmas.List.Recursion.{same_from_clauses}
use Rattle.floats.proofs.Folded.{all-by-fold}
use Rattle.board_air.specs.Words.{blank}
use Rattle.board_air.proofs.accepted.blank_from.Goals as goal

pub returns : goal.returns
unfolding blank
returns c =
    let a = c.args in
    let words = drop a.at a.air.now in
    let n : length a.air.now - a.at ≡ length words = sym (length-drop a.at a.air.now) in
    let test = λ (w : ℕ). eqb w 0 in
    fold_from_yields_List _ (λ ok w. ok && test w) true _ c.fold.ensures.ran (YieldsList-from_slice words ((rw n at c.iter.ensures.rest) ∙ take-length words)) (λ a x b q k. search (rules, tests))
    ∙ all-by-fold test true words
    ∙ sym (same_from_clauses blank (list_all test) (λ w b. eqb w 0 && b) refl (λ _ _. refl) (λ _ _. refl) words)
