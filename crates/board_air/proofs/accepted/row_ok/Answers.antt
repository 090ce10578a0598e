-- `board_air::accepted::row_ok` meets its contract.
use Rattle.std.proofs.Common.{◌≡◌, ℕ, true, ◌&&◌, ◌+◌, ◌-◌, arith, drop, take, rules, tests, sym, ◌∙◌}
use Rattle.std.specs.Float.{binary32}
use Rattle.std.specs.Float.Ieee.{of_bits}
use Rattle.std.specs.Float.Ieee.Scale.{finite}
use Rattle.std.proofs.lemmas.Iterator.{YieldsList-from_slice}
use Rattle.std.proofs.lemmas.Iterator.Consumers.{fold_from_yields_List}
use Rattle.std.proofs.lemmas.List.Folds.{list_all-map}
use Rattle.floats.proofs.Folded.{all-by-fold}
use Rattle.board_air.specs.Words.{row_in}
use Rattle.board_air.proofs.Reading.{finite-all}
use Rattle.board_air.proofs.accepted.row_ok.Goals as goal

pub returns : goal.returns
returns c =
    let a = c.args in
    let n : a.at + 360 - a.at ≡ 360 = omega arith in
    let words = take 360 (drop a.at a.air.now) in
    let test = λ (w : ℕ). finite (of_bits binary32 w) in
    fold_from_yields_List _ (λ ok w. ok && test w) true _ c.fold.ensures.ran (YieldsList-from_slice words (rw n at c.iter.ensures.rest)) (λ a x b q k. search (rules, tests))
    ∙ all-by-fold test true words
    ∙ sym (list_all-map finite (of_bits binary32) words)
    ∙ sym (finite-all (row_in a.air.now a.at))
