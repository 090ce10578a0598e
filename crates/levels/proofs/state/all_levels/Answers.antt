-- `all_levels` looks at each word.
use Rattle.std.proofs.Common.{true, ◌&&◌, ◌∙◌, rules, tests}
use Rattle.std.proofs.lemmas.Iterator.{YieldsList-from_slice}
use Rattle.std.proofs.lemmas.Iterator.Consumers.{fold_from_yields_List}
use Rattle.floats.proofs.Folded.{all-by-fold}
use Rattle.levels.specs.State.{is_level}
use Rattle.levels.proofs.state.all_levels.Goals as goal

pub returns : goal.returns
returns c =
    let words = c.args.words.now in
    fold_from_yields_List _ (λ ok w. ok && is_level w) true _ c.fold.ensures.ran (YieldsList-from_slice words cc) (λ a x b q k. search (rules, tests)) ∙ all-by-fold is_level true words
