-- `filter`: what the text's maker promises of its length.
use Rattle.std.proofs.Common.{arith, ℕ}
use Rattle.std.proofs.lemmas.List.{length-replicate}
use Rattle.standard_input.proofs.filter.filter.Goals as goal

pub shared_whole_as_front-write_all : goal.shared_whole_as_front-write_all
shared_whole_as_front-write_all g c = (omega (arith, c.requires.within _ _ _ _ c.text_of-end.ensures, c.text_of-end.auto.arg3, length-replicate {A = ℕ}), omega arith)
