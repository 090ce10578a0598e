-- `row_of`, by the calls of its test. Assumes nothing.
use Rattle.std.proofs.Common.{rules}
use Rattle.fields.specs.Table.{LAST, is_row_of, row_of}
use Rattle.fields.proofs.Least.{least_is}
use Rattle.fields.proofs.table.row_of.Goals as goal

pub returns : goal.returns
unfolding row_of
returns c = (least_is (is_row_of c.args.kind c.args.f) _ LAST _ (λ i b h p. search rules) c.least.ensures, c.least.ensures.within)
