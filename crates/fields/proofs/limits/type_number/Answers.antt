-- `type_number`, by the calls of its test. Assumes nothing.
use Rattle.std.proofs.Common.{rules}
use Rattle.fields.specs.Limits.{is_count, type_number}
use Rattle.fields.proofs.Least.{least_is}
use Rattle.fields.proofs.limits.type_number.Goals as goal

pub returns : goal.returns
unfolding type_number
returns c = least_is (is_count c.args.x) _ 9 _ (λ i b h p. search rules) c.least.ensures
