-- `field_of`, by the calls of its test. Assumes nothing.
use Rattle.std.proofs.Common.{rules}
use Rattle.fields.specs.Names.{FIELDS, is_named, field_of}
use Rattle.fields.proofs.Least.{least_is}
use Rattle.fields.proofs.names.field_of.Goals as goal

pub returns : goal.returns
unfolding field_of
returns c = least_is (is_named c.args.word.now) _ FIELDS _ (λ i b h p. search rules) c.least.ensures
