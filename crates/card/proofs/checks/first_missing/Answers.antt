-- `first_missing`, by the calls of its test. Assumes nothing.
use borrow.Author.Tests.{eq-eqb, ne_eqb}
use Rattle.std.proofs.Common.{rules}
use Rattle.fields.specs.Names.{FIELDS}
use Rattle.card.specs.Card.{card_of}
use Rattle.card.specs.Mistakes.{is_missing, first_missing}
use Rattle.fields.proofs.Least.{least_is}
use Rattle.card.proofs.checks.first_missing.Goals as goal

pub returns-then-f-eq0 : goal.returns-then-f-eq0
unfolding first_missing
returns-then-f-eq0 c = rw (← least_is (is_missing c.args.kind (card_of c.args.text.now)) _ FIELDS _ (λ i b h p. search rules) c.least-f.ensures, eq-eqb _ 0 c.if-f-eq0.true)

pub returns-else-f-eq0 : goal.returns-else-f-eq0
unfolding first_missing
returns-else-f-eq0 c = rw (← least_is (is_missing c.args.kind (card_of c.args.text.now)) _ FIELDS _ (λ i b h p. search rules) c.least-f.ensures, ne_eqb _ 0 c.if-f-eq0.false)
