-- `first_bad`, by the calls of its test. Assumes nothing.
use borrow.Author.Tests.{eq-eqb, ne_eqb}
use Rattle.std.proofs.Common.{rules}
use Rattle.lines.specs.Words.{words_of}
use Rattle.card.specs.Mistakes.{is_bad, first_bad}
use Rattle.fields.proofs.Least.{least_is}
use Rattle.card.proofs.checks.first_bad.Goals as goal

pub returns-then-k-eq0 : goal.returns-then-k-eq0
unfolding first_bad
returns-then-k-eq0 c = rw (← c.number_count.ensures, ← least_is (is_bad c.args.kind (words_of c.args.line.now)) _ _ _ (λ i b h p. search rules) c.least-k.ensures, eq-eqb _ 0 c.if-k-eq0.true)

pub returns-else-k-eq0 : goal.returns-else-k-eq0
unfolding first_bad
returns-else-k-eq0 c = rw (← c.number_count.ensures, ← least_is (is_bad c.args.kind (words_of c.args.line.now)) _ _ _ (λ i b h p. search rules) c.least-k.ensures, ne_eqb _ 0 c.if-k-eq0.false)
