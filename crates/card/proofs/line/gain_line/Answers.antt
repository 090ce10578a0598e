-- `gain_line`, by the calls of its test. Assumes nothing.
use Prim.Native.Nat.{ℕ}
use Rattle.std.proofs.Common.{rules}
use Rattle.card.specs.Card.{card_of, word, line_at, line_with}
use Rattle.card.specs.Kind.{decides}
use Rattle.card.proofs.Walk.{first_line}
use Rattle.card.proofs.line.gain_line.Goals as goal

pub returns : goal.returns
unfolding line_with
returns c =
    let card = card_of c.args.text.now in
    first_line (λ (i : ℕ). decides c.args.iant (word (line_at card i) 0)) c.args.text.now _ _ (λ q b h p. search rules) c.find.ensures
