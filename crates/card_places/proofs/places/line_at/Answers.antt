-- `line_at`, by the calls of its test. Assumes nothing.
use mathlib.Core.Path.{sym, ap, ◌∙◌}
use Prim.Native.Nat.{ℕ}
use lib.Dec.{eqb}
use Rattle.std.proofs.Common.{rules}
use Rattle.card.specs.Card.{card_of, line_at}
use Rattle.card.specs.Inner.{IsFound}
use Rattle.card.proofs.Found.{no_words}
use Rattle.card.proofs.Walk.{first_line}
use Rattle.card_places.proofs.Numbered.{numbered}
use Rattle.card_places.proofs.places.line_at.Goals as goal

pub returns-then-n-eq0 : goal.returns-then-n-eq0
unfolding line_at
returns-then-n-eq0 c = rw c.if-n-eq0.true no_words

pub returns-in-Some : goal.returns-in-Some
unfolding IsFound
returns-in-Some c =
    let n = c.args.n in
    let line = first_line (λ (i : ℕ). eqb i n) c.args.text.now _ _ (λ q b h p. search rules) c.find.ensures in
    (rw c.in-Some.is at line).1.words ∙ numbered (card_of c.args.text.now) n

pub returns-in-None : goal.returns-in-None
unfolding IsFound line_at
returns-in-None c =
    let n = c.args.n in
    let card = card_of c.args.text.now in
    let line = first_line (λ (i : ℕ). eqb i n) c.args.text.now _ _ (λ q b h p. search rules) c.find.ensures in
    no_words ∙ ap (line_at card) (sym (rw c.in-None.is at line)) ∙ numbered card n
