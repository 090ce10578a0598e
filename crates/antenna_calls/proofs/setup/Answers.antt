-- `setup`, where set-up refuses and where it accepts.
use mathlib.Core.Path.{◌≡◌, refl, sym, ap, ◌∙◌}
use mathlib.Core.Bool.{Bool, true, false, not, ◌||◌, false≢true}
use mathlib.Core.List.{List}
use native.Mathlib.Omega.{arith}
use borrow.Author.Tests.{eq-eqb, eqb-true}
use borrow.Author.Rules.{rules}
use lib.ListN.{length}
use lib.Ieee.{Float}
use Rattle.antenna.specs.SetUp.{set_up_of, beside_of}
use Rattle.antenna_words.proofs.SetUpWords.{set_up_counts}
use Rattle.words.proofs.Laid.{laid-whole}
use Rattle.gains_calls.specs.Search.{search_words}
use Rattle.antenna_calls.specs.Antennas.{recorded, set_up_call}
use Rattle.gains_calls.proofs.SetUps.{four-words}
use Rattle.antenna_calls.proofs.setup.Goals as goal

neither : (x y : Bool) → (not x || not y) ≡ false → (x ≡ true) × (y ≡ true)
neither true true h = (refl, refl)
neither true false h = absurd (false≢true (sym h))
neither false y h = absurd (false≢true (sym h))

pub returns-in-Ok-antinit2-clause-out_after : goal.returns-in-Ok-antinit2-clause-out_after
unfolding set_up_call recorded
returns-in-Ok-antinit2-clause-out_after c =
    let a = c.args in
    let s = c.in-Ok-antinit2 in
    let e : c.in-Ok.parm ≡ a.parm.now = search rules in
    let twenty : length a.parm.now ≡ 20 = search rules in
    let sizes = neither _ _ c.if-antenna-out.false in
    let words = search_words s.s.readings s.s.antenna.peak in
    let w = laid-whole a.out.now words (omega (arith, four-words s.s.readings s.s.antenna.peak, eqb-true _ _ sizes.1)) in
    rw (eq-eqb _ _ twenty, sizes.0, sizes.1, ← e, ← s.ensures.lent_after, sym s.ensures.result_value, c.put_antenna.ensures.out_after, c.put_search.ensures, w)

pub returns-in-Ok-antinit2-clause-antenna_after : goal.returns-in-Ok-antinit2-clause-antenna_after
returns-in-Ok-antinit2-clause-antenna_after c =
    let s = c.in-Ok-antinit2 in
    let size = length c.args.table.now in
    let e : c.in-Ok.parm ≡ c.args.parm.now = search rules in
    let h = sym s.ensures.result_value in
    λ z. c.put_antenna.ensures.out_after_2 (set_up_counts c.in-Ok.parm size h) ∙ s.ensures.antenna_value ∙ ap (λ (q : List Float). beside_of (set_up_of q size)) e
