-- `gains_over`, where set-up accepts: the gains' words stand behind the search's and fill the rest.
use mathlib.Core.Path.{◌≡◌, sym, ap, ◌∙◌}
use mathlib.Core.List.{List, ◌++◌}
use Prim.Native.Nat.{ℕ, ◌+◌, ◌/◌}
use native.Mathlib.Omega.{arith}
use borrow.Author.Rules.{rules}
use lib.ListN.{length, length-append}
use Rattle.packed.specs.Lists.{left}
use Rattle.antenna.specs.TableSum.{own_table}
use Rattle.antenna_laws.proofs.Answered.{own_after_set_up}
use Rattle.words.specs.Laid.{laid}
use Rattle.gains_calls.specs.Search.{search_words}
use Rattle.gains_calls.specs.Gains.{gains_to, gains_left}
use Rattle.words.proofs.Laid.{laid_more, laid-whole}
use Rattle.gains_calls.proofs.PairsOfWords.{gains_length}
use Rattle.gains_calls.proofs.SetUps.{four-words}
use Rattle.gains_calls.proofs.gains_over.Goals as goal

pub put_gains-requires : goal.put_gains-requires
put_gains-requires c =
    let s = c.in_ok-s in
    let own = own_after_set_up c.args.parm c.args.table.now (sym s.ensures.result_value) in
    (search rules, ap (own_table s.s.antenna) s.ensures.lent_after ∙ own)

filled : (out head gains : List ℕ) → length head ≡ 4 → length out ≡ 4 + length gains → laid (laid out 0 head) 4 gains ≡ head ++ gains
filled out head gains h e =
    laid_more out 0 4 head gains (omega arith) (omega arith) ∙ laid-whole out (head ++ gains) (rw length-append (omega arith))

pub returns : goal.returns
unfolding gains_left
returns c =
    let a = c.args in
    let s = c.in_ok-s in
    let ds = a.directions.now in
    let t = c.antinit2.new.lent in
    let words = search_words s.s.readings s.s.antenna.peak in
    let gains = gains_to s.s.antenna t a.giso ds (length ds / 2) in
    let n = gains_length s.s.antenna t a.giso ds (length ds / 2) in
    rw (c.put_gains.ensures, c.put_search.ensures, sym s.ensures.result_value, ← s.ensures.lent_after)
    (ap (left 0) (filled a.out.now words gains (four-words s.s.readings s.s.antenna.peak) (omega (arith, n, c.requires))))
