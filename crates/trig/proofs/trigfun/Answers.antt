-- `trig::trigfun` meets its contract.
use Rattle.std.proofs.Common.{◌≡◌, rules, of_calls}
use Rattle.floats.proofs.Filled.{filled_from}
use Rattle.trig.specs.Trig.{trig_tables, sines_to, cosines_to}
use Rattle.trig.proofs.trigfun.Goals as goal

pub returns : goal.returns
unfolding trig_tables
returns c =
    let a : c.from_fn-a.result ≡ sines_to 91 = filled_from c.from_fn-a.ensures.items (search of_calls) (search of_calls) in
    let b : c.from_fn-b.result ≡ cosines_to 91 = filled_from c.from_fn-b.ensures.items (search of_calls) (search of_calls) in
    search (rules, a, b)
