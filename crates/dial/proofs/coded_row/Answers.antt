-- `dial::coded_row` meets its contract: each kind is that of its code. Assumes nothing.
use Rattle.std.proofs.Common.{◌∙◌, arith, of_calls}
use Rattle.std.proofs.lemmas.List.{get_or-map}
use mathlib.Core.Path.{◌≡◌, sym}
use mathlib.Core.List.{map}
use Prim.Native.Nat.{ℕ, ◌<◌}
use lib.ListN.{get_or, length-map}
use lib.Seq.{ext_get_or}
use Rattle.answers.specs.declared.Kind.TheVariants as kind
use Rattle.dial.specs.Kinds.{coded}
use Rattle.dial.proofs.coded_row.Goals as goal

pub returns-clause-kinds : goal.returns-clause-kinds
returns-clause-kinds c =
    let codes = c.args.codes.now in
    let kinds = c.map.result in
    let items = c.map.ensures.items in
    let each : (k : ℕ) → k < 360 → get_or kinds k kind.Level ≡ coded (get_or codes k 0) = λ k l. let at = items.at k 0 kind.Level l in (search of_calls) in
    ext_get_or kind.Level kinds (map coded codes) (omega (arith, items.long, length-map codes coded))
    (λ k l. each k (omega (arith, items.long)) ∙ sym (get_or-map coded codes k 0 kind.Level (omega (arith, items.long))))
