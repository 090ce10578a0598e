-- `curtain::levels::levels` meets its contract.
use mathlib.Core.Path.{◌≡◌, sym, ap, ◌∙◌}
use lib.ListN.{take}
use Rattle.std.proofs.Common.{Ok, Err, rules}
use Rattle.curtain.specs.Levels.{left}
use Rattle.curtain.proofs.levels.Steps.{sizes, called}
use Rattle.curtain.proofs.levels.levels.Goals as goal

pub returns-in_err-levels : goal.returns-in_err-levels
unfolding left
returns-in_err-levels c =
    let factor = c.factor_of-factor in
    let refusal = c.in_err-levels.field-0.0 in
    let out : c.from_residual-in_err-levels.result ≡ Err refusal = search rules in
    rw out (sym (called _ _ _ _ factor.result (Err refusal) c.in_ok-check_station.ensures (sym c.space_ok.ensures ∙ c.if-not-space_ok.false) factor.ensures.value_value factor.ensures.readings_value c.in_err-levels.ensures))

pub returns : goal.returns
unfolding left
returns c =
    let factor = c.factor_of-factor in
    let levels = c.in_ok-levels.levels in
    let space = sym c.space_ok.ensures ∙ c.if-not-space_ok.false in
    let copied = c.copy_part.ensures ∙ ap (λ n. take n levels) (sizes _ _ space).1 in
    rw copied (sym (called _ _ _ _ factor.result (Ok levels) c.in_ok-check_station.ensures space factor.ensures.value_value factor.ensures.readings_value c.in_ok-levels.ensures))
