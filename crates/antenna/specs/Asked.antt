-- Document 01, "Answers", and document 02, card 9: why gain and row refuse before any number is computed. Definitions only.
use Rattle.std.specs.Prelude.{ℕ, cond, not, ◌||◌, nat_lt}
use Rattle.answers.specs.Refusals.{VALUE, TYPE, COUNT, AIM, SPACE, TABLE}
use Rattle.model.specs.Counts.{counts_ok}
use Rattle.model.specs.Table.{table_size}
use Rattle.model.specs.Types.{type_ok}
use Rattle.model.specs.declared.record.Model.{Model}
use Rattle.antenna.specs.declared.asked.Asked.{Asked}

-- the first number, 0 where there is none: of what was asked, of the antenna record, and of its table of size floats
unfoldable pub asked_refusal : Model → ℕ → Asked → ℕ
asked_refusal m size q =
    cond (not q.values) VALUE
    (cond (not (type_ok m.iant)) TYPE
    (cond (not (counts_ok m)) COUNT
    (cond (not q.aim) AIM
    (cond (nat_lt size table_size || not q.space) SPACE
    (cond (not q.own) TABLE 0)))))
