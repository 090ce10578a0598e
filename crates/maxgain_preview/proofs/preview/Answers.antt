-- `maxgain_preview::preview` meets its contract: by the law of the preview.
use mathlib.Core.Path.{◌≡◌, sym, ap, ◌∙◌}
use borrow.Author.Rules.{rules}
use lib.ListN.{length}
use Rattle.std.proofs.Common.{Err}
use Rattle.answers.specs.Outcome.{accepted}
use Rattle.maxgain_preview.specs.PreviewLaw.{Given}
use Rattle.maxgain_preview.proofs.PreviewLaw.{preview_law, from-call}
use Rattle.maxgain_preview.proofs.preview.Goals as goal
use Rattle.maxgain_preview.proofs.preview.Goals.{Start}

twenty : (c : Start) → length c.args.s.parm ≡ 20
twenty c = search rules

abbrev given : Start → Given
given c =
    let s = c.args.s in
    record { mode = s.mode; parm = s.parm; twenty = twenty c; gainmax = s.gainmax; gainmaxb = s.gainmaxb; mhz = c.args.mhz; design = c.args.design }

pub returns-in_err-found : goal.returns-in_err-found
returns-in_err-found c =
    let out : c.from_residual.result ≡ Err c.in_err-found.field-0.0 = search rules in
    rw out (sym ((preview_law.refused_both (given (goal.at.returns-in_err-found c).Start) _).1 (sym c.in_err-found.ensures)))

pub returns : goal.returns
returns c =
    ap accepted c.marked.ensures ∙ sym (from-call (given (goal.at.returns c).Start) (sym c.in_ok-found.ensures))
