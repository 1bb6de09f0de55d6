use Rattle.std.proofs.Common.{refl, ap₂, ◌∙◌}
use Rattle.fields.proofs.RefusalLaws.{number-ne0, number-handed}
use Rattle.sheets.specs.ModelSheet.{model_bytes}
use Rattle.sheets.proofs.SheetLaws.{sheet-stopped, sheet-end}
use Rattle.sheets.proofs.judge_sheet.Goals as goal

pub returns-in_err-shape-clause-judged : goal.returns-in_err-shape-clause-judged
returns-in_err-shape-clause-judged c = number-handed _ _ c.from_residual.ensures.1 ∙ sheet-stopped c.args.s.now c.in_err-shape.ensures.judged (number-ne0 _)

pub returns-in_err-judge_end-clause-judged : goal.returns-in_err-judge_end-clause-judged
returns-in_err-judge_end-clause-judged c =
    let ok = c.in_ok-shape.ensures in
    number-handed _ _ c.from_residual-in_err-judge_end.ensures.1
    ∙ sheet-end c.args.s.now ok.judged refl (c.model_bytes.ensures ∙ ap₂ model_bytes ok.counts.0 ok.counts.1) c.in_err-judge_end.ensures

pub returns-clause-judged : goal.returns-clause-judged
returns-clause-judged c =
    let ok = c.in_ok-shape.ensures in
    sheet-end c.args.s.now ok.judged refl (c.model_bytes.ensures ∙ ap₂ model_bytes ok.counts.0 ok.counts.1) c.in_ok-judge_end.ensures
