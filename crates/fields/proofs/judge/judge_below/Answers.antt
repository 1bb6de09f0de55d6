use Rattle.std.proofs.Common.{sym, ◌∙◌}
use Rattle.fields.proofs.ReadLaws.{end-judged}
use Rattle.fields.proofs.judge.judge_below.Goals as goal

pub returns-then-end-value-clause-judged : goal.returns-then-end-value-clause-judged
returns-then-end-value-clause-judged c = λ w f e. end-judged w f _ c.args.end (sym c.in_ok-value.ensures.ok_part ∙ e) c.if-end-value.true
