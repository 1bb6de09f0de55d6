use Rattle.std.proofs.Common.{sym, ◌∙◌, inl, inr}
use Rattle.fields.proofs.ReadLaws.{low-judged, high-judged, inside-judged}
use Rattle.fields.proofs.judge.judge_within.Goals as goal

pub returns-then-value-low-clause-judged : goal.returns-then-value-low-clause-judged
returns-then-value-low-clause-judged c =
    λ w f e. let there = sym c.in_ok-value.ensures.ok_part ∙ e in
    elim c.then-value-low.either [
      | inl low ↦ low-judged w f _ c.args.low c.args.high there low
      | inr high ↦ high-judged w f _ c.args.low c.args.high there high.1
    ]

pub returns-clause-judged : goal.returns-clause-judged
returns-clause-judged c =
    λ w f e. inside-judged w f _ c.args.low c.args.high (sym c.in_ok-value.ensures.ok_part ∙ e) c.if-value-low.false c.if-high-value.false
