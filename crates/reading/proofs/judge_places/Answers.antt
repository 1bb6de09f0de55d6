use Rattle.std.proofs.Common.{arith}
use borrow.Author.Tests.{lt-ltb, le-ltb}
use Rattle.fields.proofs.JudgingLaws.{applies, passes, no-checks}
use Rattle.reading.proofs.judge_places.Goals.{then-frame-shape-via-then-frame-shape, then-frame-shape-via-else-frame-shape+then-costs-shape, then-frame-shape-via-else-frame-shape+else-costs-shape+then-marks-shape}
use Rattle.reading.proofs.judge_places.Goals as goal

pub returns-then-frame-shape : goal.returns-then-frame-shape
returns-then-frame-shape c =
    elim c.then-frame-shape.branch [
      | then-frame-shape-via-then-frame-shape w ↦ applies 8 _ _ (lt-ltb _ _ w.if-frame-shape.true) (omega arith)
      | then-frame-shape-via-else-frame-shape+then-costs-shape w ↦ passes 8 _ _ (le-ltb _ _ w.if-frame-shape.false) (applies 8 _ _ (lt-ltb _ _ w.if-costs-shape.true) (omega arith))
      | then-frame-shape-via-else-frame-shape+else-costs-shape+then-marks-shape w ↦
          passes 8 _ _ (le-ltb _ _ w.if-frame-shape.false) (passes 8 _ _ (le-ltb _ _ w.if-costs-shape.false) (applies 8 _ _ (lt-ltb _ _ w.if-marks-shape.true) (omega arith)))
    ]

pub returns : goal.returns
returns c =
    passes 8 _ _ (le-ltb _ _ c.if-frame-shape.false)
    (passes 8 _ _ (le-ltb _ _ c.if-costs-shape.false) (passes 8 _ _ (le-ltb _ _ c.if-marks-shape.false) no-checks))
