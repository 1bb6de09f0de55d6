use Rattle.std.proofs.Common.{rules, refl, ◌∙◌, arith}
use Rattle.fields.specs.Judging.{given}
use Rattle.fields.proofs.ReadLaws.{read_here}
use Rattle.fields.proofs.RefusalLaws.{handed_on, number-ne0}
use Rattle.sheets.specs.LentTables.{of_tables}
use Rattle.writing.proofs.WritingLaws.{given-header, given-body, same-given, fields-refused, room-refused, put_written}
use Rattle.writing.proofs.write.write_model.Goals as goal

pub returns-in_err-shape : goal.returns-in_err-shape
returns-in_err-shape c =
    let a = c.args in
    let header = c.in_err-shape.ensures.judged (given 1) (given a.columns) (given a.steps) (read_here _ refl) (read_here _ refl) (read_here _ refl) in
    rw (handed_on _ c.from_residual.ensures.1)
    (fields-refused (of_tables a.columns a.steps a.frame.now a.costs.now a.marks.now) a.sheet.now
    (given-header a.columns a.steps a.frame.now a.costs.now a.marks.now header (number-ne0 _)) (number-ne0 _))

pub returns-in_err-judge_body : goal.returns-in_err-judge_body
returns-in_err-judge_body c =
    let a = c.args in
    let n = c.in_ok-shape.shape.columns in
    let m = c.in_ok-shape.shape.steps in
    let counts = c.in_ok-shape.ensures.counts in
    let header = c.in_ok-shape.ensures.judged (given 1) (given n) (given m) (read_here _ refl) (counts.0 ∙ read_here _ refl) (counts.1 ∙ read_here _ refl) in
    rw (handed_on _ c.from_residual-in_err-judge_body.ensures.1)
    (fields-refused (of_tables n m a.frame.now a.costs.now a.marks.now) a.sheet.now
    (given-body n m a.frame.now a.costs.now a.marks.now header c.in_err-judge_body.ensures) (number-ne0 _)
    ∙ same-given a.frame.now a.costs.now a.marks.now a.sheet.now counts.0 counts.1)

pub returns-then-sheet-bytes : goal.returns-then-sheet-bytes
unfolding of_tables
returns-then-sheet-bytes c =
    let a = c.args in
    let n = c.in_ok-shape.shape.columns in
    let m = c.in_ok-shape.shape.steps in
    let counts = c.in_ok-shape.ensures.counts in
    let header = c.in_ok-shape.ensures.judged (given 1) (given n) (given m) (read_here _ refl) (counts.0 ∙ read_here _ refl) (counts.1 ∙ read_here _ refl) in
    room-refused (of_tables n m a.frame.now a.costs.now a.marks.now) a.sheet.now
    (given-body n m a.frame.now a.costs.now a.marks.now header c.in_ok-judge_body.ensures) refl (omega (arith, c.model_bytes-bytes.ensures))
    ∙ same-given a.frame.now a.costs.now a.marks.now a.sheet.now counts.0 counts.1

pub returns : goal.returns
unfolding of_tables
returns c =
    let a = c.args in
    let n = c.in_ok-shape.shape.columns in
    let m = c.in_ok-shape.shape.steps in
    let counts = c.in_ok-shape.ensures.counts in
    let header = c.in_ok-shape.ensures.judged (given 1) (given n) (given m) (read_here _ refl) (counts.0 ∙ read_here _ refl) (counts.1 ∙ read_here _ refl) in
    put_written (of_tables n m a.frame.now a.costs.now a.marks.now) a.sheet.now
    (given-body n m a.frame.now a.costs.now a.marks.now header c.in_ok-judge_body.ensures) refl
    (λ j l. omega (arith, c.type_inv.costs j)) (search rules) c.model_bytes-bytes.ensures
    (omega (arith, c.model_bytes-bytes.ensures, c.if-sheet-bytes.false)) c.put_sheet.ensures
    ∙ same-given a.frame.now a.costs.now a.marks.now a.sheet.now counts.0 counts.1
