use Rattle.sheets.specs.LentTables.{of_tables}
use Rattle.writing.proofs.WritingLaws.{parts-put}
use Rattle.writing.proofs.put.put_sheet.Goals as goal

pub returns : goal.returns
unfolding of_tables
returns c =
    let t = c.args.tables.now in
    parts-put t.shape.columns t.shape.steps t.frame.now t.costs.now t.marks.now c.args.out.now
    c.put_header.ensures c.put_columns.ensures c.put_steps.ensures c.model_bits-bits.ensures.0 (rw c.fill_bits.ensures at c.put_field.ensures)
