use Rattle.std.proofs.Common.{◌∙◌, refl}
use Rattle.running.specs.Counts.{cut_value_count, row_count, row_value_count}
use Rattle.historian.specs.Entries.{answer_number}
use Rattle.historian.proofs.RunEntryLaws.{counted, cuts-go, rows-go, told-in, refused-in}
use Rattle.historian.proofs.run_in.Goals as goal

pub cut_values-requires : goal.cut_values-requires
cut_values-requires c =
    let g = c.args in
    counted g.sheet.now g.room g.cut_list.now g.row_list.now g.cuts.now g.rows.now c.told-cut_list c.told-row_list c.min-m.ensures c.min-n.ensures c.in-Ok.ensures

pub put_values-requires : goal.put_values-requires
put_values-requires c =
    let g = c.args in
    cuts-go g.sheet.now g.room g.cut_list.now g.row_list.now g.cuts.now g.rows.now c.told-cut_list c.told-row_list c.min-m.ensures c.min-n.ensures c.in-Ok.ensures c.cut_values.ensures

pub row_values-requires : goal.row_values-requires
row_values-requires c =
    let g = c.args in
    counted g.sheet.now g.room g.cut_list.now g.row_list.now g.cuts.now g.rows.now c.told-cut_list c.told-row_list c.min-m.ensures c.min-n.ensures c.in-Ok.ensures

pub put_values-requires-in-Ok : goal.put_values-requires-in-Ok
put_values-requires-in-Ok c =
    let g = c.args in
    rows-go g.sheet.now g.room g.cut_list.now g.row_list.now g.cuts.now g.rows.now c.told-cut_list c.told-row_list c.min-m.ensures c.min-n.ensures c.in-Ok.ensures c.row_values.ensures

pub answer_number-requires : goal.answer_number-requires
answer_number-requires c =
    let g = c.args in
    counted g.sheet.now g.room g.cut_list.now g.row_list.now g.cuts.now g.rows.now c.told-cut_list c.told-row_list c.min-m.ensures c.min-n.ensures c.in-Ok.ensures

pub returns-in-Ok : goal.returns-in-Ok
returns-in-Ok c =
    let g = c.args in
    told-in g.sheet.now g.room g.cut_list.now g.row_list.now g.cuts.now g.rows.now c.told-cut_list c.told-row_list c.min-m.ensures c.min-n.ensures c.in-Ok.ensures
    c.cut_values.ensures c.row_values.ensures c.answer_number.ensures c.put_values.ensures c.put_values-in-Ok.ensures

pub returns-in-Err : goal.returns-in-Err
unfolding cut_value_count row_count row_value_count answer_number
returns-in-Err c =
    let g = c.args in
    refused-in g.sheet.now g.room g.cut_list.now g.row_list.now g.cuts.now g.rows.now c.told-cut_list c.told-row_list c.min-m.ensures c.min-n.ensures c.in-Err.ensures refl refl (c.from.ensures ∙ c.number.ensures)
