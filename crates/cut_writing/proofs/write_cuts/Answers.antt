use native.Mathlib.Omega.{arith}
use mathlib.Core.Path.{refl, ap}
use borrow.Author.Rules.{rules}
use mathlib.Core.List.{List, ◌++◌}
use Prim.Native.Nat.{ℕ}
use lib.ListN.{length, drop}
use Rattle.std.proofs.lemmas.Result.{err_from_is_err_and}
use Rattle.fields.proofs.RefusalLaws.{number-ne0}
use Rattle.sheets.specs.Holding.{task_on}
use Rattle.cut_sheets.proofs.CutPartLaws.{largest-part}
use Rattle.cut_writing.proofs.CutWritingLaws.{places-given, given-refused, room-refused, put_written}
use Rattle.cut_writing.proofs.write_cuts.Goals as goal

pub returns-in_err-judge_given : goal.returns-in_err-judge_given
returns-in_err-judge_given c =
    let g = c.args in
    let p = err_from_is_err_and c.from_residual.result c.from_residual.ensures.1 in
    rw (p.1, p.2) (given-refused g.model.now g.count g.cuts.now g.sheet.now c.in_err-judge_given.ensures (number-ne0 _))

pub cut_bytes-requires : goal.cut_bytes-requires
cut_bytes-requires c = (places-given c.args.model.now c.args.count c.args.cuts.now c.in_ok-judge_given.ensures).0

pub overflow_add-end : goal.overflow_add-end
overflow_add-end c =
    let q = c.cut_bytes.ensures in
    let n = (places-given c.args.model.now c.args.count c.args.cuts.now c.in_ok-judge_given.ensures).0 in
    let k = largest-part c.args.count (omega arith) in
    omega (arith, q, k)

pub returns-then-sheet-end : goal.returns-then-sheet-end
returns-then-sheet-end c =
    let g = c.args in
    let q = c.cut_bytes.ensures in
    room-refused g.model.now g.count g.cuts.now g.sheet.now c.in_ok-judge_given.ensures (omega (arith, q))

pub put_cut_part-requires-clause-few : goal.put_cut_part-requires-clause-few
put_cut_part-requires-clause-few c = (places-given c.args.model.now c.args.count c.args.cuts.now c.in_ok-judge_given.ensures).0

pub put_cut_part-requires-clause-places : goal.put_cut_part-requires-clause-places
put_cut_part-requires-clause-places c = (places-given c.args.model.now c.args.count c.args.cuts.now c.in_ok-judge_given.ensures).1

pub returns : goal.returns
returns c =
    let g = c.args in
    let q = c.cut_bytes.ensures in
    put_written g.model.now g.count g.cuts.now g.sheet.now c.in_ok-judge_given.ensures (λ i. search rules) (omega (arith, q))
    (λ i h. search rules) (omega (arith, q))
    (ap (λ (l : List ℕ). l ++ drop (length g.model.now) g.sheet.now) c.copy_from_slice.ensures.after) (c.put_cut_part.ensures (task_on g.model.now)) refl
