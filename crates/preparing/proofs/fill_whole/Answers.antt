use native.Mathlib.Omega.{arith}
use mathlib.Core.Path.{◌≡◌, sym, ap, ◌∙◌}
use Rattle.fields.proofs.FieldLaws.{read_at}
use Rattle.task.proofs.LoopLaws.{over_none, over-set}
use Rattle.blocks.specs.Blocks.{every}
use Rattle.sheets.specs.ModelSheet.{columns_of}
use Rattle.unpack.specs.Unpacking.{size_on}
use Rattle.preparing.proofs.WholeLaws.{whole_on, whole-on, columns-small, size_small}
use borrow.Author.Rules.{rules}
use Rattle.preparing.proofs.fill_whole.Goals as goal

pub loop-j-init : goal.loop-j-init
loop-j-init c = let p = c.requires in (columns-small c.args.model.now p.1 p.0, sym (over_none _ _))

pub overflow_cast-size : goal.overflow_cast-size
unfolding size_on
overflow_cast-size c =
    let l = c.loop-j in
    let m = c.args.model.now in
    let h = size_small m c.requires.1 c.requires.0 l.j c.loop-j-test.true (read_at m 6 c.column_bits.ensures.0 c.field-size.ensures) in
    search (rules, h)

pub every_position-requires : goal.every_position-requires
unfolding size_on
every_position-requires c =
    let l = c.loop-j in
    let m = c.args.model.now in
    size_small m c.requires.1 c.requires.0 l.j c.loop-j-test.true (read_at m 6 c.column_bits.ensures.0 c.field-size.ensures)

pub loop-j-preserved : goal.loop-j-preserved
unfolding whole_on size_on
loop-j-preserved c =
    let l = c.loop-j in
    let g = c.args in
    let t = c.loop-j-test.true in
    let e = read_at g.model.now 6 c.column_bits.ensures.0 c.field-size.ensures in
    (l.invariant.0, over-set (whole_on g.model.now) l.j _ l.blocks.sets g.blocks.now.sets l.invariant.1 (omega (arith, t)) (c.every_position.ensures ∙ ap every e))

pub returns-clause-every : goal.returns-clause-every
returns-clause-every c =
    let l = c.loop-j in
    let g = c.args in
    let e : l.j ≡ columns_of g.model.now = omega (arith, c.requires.1) in
    rw (← whole-on g.model.now) (rw e at l.invariant.1)
