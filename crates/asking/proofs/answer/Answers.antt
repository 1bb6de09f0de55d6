use Rattle.asking.proofs.QuestionLaws.{column-small, measured, answered}
use Rattle.asking.proofs.AnswerLaws.{few-states, byte_fits}
use Rattle.task.specs.Sizes.{limits, most_values}
use lib.ListN.{replicate}
use native.Mathlib.Omega.{arith}
use Rattle.asking.specs.Question.{states_in}
use borrow.Author.Rules.{rules}
use Rattle.asking.proofs.answer.Goals as goal

pub fill_estimates-requires : goal.fill_estimates-requires
unfolding states_in
fill_estimates-requires c =
    let g = c.args in
    let a = c.requires in
    let t = a.task in
    let q = a.posed in
    let w = q.tabled.own.wide in
    let v = q.tabled.task in
    let m = c.measure-count.ensures in
    let h = m.counted.1 in (
      measured t w v g.part.now g.blocks.now q.fine q.made m.counted.0 h (replicate most_values 0) (search (rules, h)) m.listed (replicate limits.blocks 0)
          (m.measured t q.tabled.own),
      record {
        some = omega (arith, v.columns.0, w);
        wide = omega (arith, v.columns.1, w);
        few = rw w at (few-states t g.states.now q.good);
        room = rw w at a.room;
        there = column-small t w v g.part.now g.blocks.now q.fine q.made m.counted.0 h (replicate most_values 0) (search (rules, h)) m.listed;
        small = byte_fits t g.states.now q.good v;
      },
    )

pub returns : goal.returns
returns c t q =
    let g = c.args in
    let m = c.measure-count.ensures in
    let h = m.counted.1 in
    answered t q.tabled.own.wide q.tabled.task g.part.now g.blocks.now q.fine q.made m.counted.0 h (replicate most_values 0)
    (search (rules, h)) m.listed
    (replicate limits.blocks 0) (m.measured t q.tabled.own) g.states.now g.estimates.now q.good
    c.fill_estimates.ensures
