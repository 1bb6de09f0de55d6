use native.Mathlib.Omega.{arith}
use mathlib.Core.Path.{refl}
use Rattle.fields.proofs.JudgingLaws.{none}
use Rattle.fields.proofs.RefusalLaws.{number-ne0}
use Rattle.std.proofs.lemmas.Result.{err_from_is_err_and}
use Rattle.cut_sheets.specs.CutPart.{cut_part}
use Rattle.cut_sheets.proofs.JudgeLaws.{first-made, going-unread, going-untaken, going_on, going_end, cuttable}
use Rattle.cut_sheets.proofs.judge_cuts.Goals as goal

pub loop-i-init : goal.loop-i-init
loop-i-init g c =
    let f = g.C.Cuts.fields c.args.cuts.now in
    let b = c.args.blocks.now in
    record {
      counted = refl;
      going = λ t e m. record { passed = none (cut_part t f); made = first-made t f c.args.columns b.count b.sets m };
    }

pub returns-in_err-cut : goal.returns-in_err-cut
returns-in_err-cut g c =
    let a = c.args in
    let l = c.loop-i in
    let p = err_from_is_err_and c.from_residual.result c.from_residual.ensures.1 in
    λ t e m. rw (p.1, p.2)
    (going-unread t (g.C.Cuts.fields a.cuts.now) a.columns l.i l.blocks e c.requires.wide c.loop-i-test.true c.requires.few (number-ne0 _) (l.invariant.going t e m) c.in_err-cut.ensures)

pub returns-then-not-takes_cut : goal.returns-then-not-takes_cut
returns-then-not-takes_cut g c =
    let a = c.args in
    let l = c.loop-i in
    λ t e m. going-untaken t (g.C.Cuts.fields a.cuts.now) a.columns l.i l.blocks e c.in_ok-cut.ensures c.takes_cut.ensures (l.invariant.going t e m) c.loop-i-test.true c.if-not-takes_cut.true

pub make_cut-requires : goal.make_cut-requires
make_cut-requires g c =
    let l = c.loop-i in
    cuttable c.args.columns l.blocks c.in_ok-cut.cut c.requires.wide (omega (arith, c.requires.few)) c.takes_cut.ensures c.if-not-takes_cut.false

pub loop-i-preserved : goal.loop-i-preserved
loop-i-preserved g c =
    let a = c.args in
    let l = c.loop-i in
    record {
      counted = omega arith;
      going = λ t e m.
          going_on t (g.C.Cuts.fields a.cuts.now) a.columns l.i l.blocks e c.in_ok-cut.ensures c.takes_cut.ensures (l.invariant.going t e m) c.if-not-takes_cut.false c.make_cut.ensures.made;
    }

pub returns : goal.returns
returns g c =
    let a = c.args in
    let l = c.loop-i in
    λ t e m. going_end t (g.C.Cuts.fields a.cuts.now) a.columns l.i a.count l.blocks (omega arith) (omega arith) (l.invariant.going t e m)
