use native.Mathlib.Omega.{arith}
use Rattle.refining.proofs.RefineLaws.{growing-none, growing-more, flaw-cuttable, run-full, run-early, no-flaw}
use Rattle.refining.proofs.refine.Goals as goal

pub loop-made-init : goal.loop-made-init
loop-made-init c = growing-none c.requires.few c.requires.room

pub returns-in_default : goal.returns-in_default
returns-in_default c =
    let p = c.requires in
    let e = c.look-seen.ensures in
    run-early p.few p.room c.loop-made.invariant _ _ e.looked e.known c.end.ensures (omega (arith, c.loop-made-test.true)) (no-flaw _ _ (λ n d f. absurd (c.in_default.not-Flaw n d f)))

pub start_block-from-requires : goal.start_block-from-requires
start_block-from-requires c =
    let p = c.requires in
    let r = p.first in
    let f = flaw-cuttable p.few p.room c.loop-made.invariant _ _ c.look-seen.ensures.looked c.in-Flaw.is c.loop-made-test.true r.task r.tabled r.parted in
    (omega (arith, f.there, f.wide), omega (arith, f.room))

pub make_cut-requires : goal.make_cut-requires
make_cut-requires c =
    let p = c.requires in
    let r = p.first in
    flaw-cuttable p.few p.room c.loop-made.invariant _ _ c.look-seen.ensures.looked c.in-Flaw.is c.loop-made-test.true r.task r.tabled r.parted

pub loop-made-preserved : goal.loop-made-preserved
loop-made-preserved c =
    let p = c.requires in
    growing-more p.few p.room c.loop-made.invariant _ _ c.look-seen.ensures.looked c.in-Flaw.is c.loop-made-test.true c.put_cut.ensures
    c.make_cut.ensures.one_more c.make_cut.ensures.made c.start_block-from.ensures

pub returns : goal.returns
returns c =
    let p = c.requires in
    run-full p.few p.room c.loop-made.invariant _ _ c.look.ensures.looked c.look.ensures.known c.end-2.ensures (omega arith)
