use mathlib.Core.Path.{◌≡◌, refl}
use native.Mathlib.Omega.{arith}
use Rattle.arcs.specs.Words.{word, word_of, bits_below}
use Rattle.arcs.proofs.WordLaws.{made-more, made-low}
use Rattle.arcs.proofs.word_where.Goals as goal

pub loop-i-init : goal.loop-i-init
unfolding bits_below
loop-i-init g c = record { low = omega arith; bits = λ passes told. refl }

pub loop-i-preserved : goal.loop-i-preserved
loop-i-preserved g c = record {
  low = made-low _ _ _ _ c.loop-i.invariant.low c.bit_if-v.ensures;
  bits = λ passes told. made-more _ _ _ _ _ _ (c.loop-i.invariant.bits passes told) (told _ _ (omega arith) c.test.ensures) c.bit_if-v.ensures;
}

pub returns : goal.returns
unfolding word_of
returns g c = λ passes told. let e : c.loop-i.i ≡ word = omega arith in rw e at (c.loop-i.invariant.bits passes told)
