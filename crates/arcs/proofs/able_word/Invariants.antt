use mathlib.Core.Path.{◌≡◌}
use Rattle.arcs.specs.Arcs.{fits_in}
use Rattle.arcs.specs.Words.{word_of}
use Rattle.arcs.proofs.able_word.Given as goal

abbrev pub invariant-loop-j : goal.invariant-loop-j
invariant-loop-j l = l.v ≡ word_of (fits_in l.j l.tables.rows l.blocks.sets l.s) l.w
