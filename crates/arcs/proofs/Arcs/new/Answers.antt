use Prim.Native.Nat.{◌*◌}
use Rattle.task.specs.Sizes.{limits}
use Rattle.arcs.specs.Words.{words}
use Rattle.arcs.proofs.WordLaws.{met-zero, all-zero}
use Rattle.arcs.proofs.Arcs.new.Goals as goal

pub returns-clause-met : goal.returns-clause-met
returns-clause-met c = λ columns sets. met-zero _ _ _ _ _ (all-zero limits.columns) (all-zero (limits.columns * words))
