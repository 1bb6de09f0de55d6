use mathlib.Core.Path.{refl}
use Rattle.sheets.specs.Holding.{unused}
use Rattle.unpack.proofs.empty.Goals as goal

pub returns : goal.returns
unfolding unused
returns c = record { columns = refl; steps = refl; size = refl; start = refl; goal = refl; cost = refl; need = refl; effect = refl }
