use mathlib.Core.Path.{refl}
use Rattle.refining.specs.Refining.{seen_by}
use Rattle.refining.proofs.see.Goals as goal

pub returns-in-Ok : goal.returns-in-Ok
unfolding seen_by
returns-in-Ok c = rw c.in-Ok.is refl

pub returns-in-Err : goal.returns-in-Err
unfolding seen_by
returns-in-Err c = rw c.in-Err.is refl
