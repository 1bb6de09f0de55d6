use mathlib.Core.Path.{refl}
use Rattle.refining.specs.Refining.{end_by}
use Rattle.refining.proofs.Seen.end.Goals as goal

pub returns-in-Hopeless : goal.returns-in-Hopeless
unfolding end_by
returns-in-Hopeless c = rw c.in-Hopeless.is refl

pub returns-in-Planned : goal.returns-in-Planned
unfolding end_by
returns-in-Planned c = rw c.in-Planned.is refl

pub returns-in-Flaw : goal.returns-in-Flaw
unfolding end_by
returns-in-Flaw c = rw c.in-Flaw.is refl
