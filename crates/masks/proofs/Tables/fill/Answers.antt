use native.Mathlib.Omega.{arith}
use borrow.Author.Rules.{rules}
use Rattle.task.proofs.TableLaws.{columns-of, steps_of}
use Rattle.masks.proofs.FillLaws.{filled-tabled}
use Rattle.masks.proofs.Tables.fill.Goals as goal

pub invariant_of-self : goal.invariant_of-self
invariant_of-self c = record { within = (rw columns-of at c.requires.columns.1, rw steps_of at c.requires.steps) }

pub returns-clause-tabled : goal.returns-clause-tabled
returns-clause-tabled c = filled-tabled c.args.model.now c.args.self.now.rows (omega arith) c.requires (search rules)
