-- Each flaw that a run meets before its room is full brings exactly one cut.
use Rattle.task.specs.Task.{Task}
use Rattle.run.specs.Run.{Outcome}
use Prim.Native.Nat.{ℕ}
use Rattle.run.proofs.RunLaws.{RunRight}
use Rattle.run_laws.proofs.Flaws.{OnePerFlaw, cut_at, full, brings}

module _ (t : Task) (room : ℕ) (o : Outcome) (r : RunRight t room o) where
  pub one-per-flaw : OnePerFlaw t room o.made
  one-per-flaw = record { of-flaw = cut_at t r.ruled; brought = brings t room o r; last-full = full t room o r }
