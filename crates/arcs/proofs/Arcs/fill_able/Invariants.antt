use mathlib.Core.Path.{◌≡◌}
use Rattle.arcs.specs.Words.{Able}
use Rattle.arcs.proofs.Arcs.fill_able.Given as goal

abbrev pub invariant-loop-w : goal.invariant-loop-w
invariant-loop-w l = record {
  able : Able l.tables.shape.columns l.tables.shape.steps l.tables.rows l.blocks.sets l.w l.self.able;
  rest : (l.self.used ≡ l.initial.self.used) × (l.self.meets ≡ l.initial.self.meets) × (l.self.held ≡ l.initial.self.held)
      × (l.self.left ≡ l.initial.self.left) × (l.self.narrow ≡ l.initial.self.narrow) × (l.self.few ≡ l.initial.self.few);
}
