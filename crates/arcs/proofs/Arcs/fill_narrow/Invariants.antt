use mathlib.Core.Path.{◌≡◌}
use Rattle.arcs.specs.Words.{Narrow}
use Rattle.arcs.proofs.Arcs.fill_narrow.Given as goal

abbrev pub invariant-loop-j : goal.invariant-loop-j
invariant-loop-j l = record {
  narrow : Narrow l.j l.self.used l.self.meets l.self.left l.self.few l.self.narrow;
  rest : (l.self.used ≡ l.initial.self.used) × (l.self.able ≡ l.initial.self.able) × (l.self.meets ≡ l.initial.self.meets) × (l.self.held ≡ l.initial.self.held)
      × (l.self.left ≡ l.initial.self.left);
}
