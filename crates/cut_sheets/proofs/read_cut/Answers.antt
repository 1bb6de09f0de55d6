use native.Mathlib.Omega.{arith}
use Prim.Native.Nat.{ℕ, ◌+◌}
use mathlib.Core.Path.{ap}
use Rattle.fields.proofs.FieldLaws.{field_lt, read_at}
use Rattle.cut_sheets.proofs.JudgeLaws.{named}
use Rattle.cut_sheets.proofs.read_cut.Goals as goal

pub overflow_cast-result : goal.overflow_cast-result
overflow_cast-result c = omega (arith, field_lt c.args.s.now c.cut_bits-at.result 8)

pub overflow_cast-result-2 : goal.overflow_cast-result-2
overflow_cast-result-2 c = omega (arith, field_lt c.args.s.now (c.cut_bits-at.result + 8) 4)

pub returns : goal.returns
returns c =
    let g = c.args in
    let q = c.cut_bits-at.ensures.place in
    named g.s.now g.i (read_at g.s.now 8 q c.field-block.ensures) (read_at g.s.now 4 (ap (λ (x : ℕ). x + 8) q) c.field-column.ensures)
    (read_at g.s.now 32 (ap (λ (x : ℕ). x + 8 + 4) q) c.field-wanted.ensures)
