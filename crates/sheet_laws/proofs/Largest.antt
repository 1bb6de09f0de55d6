-- 01, "Sheets": the largest sheet has 3,365 bytes.
use Prim.Native.Nat.{ℕ, ◌≤◌}
use native.Mathlib.Omega.{arith}
use mathlib.Core.Path.{◌≡◌, refl}
use mathlib.Core.List.{List}
use lib.ListN.{length}
use Rattle.task.specs.Sizes.{limits}
use Rattle.fields.specs.Packing.{bytes_for}
use Rattle.sheets.specs.ModelSheet.{model_bits, model_bytes, columns_of, steps_of, judge_sheet}
use Rattle.sheets.proofs.SheetLaws.{bits-le, part-fine, sheet-fine}
use Rattle.sheets.proofs.RoundLaws.{exact-length}

pub largest-bytes : model_bytes limits.columns limits.steps ≡ 3365
unfolding model_bits bytes_for
largest-bytes = refl

-- no accepted sheet is longer
pub largest : (s : List ℕ) → judge_sheet s ≡ 0 → length s ≤ 3365
unfolding bytes_for
largest s ok =
    let h = part-fine s (sheet-fine s ok).0 in
    omega (arith, exact-length s ok, bits-le (columns_of s) (steps_of s) h.columns h.steps)
