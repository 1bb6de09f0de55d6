-- Whether the sheet at the front of longer bytes holds the same task as a given sheet is told by comparing bytes. (Refusal 10 asks it.)
use Prim.Native.Nat.{ℕ}
use native.Mathlib.Omega.{arith}
use mathlib.Core.Path.{◌≡◌, sym, ap, ◌∙◌}
use mathlib.Core.List.{List}
use lib.ListN.{take}
use lib.Seq.{length-take-le}
use Rattle.fields.proofs.PartLaws.{field-take}
use Rattle.fields.proofs.PutLaws.{Bytes}
use Rattle.fields.proofs.PackingLaws.{bytes_take}
use Rattle.sheets.specs.ModelSheet.{model_bytes, columns_of, steps_of, sheet_with, of_sheet, judge_part, judge_sheet}
use Rattle.sheets.specs.Holding.{task_in}
use Rattle.sheets.proofs.FrontLaws.{part_length, front_same, taken-accepted}
use Rattle.sheets.proofs.HeldTaskLaws.{canonical}
use Rattle.sheet_laws.proofs.ModelBack.{same-task}

module _ (s : List ℕ) (ok : judge_part s ≡ 0) where
  abbrev b : ℕ
  b = model_bytes (columns_of s) (steps_of s)

  -- the sheet alone holds the task
  pub part-task : task_in (of_sheet (take b s)) ≡ task_in (of_sheet s)
  unfolding of_sheet sheet_with
  part-task = same-task (of_sheet (take b s)) (of_sheet s) (front_same s ok (take b s) (λ at w h. field-take s b at w h) (omega (arith, length-take-le b s (part_length s ok))))

  module _ (g : List ℕ) where
    pub same_bytes : judge_sheet g ≡ 0 → Bytes s → Bytes g → task_in (of_sheet s) ≡ task_in (of_sheet g) → take b s ≡ g
    same_bytes okg bs bg e = canonical (take b s) g (taken-accepted s ok) okg (part-task ∙ e) (bytes_take b s (part_length s ok) bs) bg

    pub same-held : take b s ≡ g → task_in (of_sheet s) ≡ task_in (of_sheet g)
    same-held e = sym part-task ∙ ap (λ (x : List ℕ). task_in (of_sheet x)) e
