-- Refusal 10: the model inside a cut sheet differs from the given one exactly where the given sheet does not stand at the front.
use Prim.Native.Nat.{ℕ}
use mathlib.Core.Path.{◌≡◌, sym, ap, ◌∙◌}
use mathlib.Core.Logic.{◌↔◌}
use mathlib.Core.Bool.{true}
use mathlib.Core.List.{List, ◌++◌}
use lib.ListN.{take, drop, take-append-drop}
use Rattle.fields.proofs.PutLaws.{Bytes}
use Rattle.sheets.specs.ModelSheet.{model_bytes, columns_of, steps_of, judge_part, judge_sheet}
use Rattle.sheets.specs.Holding.{task_on}
use Rattle.sheet_laws.proofs.SameModel.{same_bytes, same-held}
use Rattle.cut_sheets.specs.CutSheet.{at_front}
use Rattle.cut_sheets.proofs.CutSheetLaws.{front-take, front-append, inner-bytes}

pub same-model : (model s : List ℕ) → judge_sheet model ≡ 0 → judge_part s ≡ 0 → Bytes model → Bytes s → (at_front model s ≡ true) ↔ (task_on s ≡ task_on model)
unfolding task_on
same-model model s ok inner bm bs = (
  λ front. same-held s inner model (ap (λ (n : ℕ). take n s) (inner-bytes model ok s front) ∙ (front-take model s front).1),
  λ e.
      let b = model_bytes (columns_of s) (steps_of s) in
      let q : model ++ drop b s ≡ s = ap (λ (l : List ℕ). l ++ drop b s) (sym (same_bytes s inner model ok bs bm e)) ∙ take-append-drop b s in
      ap (at_front model) (sym q) ∙ front-append model (drop b s),
)
