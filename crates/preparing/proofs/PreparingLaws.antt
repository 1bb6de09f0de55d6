-- The tables that are filled from an accepted sheet are those of its task.
use Prim.Native.Nat.{ℕ}
use mathlib.Core.Path.{◌≡◌, sym, ap, ◌∙◌, subst}
use mathlib.Core.List.{List}
use Rattle.task.specs.declared.Model.{Model}
use Rattle.task.specs.Tables.{task_of}
use Rattle.task.specs.Task.{Task, Accepted}
use Rattle.task.proofs.TableLaws.{columns-of, size-of}
use Rattle.masks.specs.declared.Tables.{Tables}
use Rattle.masks.specs.Tables.{Tabled}
use Rattle.sheets.specs.ModelSheet.{of_sheet, judge_sheet}
use Rattle.sheets.specs.Holding.{model_of, task_on}
use Rattle.sheets.proofs.HeldTaskLaws.{model-task, ok_fine, accepted-task}
use Rattle.preparing.specs.Preparing.{Prepared}

module _ (s : List ℕ) (ok : judge_sheet s ≡ 0) {m : Model} (e : m ≡ model_of (of_sheet s)) where
  pub own-task : task_of m ≡ task_on s
  unfolding task_on
  own-task = ap task_of e ∙ model-task (of_sheet s) (ok_fine s ok).header.columns

  pub own-accepted : Accepted (task_of m)
  own-accepted = subst (λ (t : Task). Accepted t) (sym own-task) (unfold task_on in accepted-task s ok)

  pub prepared : {g : Tables} → Tabled (task_of m) g → g.sizes ≡ m.size → Prepared (task_on s) g
  prepared {g} f e = subst (λ (u : Task). Prepared u g) own-task (record { tabled = f; sizes = λ j h. rw e (size-of m j (rw columns-of at h)) })
