-- A model that was read from a sheet is the sheet's, and accepted.
use Prim.Native.Nat.{ℕ, zero, suc}
use native.Mathlib.Omega.{arith}
use mathlib.Core.Path.{◌≡◌, refl, sym, ap, ◌∙◌, subst}
use mathlib.Core.List.{List}
use borrow.Author.Tests.{eq-eqb, ne_eqb}
use Rattle.task.specs.declared.Model.{Model}
use Rattle.task.specs.Task.{Task, Accepted}
use Rattle.task.specs.Tables.{task_of}
use Rattle.fields.specs.Refusals.{Done, Refused, told_number}
use Rattle.sheets.specs.ModelSheet.{of_sheet, judge_sheet}
use Rattle.sheets.specs.Holding.{model_of, task_on}
use Rattle.sheets.proofs.HeldTaskLaws.{model-task, ok_fine, accepted-task}
use Rattle.unpack.specs.Unpacking.{unpacked}

-- the number that is told is the sheet's refusal
pub read-code : (s : List ℕ) → told_number (unpacked s) ≡ judge_sheet s
unfolding unpacked
read-code s = go (judge_sheet s) refl
  where
    go : (n : ℕ) → judge_sheet s ≡ n → told_number (unpacked s) ≡ judge_sheet s
    go zero e = simp (eq-eqb (judge_sheet s) 0 e) (sym e)
    go (suc n) e = simp (ne_eqb (judge_sheet s) 0 (λ z. omega (arith, z, e)))

pub read-refused : (s : List ℕ) {n : ℕ} → Refused n ≡ unpacked s → n ≡ judge_sheet s
read-refused s e = ap told_number e ∙ read-code s

module _ (s : List ℕ) {m : Model} (e : Done m ≡ unpacked s) where
  pub ok : judge_sheet s ≡ 0
  ok = sym (read-code s) ∙ sym (ap told_number e)

  is-model : m ≡ model_of (of_sheet s)
  unfolding unpacked
  is-model = let d : Done m ≡ Done (model_of (of_sheet s)) = e ∙ simp (eq-eqb (judge_sheet s) 0 ok) in cc

  -- the model that is read is the sheet's task, and is accepted
  pub given-task : task_of m ≡ task_on s
  unfolding task_on
  given-task = ap task_of is-model ∙ model-task (of_sheet s) (ok_fine s ok).header.columns

  pub given-accepted : Accepted (task_of m)
  given-accepted = subst (λ (t : Task). Accepted t) (sym given-task) (unfold task_on in accepted-task s ok)
