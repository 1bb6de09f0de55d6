-- The demands of the run whose rows are lent as structs, and of the function that puts them: one outcome, and the answers of `run`
-- with the plan's rows in the list. For whoever knows only the contracts of crate `rows`.
use Prim.Native.Nat.{ℕ, min, ◌*◌}
use mathlib.Core.Path.{◌≡◌, refl, sym, ap, ◌∙◌, subst}
use mathlib.Core.List.{List}
use mathlib.Core.Option.{some}
use lib.ListN.{length, replicate, length-replicate}
use borrow.Author.Tests.{eq-eqb}
use Rattle.task.specs.declared.Step.{Step}
use Rattle.task.specs.Loops.{over}
use Rattle.task.specs.Sizes.{most_steps}
use Rattle.task.specs.Task.{Task, start, costs}
use Rattle.blocks.specs.declared.Cut.{Cut}
use Rattle.distances.specs.Distances.{estimate}
use Rattle.fields.specs.Judging.{refusal}
use Rattle.sheets.specs.Holding.{task_on}
use Rattle.run.specs.declared.Row.{Row}
use Rattle.run.specs.Run as run
use Rattle.run.specs.Run.{plan, no_plan, «open», rows, rows_of, block_count}
use Rattle.run.proofs.RunLaws.{Cheapest, NoPlan as NonePlans, Right}
use Rattle.run.proofs.RunRightLaws.{run-right}
use Rattle.blocks.specs.Flat.{cut_place}
use Rattle.run.specs.Listing.{listed}
use Rattle.running.specs.declared.Answer.{Answer}
use Rattle.running.specs.declared.Answer.TheVariants.{Plan, NoPlan, Open}
use Rattle.std.specs.Prelude.{Result}
use Rattle.fields.specs.declared.refusal.Refusal.{Refusal}
use Rattle.fields.specs.Refusals.{Answered, Done, Refused, told}
use Rattle.fields.proofs.RefusalLaws.{same_told}
use Rattle.running.specs.Running as running
use Rattle.running.specs.Running.{returned, number}
use Rattle.run_laws.proofs.Answers as said
use Rattle.rows.specs.Rows as lent
use Rattle.rows.specs.Rows.{row_run_outcome, RowRuns, PutsRows}
use Rattle.rows.proofs.RowRunLaws.{checks-same}
use Rattle.demands.proofs.Refusals.{row-run-judged}

-- ---- one outcome

-- put_rows
pub put-rows-one : (rs : List Row) (values : List ℕ) (n : ℕ) {k k' : ℕ} {l l' : List Row} → PutsRows rs values n k l → PutsRows rs values n k' l' → (k ≡ k') × (l ≡ l')
put-rows-one rs values n p q =
    let e = p ∙ sym q in
    (ap (λ (o : lent.Filled). o.count) e, ap (λ (o : lent.Filled). o.rows) e)

-- run
pub row-run-one : (s : List ℕ) (room : ℕ) (cuts : List ℕ) (rs : List Row) {r r' : Result Answer Refusal} {c c' : List ℕ} {l l' : List Row} → RowRuns s room cuts rs (told r) c l → RowRuns s room cuts rs (told r') c' l'
    → (r ≡ r') × (c ≡ c') × (l ≡ l')
row-run-one s room cuts rs p q =
    let e = p ∙ sym q in
    (same_told _ _ (ap (λ (o : lent.RowRunOutcome). o.answer) e), ap (λ (o : lent.RowRunOutcome). o.cuts) e, ap (λ (o : lent.RowRunOutcome). o.rows) e)

-- ---- run

-- a plan in the list: its steps, its cost, its rows, and that none is cheaper
pub record RowsPlanned (t : Task) (cost count : ℕ) (before after : List Row) : Type 0 where
  pub steps : List Step
  pub count-is : count ≡ length steps
  pub cost-is : cost ≡ costs t steps
  pub shown : after ≡ over (rows t steps) before
  pub cheapest : Cheapest t steps

module _ (t : Task) (cs : List Cut) (before after : List Row) where
  -- what an answer says of the rows
  abbrev pub RowsSay : Answered Answer → Type 0
  RowsSay (Done (Plan c n b)) = RowsPlanned t c n before after
  RowsSay (Done (NoPlan b)) = (after ≡ before) × NonePlans t
  RowsSay (Done (Open e b)) = (after ≡ before) × (estimate t cs (start t) ≡ some e)
  RowsSay (Refused n) = ⊥

  rows-say : (room b : ℕ) (r : run.Answer) → Right t room cs r → after ≡ over (rows_of t r) before → RowsSay (Done (returned t b r))
  unfolding returned rows_of over
  rows-say room b (plan ss) h e = record { steps = ss; count-is = refl; cost-is = refl; shown = e; cheapest = h }
  rows-say room b no_plan h e = (e, h)
  rows-say room b («open» k) h e = (e, h.2)

module _ (s : List ℕ) (room : ℕ) (cuts : List ℕ) (rs : List Row) where
  abbrev t : Task
  t = task_on s

  abbrev o : run.Outcome
  o = run.run t room

  module _ {a : Answered Answer} {c : List ℕ} {l : List Row} (done : RowRuns s room cuts rs a c l) where
    -- demands 2 and 3 of the answer and the cuts: it is `run`, with a list of values for as many places
    module _ (kept : number a ≡ 0) where
      abbrev values : List ℕ
      values = replicate (min (length rs) most_steps * 3) 0

      abbrev ending : running.RunOutcome
      ending = running.running s room cuts values

      same-made : row_run_outcome a c l ≡ row_run_outcome (Done (returned t (block_count o) o.answer)) (over (listed cut_place o.made) cuts) (over (rows_of t o.answer) rs)
      same-made = (row-run-judged s room cuts rs done).done kept

      pub same-run : running.run_outcome a c ending.rows ≡ ending
      unfolding running.running running.made
      same-run =
          let z : refusal (running.run_checks s room cuts values) ≡ 0 = sym (checks-same s room cuts rs values (length-replicate {A = ℕ} (min (length rs) most_steps * 3) 0)) ∙ sym (row-run-judged s room cuts rs done).told ∙ kept in
          simp (eq-eqb (refusal (running.run_checks s room cuts values)) 0 z)
          (rw (ap (λ (x : lent.RowRunOutcome). x.answer) same-made, ap (λ (x : lent.RowRunOutcome). x.cuts) same-made) refl)

      pub row-ran : said.Ran s room cuts values a c ending.rows
      row-ran = said.run-says s room cuts values same-run kept

      -- demand 2 of the rows
      pub rows_right : RowsSay t o.made rs l a
      rows_right =
          subst (RowsSay t o.made rs l) (sym (ap (λ (x : lent.RowRunOutcome). x.answer) same-made))
          (rows-say t o.made rs l room (block_count o) o.answer (run-right t row-ran.model room row-ran.some).right (ap (λ (x : lent.RowRunOutcome). x.rows) same-made))
