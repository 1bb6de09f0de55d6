-- Demand 2: "The answers are those of the planning task as the SAS+ literature defines it. A plan can be carried out from the start, reaches the goal,
-- and no plan is cheaper. 'No plan' is said only where none exists. For any accepted cut list, a state's estimate is the abstract distance as 01
-- defines it, and no plan from that state costs less. Sheets written and read back give the same model and cuts, and accepted bytes come back the same."
-- For whoever knows only the contracts: of `run` and `question`, and of `elhavir_run` and `elhavir_question`, whose theorems begin with `entry-`. The
-- sheets are in `RoundTrips`. The task is that of `task/specs/Task`: `IsPlan` is "can be carried out from the start and reaches the goal".
-- And 01's step 4: what an "open" answer's figure is, and that no plan undercuts it.
use Prim.Native.Nat.{ℕ, ◌+◌, ◌≤◌, ◌<◌}
use native.Mathlib.Omega.{arith}
use mathlib.Core.Path.{◌≡◌, refl, sym, ap, ◌∙◌, subst⁻¹}
use mathlib.Core.Bool.{true, false}
use mathlib.Core.List.{List, [], ◌∷◌}
use mathlib.Core.Option.{some, map}
use lib.ListN.{length, get_or}
use Rattle.task.specs.declared.Step.{Step}
use Rattle.task.specs.Loops.{over}
use Rattle.task.specs.Task.{Task, State, column_count, step_count, cost_of, start, can_take, taken, reaches, costs, IsPlan}
use Rattle.task.proofs.LoopLaws.{tab-at, tab-length}
use Rattle.distances.specs.Distances.{NoMore, estimate}
use Rattle.distances.proofs.EstimateLaws.{EstimateIs}
use Rattle.fields.specs.Judging.{check, refusal}
use Rattle.fields.proofs.JudgingLaws.{neither, passed, refusal-append}
use Rattle.sheets.specs.Holding.{task_on}
use Rattle.cut_sheets.specs.CutSheet.{cut_sheet_checks, cuts_of}
use Rattle.run.proofs.RunLaws.{NoPlan as NonePlans}
use Rattle.running.specs.declared.Answer.TheVariants.{Plan, NoPlan, Open}
use Rattle.running.specs.Running.{number, Runs}
use Rattle.run_laws.proofs.Answers as said
use Rattle.fields.specs.Refusals.{Done}
use Rattle.asking.specs.Question.{state_in, states_in, bad_states, estimate_at, estimates_of, valued, question_checks, Asks}
use Rattle.question_laws.proofs.Estimates as estimates
use Rattle.sheets.specs.LentTables.{too_few}
use Rattle.values.specs.Values.{bytes_of, value_on, values_on}
use Rattle.historian.specs.Entries.{ask_checks, AskEntryOutcome, EntryRuns, EntryAsks}
use Rattle.demands.proofs.Numbers.{kind, value, value-back}
use Rattle.demands.proofs.Refusals.{elhavir-question-judged}
use Rattle.demands.proofs.Entry as entry
use Rattle.demands.proofs.Cuts as cut

-- ---- "A plan can be carried out from the start, reaches the goal, and no plan is cheaper", and its rows are in the list
module _ (s : List ℕ) (room : ℕ) (cuts rows : List ℕ) {c l : List ℕ} where
  pub plan-right : {cost n b : ℕ} → Runs s room cuts rows (Done (Plan cost n b)) c l → said.Planned (task_on s) cost n rows l
  plan-right done = (said.run-says s room cuts rows done (unfold number in refl)).says.1

  -- "'No plan' is said only where none exists"
  pub no-plan-right : {b : ℕ} → Runs s room cuts rows (Done (NoPlan b)) c l → NonePlans (task_on s)
  no-plan-right done = (said.run-says s room cuts rows done (unfold number in refl)).says.2

-- the same of the historian's run
module _ (s : List ℕ) (room : ℕ) (cuts rows : List ℕ) {r : ℕ} {c l : List ℕ} (done : EntryRuns s room cuts rows r c l) where
  pub entry-plan-right : kind r ≡ 1 → entry.PlanTold (task_on s) r rows l
  entry-plan-right k = (entry.entry-says s room cuts rows done (λ z. omega arith)).tells.plan-right k

  pub entry-no-plan-right : kind r ≡ 2 → entry.NoPlanTold (task_on s) r rows l
  entry-no-plan-right k = (entry.entry-says s room cuts rows done (λ z. omega arith)).tells.no-plan-right k

-- ---- 01, step 4: "open" with the start's estimate, which is that after the cuts made. It is a lower bound: no plan costs less

-- an open answer refuses nothing
pub open_kept : (e b : ℕ) → number (Done (Open e b)) ≡ 0
unfolding number
open_kept e b = refl

module _ (s : List ℕ) (room : ℕ) (cuts rows : List ℕ) {e b : ℕ} {c l : List ℕ} (done : Runs s room cuts rows (Done (Open e b)) c l) where
  pub open-estimate : estimate (task_on s) (cut.made s room cuts rows done (open_kept e b)) (start (task_on s)) ≡ some e
  open-estimate = said.open-estimate s room cuts rows (cut.ran s room cuts rows done (open_kept e b)) e b refl

  pub open-below : (ss : List Step) → IsPlan (task_on s) ss → e ≤ costs (task_on s) ss
  open-below = said.open-below s room cuts rows (cut.ran s room cuts rows done (open_kept e b)) e b refl

module _ (s : List ℕ) (room : ℕ) (cuts rows : List ℕ) {r : ℕ} {c l : List ℕ} (done : EntryRuns s room cuts rows r c l) (opened : kind r ≡ 3) where
  pub entry-open-kept : kind r ≡ 0 → ⊥
  entry-open-kept z = omega arith

  pub entry-open-estimate : estimate (task_on s) (cut.entry-made s room cuts rows done entry-open-kept) (start (task_on s)) ≡ some (value r)
  entry-open-estimate = ((cut.had s room cuts rows done entry-open-kept).tells.open-right opened).estimated

  pub entry-open-below : (ss : List Step) → IsPlan (task_on s) ss → value r ≤ costs (task_on s) ss
  entry-open-below =
      let m = cut.had s room cuts rows done entry-open-kept in
      said.none_below (task_on s) m.model m.made m.ok (value r) entry-open-estimate

-- ---- "For any accepted cut list, a state's estimate is the abstract distance as 01 defines it, and no plan from that state costs less"
module _ (model s states est : List ℕ) {n : ℕ} {next : List ℕ} (done : Asks model s states est (Done n) next) where
  abbrev t : Task
  t = task_on model

  -- one value for each state
  pub one_each : n ≡ states_in t states
  one_each = estimates.every-state model s states est done

  abbrev fine : refusal (cut_sheet_checks model s) ≡ 0
  fine = estimates.sheets-fine model s states est done

  module _ (k : ℕ) (below : k < n) where
    -- the state that was asked for
    abbrev x : State
    x = state_in (column_count t) states k

    right : estimates.Answered model s fine x (get_or next k 0)
    right = estimates.estimates-right model s states est done k below

    pub estimate-is-distance : EstimateIs t (estimates.model-accepted model s fine) (cuts_of s) (estimates.cuts-accepted model s fine) x (valued (get_or next k 0))
    estimate-is-distance = right.distance

    pub estimate-below : (ss : List Step) → reaches t x ss ≡ true → NoMore (valued (get_or next k 0)) (some (costs t ss))
    estimate-below = right.below

    -- and along every step it falls by no more than the step costs
    pub estimate-consistent : (a : Step) → a.0 < step_count t → can_take t a x ≡ true → NoMore (valued (get_or next k 0)) (map (λ e. cost_of t a + e) (estimate t (cuts_of s) (taken t a x)))
    estimate-consistent = right.consistent

-- the same of the historian's question: 0 is returned, and the values stand in the bytes
module _ (model s states est : List ℕ) {r : ℕ} {l : List ℕ} (done : EntryAsks model s states est r l) (answered : r ≡ 0) where
  abbrev u : Task
  u = task_on model

  quiet : refusal (ask_checks model s states est) ≡ 0
  quiet = sym (elhavir-question-judged model s states est done).told ∙ answered

  parts : (refusal (cut_sheet_checks model s) ≡ 0) × (refusal (check 11 (bad_states u states) ∷ too_few (states_in u states) (values_on est) ∷ []) ≡ 0)
  unfolding question_checks
  parts = neither (refusal (cut_sheet_checks model s)) _ (sym (refusal-append (cut_sheet_checks model s) _) ∙ quiet)

  pub sheets-fine : refusal (cut_sheet_checks model s) ≡ 0
  sheets-fine = parts.0

  good : bad_states u states ≡ false
  good = (passed 11 (bad_states u states) _ (λ z. omega arith) parts.1).0

  -- the bytes of one value for each state, over the front of the list
  pub entry-estimates-written : l ≡ over (bytes_of (estimates_of u (cuts_of s) states)) est
  entry-estimates-written = ap (λ (o : AskEntryOutcome). o.estimates) ((elhavir-question-judged model s states est done).done answered)

  pub entry-one-each : length (estimates_of u (cuts_of s) states) ≡ states_in u states
  unfolding estimates_of
  entry-one-each = tab-length (states_in u states) (estimate_at u (cuts_of s) states)

  module _ (k : ℕ) (below : k < states_in u states) where
    abbrev y : State
    y = state_in (column_count u) states k

    -- what a C program takes from the four bytes
    pub entry_value : value_on l k ≡ estimate_at u (cuts_of s) states k
    unfolding estimates_of
    entry_value =
        let e : get_or (estimates_of u (cuts_of s) states) k 0 ≡ estimate_at u (cuts_of s) states k = tab-at (states_in u states) (estimate_at u (cuts_of s) states) 0 k below in
        let b = estimates.value-most model s sheets-fine states good k below in
        ap (λ (x : List ℕ). value_on x k) entry-estimates-written ∙ value-back (estimates_of u (cuts_of s) states) est k (omega (arith, entry-one-each)) (omega (arith, e)) ∙ e

    entry-right : estimates.Answered model s sheets-fine y (value_on l k)
    entry-right = subst⁻¹ (estimates.Answered model s sheets-fine y) entry_value (estimates.value-right model s sheets-fine states good k below)

    pub entry-estimate-is-distance : EstimateIs u (estimates.model-accepted model s sheets-fine) (cuts_of s) (estimates.cuts-accepted model s sheets-fine) y (valued (value_on l k))
    entry-estimate-is-distance = entry-right.distance

    pub entry-estimate-below : (ss : List Step) → reaches u y ss ≡ true → NoMore (valued (value_on l k)) (some (costs u ss))
    entry-estimate-below = entry-right.below

    pub entry-estimate-consistent : (a : Step) → a.0 < step_count u → can_take u a y ≡ true → NoMore (valued (value_on l k)) (map (λ e. cost_of u a + e) (estimate u (cuts_of s) (taken u a y)))
    entry-estimate-consistent = entry-right.consistent
