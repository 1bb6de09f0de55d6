-- 01, "Blocks and distances" and "Sheets": what a question that is answered has written. For any accepted cuts, from a run or not, each value is
-- its state's abstract distance, no plan from that state costs less, and it is consistent along every step.
use Prim.Native.Nat.{ℕ, ◌+◌, ◌≤◌, ◌<◌}
use native.Mathlib.Omega.{arith}
use mathlib.Core.Path.{◌≡◌, refl, sym, ap, ◌∙◌, subst⁻¹}
use mathlib.Core.Bool.{true, false}
use mathlib.Core.List.{List, [], ◌∷◌}
use mathlib.Core.Option
use mathlib.Core.Option.{Option, none, some, map}
use lib.ListN.{length, get_or}
use borrow.Author.Tests.{eq-eqb, ne_eqb}
use Rattle.task.specs.declared.Step.{Step}
use Rattle.task.specs.Loops.{over}
use Rattle.task.specs.Sizes.{limits}
use Rattle.task.specs.Task.{Task, State, Tenths, Accepted, column_count, step_count, cost_of, is_state, can_take, taken, reaches, costs}
use Rattle.task.proofs.LoopLaws.{tab-length, over-at}
use Rattle.blocks.specs.declared.Cut.{Cut}
use Rattle.blocks.specs.Blocks.{accepted}
use Rattle.distances.specs.Distances.{NoMore, estimate}
use Rattle.distances.proofs.EstimateLaws.{EstimateIs, estimate-is-distance, estimate-below, estimate-consistent, estimate-bound}
use Rattle.fields.specs.Judging.{check, refusal}
use Rattle.fields.proofs.JudgingLaws.{neither, passed, refusal-append}
use Rattle.sheets.specs.LentTables.{too_few}
use Rattle.sheets.specs.Holding.{task_on}
use Rattle.sheets.proofs.HeldTaskLaws.{accepted-task}
use Rattle.cut_sheets.specs.CutPart.{cut_named, cuts_named, cut_on, count_of}
use Rattle.cut_sheets.specs.CutSheet.{tail_of, cut_sheet_checks, cuts_of}
use Rattle.cut_sheets.proofs.CutRoundLaws.{own-accepted}
use Rattle.cut_sheets.proofs.CutSheetLaws.{sheet-accepted}
use Rattle.cut_sheets.proofs.JudgeLaws.{count-below}
use Rattle.fields.specs.Refusals as refusals
use Rattle.fields.specs.Refusals.{Done, Refused}
use Rattle.asking.specs.Question.{QuestionOutcome, state_in, states_in, bad_states, estimate_at, estimates_of, valued, question_checks, question_outcome, number, asking, Asks}
use Rattle.asking.proofs.AnswerLaws.{state-good}
use Rattle.question_laws.proofs.Refusals.{asker}

-- a value that is written for an estimate says that estimate
valued_back : (o : Option Tenths) → ((e : Tenths) → o ≡ some e → e < limits.no_way) → valued (Option.get_or o limits.no_way) ≡ o
unfolding valued
valued_back none h = refl
valued_back (some e) h = rw (ne_eqb e limits.no_way (λ z. omega (arith, h e refl)))

mark-highest : (o : Option Tenths) → ((e : Tenths) → o ≡ some e → e < limits.no_way) → Option.get_or o limits.no_way ≤ limits.no_way
mark-highest none h = omega arith
mark-highest (some e) h = omega (arith, h e refl)

written : refusals.Answered ℕ → ℕ
written (Done n) = n
written (Refused n) = 0

-- ---- accepted sheets, whoever asks
module _ (model s : List ℕ) (fine : refusal (cut_sheet_checks model s) ≡ 0) where
  -- the model and the cuts on the sheets
  abbrev t : Task
  t = task_on model

  abbrev cs : List Cut
  cs = cuts_of s

  pub model-accepted : Accepted t
  unfolding task_on
  model-accepted = accepted-task model (sheet-accepted model s fine).0

  pub cuts-accepted : accepted t cs ≡ true
  unfolding cuts_of
  cuts-accepted = own-accepted t (tail_of s) (sheet-accepted model s fine).2

  -- fewer than there can be blocks
  pub few : length cs < limits.blocks
  unfolding cuts_of cuts_named
  few = omega (arith, tab-length (count_of (tail_of s)) (λ k. cut_named (cut_on (tail_of s) k)), count-below (tail_of s) refl)

  -- what a value says that stands for a state
  pub record Answered (x : State) (v : ℕ) : Type 0 where
    pub state : is_state t x ≡ true
    -- the estimate, which is the distance of its block
    pub value : valued v ≡ estimate t cs x
    pub distance : EstimateIs t model-accepted cs cuts-accepted x (valued v)
    -- no plan from the state costs less
    pub below : (ss : List Step) → reaches t x ss ≡ true → NoMore (valued v) (some (costs t ss))
    -- a step's cost and the next estimate are never below it
    pub consistent : (a : Step) → a.0 < step_count t → can_take t a x ≡ true → NoMore (valued v) (map (λ e. cost_of t a + e) (estimate t cs (taken t a x)))

  module _ (states : List ℕ) (good : bad_states t states ≡ false) (k : ℕ) (h : k < states_in t states) where
    -- state k of the bytes
    abbrev x : State
    x = state_in (column_count t) states k

    is-state : is_state t x ≡ true
    is-state = state-good t states good k h

    bounded : (e : Tenths) → estimate t cs x ≡ some e → e < limits.no_way
    bounded e q = (estimate-bound t model-accepted cs cuts-accepted few x is-state e q).1

    pub value-right : Answered x (estimate_at t cs states k)
    unfolding estimate_at
    value-right =
        let v = model-accepted in
        let ok = cuts-accepted in
        let is = is-state in
        let q : valued (estimate_at t cs states k) ≡ estimate t cs x = valued_back (estimate t cs x) bounded in
        record {
          state = is;
          value = q;
          distance = rw q (estimate-is-distance t v cs ok x is);
          below = λ ss r. rw q (estimate-below t v cs ok ss x is r);
          consistent = λ a f c. rw q (estimate-consistent t v cs ok x is a f c);
        }

    -- the mark for "no way" is the highest value
    pub value-most : estimate_at t cs states k ≤ limits.no_way
    unfolding estimate_at
    value-most = mark-highest (estimate t cs x) bounded

-- ---- a question that was answered
module _ (model s states est : List ℕ) {n : ℕ} {next : List ℕ} (done : Asks model s states est (Done n) next) where
  abbrev m : Task
  m = task_on model

  quiet : refusal (question_checks model s states est) ≡ 0
  unfolding number
  quiet = sym (asker model s states est).told ∙ ap (λ (o : QuestionOutcome). number o.answer) (sym done)

  parts : (refusal (cut_sheet_checks model s) ≡ 0) × (refusal (check 11 (bad_states m states) ∷ too_few (states_in m states) est ∷ []) ≡ 0)
  unfolding question_checks
  parts = neither (refusal (cut_sheet_checks model s)) _ (sym (refusal-append (cut_sheet_checks model s) _) ∙ quiet)

  pub sheets-fine : refusal (cut_sheet_checks model s) ≡ 0
  sheets-fine = parts.0

  good : bad_states m states ≡ false
  good = (passed 11 (bad_states m states) _ (λ z. omega arith) parts.1).0

  whole : question_outcome (Done n) next ≡ question_outcome (Done (states_in m states)) (over (estimates_of m (cuts_of s) states) est)
  unfolding asking
  whole = simp (eq-eqb (refusal (question_checks model s states est)) 0 quiet) at done

  -- one value for each state
  pub every-state : n ≡ states_in m states
  unfolding written
  every-state = ap (λ (o : QuestionOutcome). written o.answer) whole

  pub estimates-right : (k : ℕ) → k < n → Answered model s sheets-fine (state_in (column_count m) states k) (get_or next k 0)
  unfolding estimates_of
  estimates-right k h =
      let l : k < states_in m states = omega (arith, every-state) in
      let w : get_or next k 0 ≡ estimate_at m (cuts_of s) states k = ap (λ (o : QuestionOutcome). get_or o.estimates k 0) whole ∙ over-at (states_in m states) (estimate_at m (cuts_of s) states) est 0 k l in
      subst⁻¹ (Answered model s sheets-fine (state_in (column_count m) states k)) w (value-right model s sheets-fine states good k l)
