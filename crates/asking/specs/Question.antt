-- 01, "Sheets": a question takes a model sheet, a cut sheet and states of one byte per column, and writes one estimate per state.
use Rattle.std.specs.Prelude.{ℕ, ◌+◌, ◌*◌, ◌/◌, ◌%◌, ◌≡◌, Bool, not, ◌||◌, cond, List, [], ◌∷◌, ◌++◌, eqb, ltb, length, get_or}
use Rattle.std.proofs.Math.Option
use Rattle.std.proofs.Math.Option.{Option, none, some}
use Rattle.task.specs.declared.Position.{Position}
use Rattle.task.specs.Loops.{all, tab, over}
use Rattle.task.specs.Sizes.{limits, tenth}
use Rattle.task.specs.Task.{Task, State, column, position, column_count, size_of}
use Rattle.fields.specs.Judging.{Check, check, refusal, unless_refused}
use Rattle.fields.specs.Refusals.{Answered, Done, Refused}
use Rattle.sheets.specs.LentTables.{too_few}
use Rattle.sheets.specs.Holding.{unused, task_on}
use Rattle.blocks.specs.declared.Cut.{Cut}
use Rattle.blocks.specs.Flat.{followed}
use Rattle.distances.specs.Distances.{estimate}
use Rattle.cut_sheets.specs.CutSheet.{cut_sheet_checks, cuts_of}

-- state k of the bytes, for n columns: a byte for each
unfoldable pub place_in : ℕ → List ℕ → ℕ → ℕ → Position
place_in n bytes k j = position (get_or bytes (k * n + j) 0)

unfoldable pub state_in : ℕ → List ℕ → ℕ → State
state_in n bytes k = tab n (place_in n bytes k)

-- the same with places past the columns, as code has it
unfoldable pub wide_state : ℕ → List ℕ → ℕ → State
wide_state n bytes k = over (state_in n bytes k) (unused limits.columns (position 0))

-- the cost of the block that a state's cuts lead to, in a table of distances
unfoldable pub cost_found : List ℕ → List ℕ → ℕ → State → ℕ
cost_found dist cuts count x = get_or dist (followed cuts x count) 0 / tenth

-- how many states the bytes hold
unfoldable pub states_in : Task → List ℕ → ℕ
states_in t bytes = length bytes / column_count t

-- 11: bytes no multiple of the columns, more than 64 states, or a position not below its size
unfoldable pub bad_states : Task → List ℕ → Bool
bad_states t bytes =
    not (eqb (length bytes % column_count t) 0)
    || (ltb limits.states (states_in t bytes)
    || not (all (length bytes) (λ i. ltb (get_or bytes i 0) (size_of t (column (i % column_count t))))))

abbrev pub state_check : Task → List ℕ → Check
state_check t bytes = check 11 (bad_states t bytes)

-- the estimate of state k after the cuts, the mark for "no way"
unfoldable pub estimate_at : Task → List Cut → List ℕ → ℕ → ℕ
estimate_at t cs states k = Option.get_or (estimate t cs (state_in (column_count t) states k)) limits.no_way

-- one estimate for each state
unfoldable pub estimates_of : Task → List Cut → List ℕ → List ℕ
estimates_of t cs states = tab (states_in t states) (estimate_at t cs states)

-- what a written value says of its state
unfoldable pub valued : ℕ → Option ℕ
valued v = cond (eqb v limits.no_way) none (some v)

-- ---- a question

-- the given model sheet, the inner model, 10, the cut part, then 11, then 8
unfoldable pub question_checks : List ℕ → List ℕ → List ℕ → List ℕ → List Check
question_checks model s states estimates =
    cut_sheet_checks model s ++ (state_check (task_on model) states ∷ too_few (states_in (task_on model) states) estimates ∷ [])

-- an answer's refusal number; 0 for none
unfoldable pub number : Answered ℕ → ℕ
number (Done n) = 0
number (Refused n) = n

-- how many estimates were written, or a refusal, and the list at exit
pub record QuestionOutcome : Type 0 where
  pub answer : Answered ℕ
  pub estimates : List ℕ

abbrev pub question_outcome : Answered ℕ → List ℕ → QuestionOutcome
question_outcome a estimates = record { answer = a; estimates = estimates }

-- a refusal returns only its number and changes nothing lent; else one estimate for each state, and places past the last one stay
unfoldable pub asking : List ℕ → List ℕ → List ℕ → List ℕ → QuestionOutcome
asking model s states estimates =
    unless_refused (refusal (question_checks model s states estimates))
    (question_outcome (Done (states_in (task_on model) states)) (over (estimates_of (task_on model) (cuts_of s) states) estimates))
    (λ n. question_outcome (Refused n) estimates)

-- what `question` promises, whatever is passed: the answer and the list at exit
abbrev pub Asks : (model s states estimates : List ℕ) → Answered ℕ → (estimates' : List ℕ) → Type 0
Asks model s states estimates r estimates' = question_outcome r estimates' ≡ asking model s states estimates
