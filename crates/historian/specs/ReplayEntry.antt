-- 02, order 7, for the historian, which passes lists of bytes: the log has a value for each step, and a row is three signed values.
use Rattle.std.specs.Prelude.{ℕ, ◌+◌, ◌*◌, ◌^◌, ◌≡◌, List, length}
use Rattle.task.specs.Loops.{over}
use Rattle.fields.specs.Judging.{Check, refusal, unless_refused}
use Rattle.sheets.specs.Holding.{task_on}
use Rattle.cut_sheets.specs.CutSheet.{cuts_of}
use Rattle.values.specs.Values.{values_on, signed_bytes}
use Rattle.replay.specs.Replay.{Replayed, Rows, Stopped, Refused, row_list, replay_checks, refused}

-- done is kind 1 with the number of rows in the field of the steps; a refusal's number is the value, and 14 alone has its row in the field of the steps
unfoldable pub replay_number : Replayed → ℕ
replay_number (Rows n) = 1 * 2 ^ 56 + n * 2 ^ 32
replay_number (Stopped row) = row * 2 ^ 32 + 14
replay_number (Refused n) = n

-- a replay's checks, of the values in the lists of bytes
abbrev pub replay_entry_checks : List ℕ → List ℕ → List ℕ → List ℕ → List Check
replay_entry_checks model s log rows = replay_checks model s (values_on log) (values_on rows)

pub record ReplayEntryOutcome : Type 0 where
  pub answer : ℕ
  pub rows : List ℕ

abbrev pub replay_entry_outcome : ℕ → List ℕ → ReplayEntryOutcome
replay_entry_outcome a rows = record { answer = a; rows = rows }

-- the bytes of a row for each step over the front of the list; a refusal leaves the list as found
unfoldable pub replay_entry : List ℕ → List ℕ → List ℕ → List ℕ → ReplayEntryOutcome
replay_entry model s log rows =
    unless_refused (refusal (replay_entry_checks model s log rows))
    (replay_entry_outcome (replay_number (Rows (length (values_on log)))) (over (signed_bytes (row_list (task_on model) (cuts_of s) (values_on log))) rows))
    (λ n. replay_entry_outcome (replay_number (refused (task_on model) (values_on log) n)) rows)

-- what `elhavir_replay` promises, whatever is passed: the answer number and the list at exit
abbrev pub EntryReplays : (model s log rows : List ℕ) → ℕ → (rows' : List ℕ) → Type 0
EntryReplays model s log rows r rows' = replay_entry_outcome r rows' ≡ replay_entry model s log rows
