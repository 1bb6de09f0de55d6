-- Demand 1: "Every file, number and lent table is accepted or refused by the numbers in 01, whoever calls and without prior checks. A refusal
-- returns its number and leaves every lent table as found."
-- For each public function, for whoever knows only its contract: `..-judged`, that a call is done exactly when no check applies, that a number is returned
-- exactly when its row applies and no earlier check does, and that then the answer is that refusal and everything lent is as found (`Judged` in
-- fields/proofs/ExactLaws); and `..-numbers`, which of 01's numbers the function can return. No theorem asks anything of what is passed.
-- "Nothing reads or writes outside what was lent, and every call ends" is no theorem here: it is part of what it is to meet a contract, which is a triple
-- of total correctness over what the types lend and what the `requires` asks, beside any frame (the kit's law `adequate`). No public function has a
-- `requires`, so it holds of every call.
use Prim.Native.Nat.{ℕ, ◌+◌, ◌*◌, ◌%◌, ◌^◌, ◌≤◌, ◌<◌}
use native.Mathlib.Omega.{arith}
use mathlib.Core.Path.{◌≡◌, refl, sym, ap, ◌∙◌, subst}
use mathlib.Core.Bool.{Bool, true, false, cond}
use mathlib.Core.List.{List}
use lib.Dec.{eqb, ltb}
use lib.IntN.{ℤ}
use lib.ListN.{length}
use borrow.Author.Tests.{eqb-true, eq-eqb, ne_eqb, lt-ltb, le-ltb}
use Rattle.task.specs.Loops.{over}
use Rattle.task.specs.Sizes.{limits}
use Rattle.task.specs.Task.{Task}
use Rattle.fields.specs.Judging.{refusal}
use Rattle.fields.specs.Packing.{sheet_of}
use Rattle.fields.proofs.ExactLaws.{has, Judged, judges}
use Rattle.sheets.specs.ModelSheet.{Source, columns_in, steps_in, columns_of, steps_of, of_sheet, entries, model_bytes}
use Rattle.sheets.specs.Holding.{task_on}
use Rattle.sheets.specs.LentTables.{frame_of, costs_of, marks_of, of_tables, read_checks, write_checks}
use Rattle.sheet_laws.proofs.Refusals as sheet
use Rattle.cut_sheets.specs.CutPart.{cut_bytes, count_of}
use Rattle.cut_sheets.specs.CutSheet.{tail_of, cuts_of, cut_list, rebuild_checks, cut_sheet_of, write_cuts_checks}
use Rattle.cut_laws.proofs.Refusals as cut
use Rattle.question_laws.proofs.Refusals as asked
use Rattle.run_laws.proofs.Refusals as ran
use Rattle.fields.specs.Refusals.{Answered, Done, Refused, told_number}
use Rattle.reading.specs.Reading as reading
use Rattle.reading.specs.Reading.{Counts, counts}
use Rattle.writing.specs.Writing as writing
use Rattle.cut_reading.specs.Rebuilding as rebuilding
use Rattle.cut_writing.specs.CutWriting as cut_writing
use Rattle.asking.specs.Question as question
use Rattle.asking.specs.Question.{states_in, estimates_of}
use Rattle.values.specs.Values.{bytes_of, values_on, signed_bytes}
use Rattle.replay.specs.Replay as replay
use Rattle.replay.specs.Replay.{Replayed, bad_row, row_list}
use Rattle.replay.proofs.LogLaws.{bad-first}
use Rattle.replay_laws.proofs.Refusals as replays
use Rattle.run.specs.declared.Row.{Row}
use Rattle.run.specs.Run as run
use Rattle.run.specs.Run.{plan, no_plan, «open»}
use Rattle.blocks.specs.Flat.{cut_place}
use Rattle.run.specs.Listing.{listed, row_place}
use Rattle.running.specs.declared.Answer.{Answer}
use Rattle.running.specs.Running as running
use Rattle.running.specs.Running.{returned}
use Rattle.rows.specs.Rows as rows
use Rattle.rows.specs.Rows.{row_checks, row_run, RowRuns}
use Rattle.historian.specs.Entries.{answer_number, entry_checks, RunEntryOutcome, run_entry_outcome, made_bytes, run_entry, ask_checks, AskEntryOutcome, ask_entry_outcome, ask_entry, EntryRuns, EntryAsks}
use Rattle.historian.specs.ReplayEntry.{replay_number, replay_entry_checks, ReplayEntryOutcome, replay_entry_outcome, replay_entry, EntryReplays}
use Rattle.demands.proofs.RefusalNumbers.{sheet_numbers, read-gives, write-gives, rebuild_numbers, rebuild-gives, cut_numbers, write-cuts-gives}
use Rattle.demands.proofs.RefusalNumbers.{question_numbers, question-gives, replay_numbers, replay-gives, replay-byte, run_numbers, run-gives, run-byte}

-- ---- read_model
module _ (s frame costs marks : List ℕ) {r : Answered Counts} {f c m : List ℕ} (done : reading.ReadsModel s frame costs marks r f c m) where
  pub read-model-judged : Judged (λ (o : reading.ReadOutcome). told_number o.answer) (λ n. reading.read_outcome (Refused n) frame costs marks) (read_checks s frame costs marks)
      (reading.read_outcome (Done (counts (columns_of s) (steps_of s))) (over (frame_of (of_sheet s)) frame) (over (costs_of (of_sheet s)) costs) (over (marks_of (of_sheet s)) marks)) (reading.read_outcome r f c m)
  read-model-judged = subst (Judged _ _ _ _) (sym done) (sheet.reader s frame costs marks)

  pub read-model-numbers : has sheet_numbers (told_number r) ≡ true
  read-model-numbers = ap (has sheet_numbers) read-model-judged.told ∙ read-gives s frame costs marks

-- ---- write_model
module _ (columns steps : ℕ) (frame costs marks sheet₀ : List ℕ) {r : Answered ℕ} {s : List ℕ} (done : writing.WritesModel columns steps frame costs marks sheet₀ r s) where
  abbrev P : Source
  P = of_tables columns steps frame costs marks

  pub write-model-judged : Judged (λ (o : writing.WriteOutcome). told_number o.answer) (λ n. writing.write_outcome (Refused n) sheet₀) (write_checks P sheet₀)
      (writing.write_outcome (Done (model_bytes (columns_in P) (steps_in P))) (over (sheet_of (entries P)) sheet₀)) (writing.write_outcome r s)
  write-model-judged = subst (Judged _ _ _ _) (sym done) (sheet.writer P sheet₀)

  pub write-model-numbers : has sheet_numbers (told_number r) ≡ true
  write-model-numbers = ap (has sheet_numbers) write-model-judged.told ∙ write-gives P sheet₀

-- ---- rebuild
module _ (model s cuts : List ℕ) {r : Answered ℕ} {c : List ℕ} (done : rebuilding.Rebuilds model s cuts r c) where
  pub rebuild-judged : Judged (λ (o : rebuilding.RebuildOutcome). rebuilding.number o.answer) (λ n. rebuilding.rebuild_outcome (Refused n) cuts) (rebuild_checks model s cuts)
      (rebuilding.rebuild_outcome (Done (count_of (tail_of s))) (over (cut_list s) cuts)) (rebuilding.rebuild_outcome r c)
  rebuild-judged = subst (Judged _ _ _ _) (sym done) (cut.rebuilder model s cuts)

  pub rebuild-numbers : has rebuild_numbers (rebuilding.number r) ≡ true
  rebuild-numbers = ap (has rebuild_numbers) rebuild-judged.told ∙ rebuild-gives model s cuts

-- ---- write_cuts
module _ (model : List ℕ) (count : ℕ) (cuts sheet₀ : List ℕ) {r : Answered ℕ} {s : List ℕ} (done : cut_writing.WritesCuts model count cuts sheet₀ r s) where
  pub write-cuts-judged : Judged (λ (o : cut_writing.WriteCutsOutcome). cut_writing.number o.answer) (λ n. cut_writing.write_cuts_outcome (Refused n) sheet₀) (write_cuts_checks model count cuts sheet₀)
      (cut_writing.write_cuts_outcome (Done (length model + cut_bytes count)) (over (cut_sheet_of model count cuts) sheet₀)) (cut_writing.write_cuts_outcome r s)
  write-cuts-judged = subst (Judged _ _ _ _) (sym done) (cut.writer model count cuts sheet₀)

  pub write-cuts-numbers : has cut_numbers (cut_writing.number r) ≡ true
  write-cuts-numbers = ap (has cut_numbers) write-cuts-judged.told ∙ write-cuts-gives model count cuts sheet₀

-- ---- question
module _ (model s states est : List ℕ) {r : Answered ℕ} {l : List ℕ} (done : question.Asks model s states est r l) where
  pub question-judged : Judged (λ (o : question.QuestionOutcome). question.number o.answer) (λ n. question.question_outcome (Refused n) est) (question.question_checks model s states est)
      (question.question_outcome (Done (states_in (task_on model) states)) (over (estimates_of (task_on model) (cuts_of s) states) est)) (question.question_outcome r l)
  question-judged = subst (Judged _ _ _ _) (sym done) (asked.asker model s states est)

  pub question-numbers : has question_numbers (question.number r) ≡ true
  question-numbers = ap (has question_numbers) question-judged.told ∙ question-gives model s states est

-- ---- replay
module _ (model s log : List ℕ) (rs : List ℤ) {r : Replayed} {l : List ℤ} (done : replay.Replays model s log rs r l) where
  pub replay-judged : Judged (λ (o : replay.ReplayOutcome). replay.number o.answer) (λ n. replay.replay_outcome (replay.refused (task_on model) log n) rs)
      (replay.replay_checks model s log rs)
      (replay.replay_outcome (replay.Rows (length log)) (over (row_list (task_on model) (cuts_of s) log) rs)) (replay.replay_outcome r l)
  replay-judged = subst (Judged _ _ _ _) (sym done) (replays.replayer model s log rs)

  pub replay-numbers : has replay_numbers (replay.number r) ≡ true
  replay-numbers = ap (has replay_numbers) replay-judged.told ∙ replay-gives model s log rs

-- ---- run
module _ (s : List ℕ) (room : ℕ) (cuts rs : List ℕ) {r : Answered Answer} {c l : List ℕ} (done : running.Runs s room cuts rs r c l) where
  pub run-judged : Judged (λ (o : running.RunOutcome). running.number o.answer) (λ n. running.run_outcome (Refused n) cuts rs) (running.run_checks s room cuts rs)
      (running.made (task_on s) (run.run (task_on s) room) cuts rs) (running.run_outcome r c l)
  run-judged = subst (Judged _ _ _ _) (sym done) (ran.runner s room cuts rs)

  pub run-numbers : has run_numbers (running.number r) ≡ true
  run-numbers = ap (has run_numbers) run-judged.told ∙ run-gives s room cuts rs

-- ---- the run of crate rows
module _ (s : List ℕ) (room : ℕ) (cuts : List ℕ) (rs : List Row) where
  abbrev rows_made : rows.RowRunOutcome
  rows_made = let o = run.run (task_on s) room in rows.row_run_outcome (Done (returned (task_on s) (run.block_count o) o.answer)) (over (listed cut_place o.made) cuts) (over (run.rows_of (task_on s) o.answer) rs)

  row-runner : Judged (λ (o : rows.RowRunOutcome). running.number o.answer) (λ n. rows.row_run_outcome (Refused n) cuts rs) (row_checks s room cuts rs) rows_made (row_run s room cuts rs)
  unfolding row_run running.number
  row-runner =
      let t = task_on s in
      judges _ _ ran.numbers refl (row_checks s room cuts rs) (ran.run-numbers s room cuts (listed row_place rs)) _
      (ran.told-number t (run.block_count (run.run t room)) (run.run t room).answer) refl

  module _ {a : Answered Answer} {c : List ℕ} {l : List Row} (done : RowRuns s room cuts rs a c l) where
    pub row-run-judged : Judged (λ (o : rows.RowRunOutcome). running.number o.answer) (λ n. rows.row_run_outcome (Refused n) cuts rs) (row_checks s room cuts rs) rows_made (rows.row_run_outcome a c l)
    row-run-judged = subst (Judged _ _ _ _) (sym done) row-runner

    pub row-run-numbers : has run_numbers (running.number a) ≡ true
    row-run-numbers = ap (has run_numbers) row-run-judged.told ∙ run-gives s room cuts (listed row_place rs)

-- ---- elhavir_run: an answer of kind 0, below 2^56, is a refusal's number; one of another kind refuses nothing
abbrev pub refusal_in : ℕ → ℕ
refusal_in r = cond (ltb r (2 ^ 56)) r 0

large : (t : Task) (b : ℕ) (a : run.Answer) → 2 ^ 56 ≤ answer_number (Done (returned t b a))
unfolding answer_number returned
large t b (plan ss) = omega arith
large t b no_plan = omega arith
large t b («open» e) = omega arith

module _ (s : List ℕ) (room : ℕ) (cuts rs : List ℕ) where
  abbrev R : ℕ
  R = refusal (entry_checks s room cuts rs)

  pub entry-made : R ≡ 0 → run_entry s room cuts rs ≡ made_bytes (task_on s) (run.run (task_on s) room) cuts rs
  unfolding run_entry
  entry-made z = simp (eq-eqb R 0 z)

  pub entry-refused : (R ≡ 0 → ⊥) → run_entry s room cuts rs ≡ run_entry_outcome R cuts rs
  unfolding run_entry
  entry-refused z = simp (ne_eqb R 0 z)

  entry-runner : Judged (λ (o : RunEntryOutcome). refusal_in o.answer) (λ n. run_entry_outcome n cuts rs) (entry_checks s room cuts rs) (made_bytes (task_on s) (run.run (task_on s) room) cuts rs) (run_entry s room cuts rs)
  unfolding run_entry made_bytes
  entry-runner =
      let o = run.run (task_on s) room in
      let v = answer_number (Done (returned (task_on s) (run.block_count o) o.answer)) in
      judges _ _ ran.numbers refl (entry_checks s room cuts rs) (ran.run-numbers s room (values_on cuts) (values_on rs)) _
      (ap (λ (b : Bool). cond b v 0) (le-ltb v (2 ^ 56) (large (task_on s) (run.block_count o) o.answer)))
      (ap (λ (b : Bool). cond b R 0) (lt-ltb R (2 ^ 56) (omega (arith, run-byte s room (values_on cuts) (values_on rs)))))

  module _ {r : ℕ} {c l : List ℕ} (done : EntryRuns s room cuts rs r c l) where
    pub elhavir-run-judged : Judged (λ (o : RunEntryOutcome). refusal_in o.answer) (λ n. run_entry_outcome n cuts rs) (entry_checks s room cuts rs) (made_bytes (task_on s) (run.run (task_on s) room) cuts rs) (run_entry_outcome r c l)
    elhavir-run-judged = subst (Judged _ _ _ _) (sym done) entry-runner

    pub elhavir-run-numbers : has run_numbers (refusal_in r) ≡ true
    elhavir-run-numbers = ap (has run_numbers) elhavir-run-judged.told ∙ run-gives s room (values_on cuts) (values_on rs)

-- ---- elhavir_question: 0 when done, else the refusal's number
module _ (model s states est : List ℕ) where
  abbrev pub asked-made : AskEntryOutcome
  asked-made = ask_entry_outcome 0 (over (bytes_of (estimates_of (task_on model) (cuts_of s) states)) est)

  pub entry-asker : Judged (λ (o : AskEntryOutcome). o.answer) (λ n. ask_entry_outcome n est) (ask_checks model s states est) asked-made (ask_entry model s states est)
  unfolding ask_entry
  entry-asker = judges _ _ asked.numbers refl (ask_checks model s states est) (asked.question-numbers model s states (values_on est)) _ refl refl

  module _ {r : ℕ} {l : List ℕ} (done : EntryAsks model s states est r l) where
    pub elhavir-question-judged : Judged (λ (o : AskEntryOutcome). o.answer) (λ n. ask_entry_outcome n est) (ask_checks model s states est) asked-made (ask_entry_outcome r l)
    elhavir-question-judged = subst (Judged _ _ _ _) (sym done) entry-asker

    pub elhavir-question-numbers : has question_numbers r ≡ true
    elhavir-question-numbers = ap (has question_numbers) elhavir-question-judged.told ∙ question-gives model s states (values_on est)

-- ---- elhavir_replay: an answer of kind 0, below 2^56, has a refusal's number as its value, and 14 its row in the field of the steps; one of another kind
-- refuses nothing
abbrev pub replay_refusal : ℕ → ℕ
replay_refusal r = cond (ltb r (2 ^ 56)) (r % 2 ^ 32) 0

pub refusal-low : (r : ℕ) → r < 2 ^ 56 → replay_refusal r ≡ r % 2 ^ 32
refusal-low r h = ap (λ (b : Bool). cond b (r % 2 ^ 32) 0) (lt-ltb r (2 ^ 56) h)

pub refusal-none : (r : ℕ) → 2 ^ 56 ≤ r → replay_refusal r ≡ 0
refusal-none r h = ap (λ (b : Bool). cond b (r % 2 ^ 32) 0) (le-ltb r (2 ^ 56) h)

module _ (model s log rs : List ℕ) where
  abbrev steps : List ℕ
  steps = values_on log

  abbrev Q : ℕ
  Q = refusal (replay_entry_checks model s log rs)

  -- the row of 14 is one of a log that is not too long
  pub row-bad : Q ≡ 14 → bad_row (task_on model) steps ≡ 0 → ⊥
  row-bad = replays.stopped-bad model s steps (values_on rs)

  pub row-few : Q ≡ 14 → bad_row (task_on model) steps ≤ limits.log
  row-few e =
      let f = bad-first (task_on model) steps (row-bad e) in
      omega (arith, f.counted, f.there, replays.stopped-short model s steps (values_on rs) e)

  told_back : replay_refusal (replay_number (replay.refused (task_on model) steps Q)) ≡ Q
  unfolding replay.refused replay_number
  told_back = split (eqb Q 14) refl
    where
      split : (b : Bool) → eqb Q 14 ≡ b → replay_refusal (replay_number (cond b (replay.Stopped (bad_row (task_on model) steps)) (replay.Refused Q))) ≡ Q
      split true h =
          let e : Q ≡ 14 = eqb-true Q 14 h in
          refusal-low (bad_row (task_on model) steps * 2 ^ 32 + 14) (omega (arith, row-few e)) ∙ omega (arith, e)
      split false h = let b = replay-byte model s steps (values_on rs) in refusal-low Q (omega (arith, b)) ∙ omega (arith, b)

  abbrev rows-made : ReplayEntryOutcome
  rows-made = replay_entry_outcome (replay_number (replay.Rows (length steps))) (over (signed_bytes (row_list (task_on model) (cuts_of s) steps)) rs)

  entry-replayer : Judged (λ (o : ReplayEntryOutcome). replay_refusal o.answer) (λ n. replay_entry_outcome (replay_number (replay.refused (task_on model) steps n)) rs)
      (replay_entry_checks model s log rs) rows-made (replay_entry model s log rs)
  unfolding replay_entry replay_number
  entry-replayer =
      judges _ _ replays.numbers refl (replay_entry_checks model s log rs) (replays.replay-numbers model s steps (values_on rs)) _
      (refusal-none (replay_number (replay.Rows (length steps))) (omega arith)) told_back

  module _ {r : ℕ} {l : List ℕ} (done : EntryReplays model s log rs r l) where
    pub elhavir-replay-judged : Judged (λ (o : ReplayEntryOutcome). replay_refusal o.answer)
        (λ n. replay_entry_outcome (replay_number (replay.refused (task_on model) steps n)) rs)
        (replay_entry_checks model s log rs) rows-made (replay_entry_outcome r l)
    elhavir-replay-judged = subst (Judged _ _ _ _) (sym done) entry-replayer

    pub elhavir-replay-numbers : has replay_numbers (replay_refusal r) ≡ true
    elhavir-replay-numbers = ap (has replay_numbers) elhavir-replay-judged.told ∙ replay-gives model s steps (values_on rs)
