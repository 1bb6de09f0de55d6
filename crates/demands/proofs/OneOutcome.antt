-- 01, "What the contracts have to determine": for each input, refusals too, a contract leaves one possible result and one possible content of the
-- lent tables. Each theorem takes the contract's equation twice, for two outcomes that it permits, and shows that they are equal. The results are the code's,
-- of which a contract says what is told: numbers tell refusals apart.
use Prim.Native.Nat.{ℕ, ◌*◌}
use mathlib.Core.Path.{◌≡◌, sym, ap, ◌∙◌}
use mathlib.Core.List.{List}
use lib.IntN.{ℤ}
use lib.ListN.{take}
use Rattle.std.specs.Prelude.{Result}
use Rattle.task.specs.declared.Shape.{Shape}
use Rattle.fields.specs.declared.refusal.Refusal.{Refusal}
use Rattle.fields.specs.Refusals.{told}
use Rattle.fields.proofs.RefusalLaws.{same_told}
use Rattle.reading.specs.Reading as reading
use Rattle.reading.specs.Reading.{told_counts}
use Rattle.writing.specs.Writing as writing
use Rattle.sheet_laws.proofs.FirstPlaces as tables
use Rattle.cut_reading.specs.Rebuilding as rebuilding
use Rattle.cut_writing.specs.CutWriting as cut_writing
use Rattle.cut_laws.proofs.FirstPlaces as cut_tables
use Rattle.asking.specs.Question as question
use Rattle.replay.specs.declared.ReplayRefusal.{ReplayRefusal}
use Rattle.replay.specs.Replay as replay
use Rattle.replay.specs.Replay.{told_replay}
use Rattle.replay.proofs.ToldLaws.{same_told_replay}
use Rattle.running.specs.declared.Answer.{Answer}
use Rattle.running.specs.Running as running
use Rattle.historian.specs.Entries as entries
use Rattle.historian.specs.ReplayEntry as replay_entry
use Rattle.reading.proofs.AnswerLaws.{same_read}

-- ---- the library

-- read_model
pub read-model-one : (sheet frame costs marks : List ℕ) {r r' : Result Shape Refusal} {f f' c c' m m' : List ℕ}
    → reading.ReadsModel sheet frame costs marks (told_counts r) f c m
    → reading.ReadsModel sheet frame costs marks (told_counts r') f' c' m'
    → (r ≡ r') × (f ≡ f') × (c ≡ c') × (m ≡ m')
read-model-one sheet frame costs marks p q =
    let e = p ∙ sym q in (
      same_read _ _ (ap (λ (o : reading.ReadOutcome). o.answer) e),
      ap (λ (o : reading.ReadOutcome). o.frame) e,
      ap (λ (o : reading.ReadOutcome). o.costs) e,
      ap (λ (o : reading.ReadOutcome). o.marks) e,
    )

-- write_model
pub write-model-one : (columns steps : ℕ) (frame costs marks sheet : List ℕ) {r r' : Result ℕ Refusal} {s s' : List ℕ}
    → writing.WritesModel columns steps frame costs marks sheet (told r) s
    → writing.WritesModel columns steps frame costs marks sheet (told r') s'
    → (r ≡ r') × (s ≡ s')
write-model-one columns steps frame costs marks sheet p q =
    let e = p ∙ sym q in
    (same_told _ _ (ap (λ (o : writing.WriteOutcome). o.answer) e), ap (λ (o : writing.WriteOutcome). o.sheet) e)

-- rebuild
pub rebuild-one : (model sheet cuts : List ℕ) {r r' : Result ℕ Refusal} {c c' : List ℕ}
    → rebuilding.Rebuilds model sheet cuts (told r) c
    → rebuilding.Rebuilds model sheet cuts (told r') c'
    → (r ≡ r') × (c ≡ c')
rebuild-one model sheet cuts p q =
    let e = p ∙ sym q in
    (same_told _ _ (ap (λ (o : rebuilding.RebuildOutcome). o.answer) e), ap (λ (o : rebuilding.RebuildOutcome). o.cuts) e)

-- write_cuts
pub write-cuts-one : (model : List ℕ) (count : ℕ) (cuts sheet : List ℕ) {r r' : Result ℕ Refusal} {s s' : List ℕ}
    → cut_writing.WritesCuts model count cuts sheet (told r) s
    → cut_writing.WritesCuts model count cuts sheet (told r') s'
    → (r ≡ r') × (s ≡ s')
write-cuts-one model count cuts sheet p q =
    let e = p ∙ sym q in
    (same_told _ _ (ap (λ (o : cut_writing.WriteCutsOutcome). o.answer) e), ap (λ (o : cut_writing.WriteCutsOutcome). o.sheet) e)

-- question
pub question-one : (model sheet states estimates : List ℕ) {r r' : Result ℕ Refusal} {l l' : List ℕ}
    → question.Asks model sheet states estimates (told r) l
    → question.Asks model sheet states estimates (told r') l'
    → (r ≡ r') × (l ≡ l')
question-one model sheet states estimates p q =
    let e = p ∙ sym q in
    (same_told _ _ (ap (λ (o : question.QuestionOutcome). o.answer) e), ap (λ (o : question.QuestionOutcome). o.estimates) e)

-- run
pub run-one : (sheet : List ℕ) (room : ℕ) (cuts rows : List ℕ) {r r' : Result Answer Refusal} {c c' l l' : List ℕ}
    → running.Runs sheet room cuts rows (told r) c l
    → running.Runs sheet room cuts rows (told r') c' l'
    → (r ≡ r') × (c ≡ c') × (l ≡ l')
run-one sheet room cuts rows p q =
    let e = p ∙ sym q in
    (same_told _ _ (ap (λ (o : running.RunOutcome). o.answer) e), ap (λ (o : running.RunOutcome). o.cuts) e, ap (λ (o : running.RunOutcome). o.rows) e)

-- replay
pub replay-one : (model sheet log : List ℕ) (rows : List ℤ) {r r' : Result ℕ ReplayRefusal} {l l' : List ℤ}
    → replay.Replays model sheet log rows (told_replay r) l
    → replay.Replays model sheet log rows (told_replay r') l'
    → (r ≡ r') × (l ≡ l')
replay-one model sheet log rows p q =
    let e = p ∙ sym q in
    (same_told_replay _ _ (ap (λ (o : replay.ReplayOutcome). o.answer) e), ap (λ (o : replay.ReplayOutcome). o.rows) e)

-- ---- the historian

-- elhavir_run
pub elhavir-run-one : (sheet : List ℕ) (room : ℕ) (cuts rows : List ℕ) {r r' : ℕ} {c c' l l' : List ℕ}
    → entries.EntryRuns sheet room cuts rows r c l
    → entries.EntryRuns sheet room cuts rows r' c' l'
    → (r ≡ r') × (c ≡ c') × (l ≡ l')
elhavir-run-one sheet room cuts rows p q =
    let e = p ∙ sym q in
    (ap (λ (o : entries.RunEntryOutcome). o.answer) e, ap (λ (o : entries.RunEntryOutcome). o.cuts) e, ap (λ (o : entries.RunEntryOutcome). o.rows) e)

-- elhavir_question
pub elhavir-question-one : (model sheet states estimates : List ℕ) {r r' : ℕ} {l l' : List ℕ}
    → entries.EntryAsks model sheet states estimates r l
    → entries.EntryAsks model sheet states estimates r' l'
    → (r ≡ r') × (l ≡ l')
elhavir-question-one model sheet states estimates p q =
    let e = p ∙ sym q in
    (ap (λ (o : entries.AskEntryOutcome). o.answer) e, ap (λ (o : entries.AskEntryOutcome). o.estimates) e)

-- elhavir_replay
pub elhavir-replay-one : (model sheet log rows : List ℕ) {r r' : ℕ} {l l' : List ℕ}
    → replay_entry.EntryReplays model sheet log rows r l
    → replay_entry.EntryReplays model sheet log rows r' l'
    → (r ≡ r') × (l ≡ l')
elhavir-replay-one model sheet log rows p q =
    let e = p ∙ sym q in
    (ap (λ (o : replay_entry.ReplayEntryOutcome). o.answer) e, ap (λ (o : replay_entry.ReplayEntryOutcome). o.rows) e)

-- ---- 01, "Refusal numbers": "Input places beyond a writer's counts are not read." Tables that agree on the first places, as many as the counts say, leave the
-- same one outcome, refusals too. They agree when `take` gives the same of both, so that one ends before these places where the other does.

-- write_model
pub write-model-reads : (columns steps : ℕ) (frame frame' costs costs' marks marks' sheet : List ℕ) {r r' : Result ℕ Refusal} {s s' : List ℕ}
    → take (columns * 3) frame ≡ take (columns * 3) frame'
    → take steps costs ≡ take steps costs'
    → take (steps * (columns * 2)) marks ≡ take (steps * (columns * 2)) marks'
    → writing.WritesModel columns steps frame costs marks sheet (told r) s
    → writing.WritesModel columns steps frame' costs' marks' sheet (told r') s'
    → (r ≡ r') × (s ≡ s')
write-model-reads columns steps frame frame' costs costs' marks marks' sheet f c k p q =
    write-model-one columns steps frame' costs' marks' sheet (p ∙ tables.first-places columns steps frame frame' costs costs' marks marks' f c k sheet) q

-- write_cuts
pub write-cuts-reads : (model : List ℕ) (count : ℕ) (cuts cuts' sheet : List ℕ) {r r' : Result ℕ Refusal} {s s' : List ℕ}
    → take (count * 3) cuts ≡ take (count * 3) cuts'
    → cut_writing.WritesCuts model count cuts sheet (told r) s
    → cut_writing.WritesCuts model count cuts' sheet (told r') s'
    → (r ≡ r') × (s ≡ s')
write-cuts-reads model count cuts cuts' sheet e p q = write-cuts-one model count cuts' sheet (p ∙ cut_tables.first-places model count cuts cuts' e sheet) q
