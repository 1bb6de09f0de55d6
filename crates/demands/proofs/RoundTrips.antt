-- Demand 2: "Sheets written and read back give the same model and cuts, and accepted bytes come back the same." The premises of each theorem are the
-- contracts of the reader and of the writer, and what the types say: a cost is a `u16`, a wanted set a `u32`, a sheet is bytes. A list that is lent
-- may be longer than what is put in it; the sheet is its first bytes. The second call has no other outcome: it is not refused.
use Prim.Native.Nat.{ℕ, ◌+◌, ◌*◌, ◌^◌, ◌≤◌, ◌<◌}
use mathlib.Core.Path.{◌≡◌, sym, ap, ◌∙◌}
use mathlib.Core.List.{List}
use lib.ListN.{length, get_or, take, drop}
use lib.Seq.{take-append_seam}
use borrow.Author.Tests.{eq-eqb}
use Rattle.task.specs.Loops.{over}
use Rattle.fields.specs.Judging.{judged, refusal, checks_of}
use Rattle.fields.specs.Packing.{sheet_of}
use Rattle.fields.proofs.JudgingLaws.{neither, refusal-append}
use Rattle.fields.proofs.PutLaws.{Bytes}
use Rattle.sheets.specs.ModelSheet.{Source, columns_in, steps_in, columns_of, steps_of, of_sheet, entries, model_bytes, judge_sheet, sheet_checks}
use Rattle.sheets.specs.LentTables.{frame_of, costs_of, marks_of, of_tables, read_checks, write_checks}
use Rattle.sheet_laws.proofs.TablesBack as tables
use Rattle.sheet_laws.proofs.Refusals as sheet
use Rattle.reading.specs.Reading as reading
use Rattle.reading.specs.Reading.{Counts, counts}
use Rattle.fields.specs.Refusals.{Answered, Done, Refused, told_number}
use Rattle.writing.specs.Writing as writing
use Rattle.sheets.specs.Holding.{task_on}
use Rattle.sheets.proofs.RoundLaws.{written-length}
use Rattle.cut_sheets.specs.CutPart.{cut_entries, cut_bytes, count_of}
use Rattle.cut_sheets.specs.CutSheet.{tail_of, cut_sheet_checks, cut_list, rebuild_checks, of_cuts, cut_sheet_of, given_checks, write_cuts_checks}
use Rattle.cut_laws.proofs.CutsBack as back
use Rattle.cut_laws.proofs.Refusals as cut
use Rattle.cut_reading.specs.Rebuilding as rebuilding
use Rattle.cut_writing.specs.CutWriting as cut_writing

-- how many bytes or cuts an answer tells
count_told : Answered ℕ → ℕ
count_told (Done n) = n
count_told (Refused n) = 0

-- the counts that a reader tells
counts_told : Answered Counts → Counts
counts_told (Done c) = c
counts_told (Refused n) = counts 0 0

-- the tables that a reader has filled, as a writer is lent them
tables_told : reading.ReadOutcome → Source
tables_told o = of_tables (counts_told o.answer).columns (counts_told o.answer).steps o.frame o.costs o.marks

-- what was put over the front of a list is its first values
front_of : (new old : List ℕ) → take (length new) (over new old) ≡ new
unfolding over
front_of new old = take-append_seam new (drop (length new) old)

-- ---- the model sheet

-- written and read back: the reader holds the writer's columns, steps and tables
module _ (n m : ℕ) (frame costs marks sheet₀ : List ℕ) (bound : (j : ℕ) → j < m → get_or costs j 0 < 65536) {b : ℕ} {s : List ℕ} (wrote : writing.WritesModel n m frame costs marks sheet₀ (Done b) s) where
  abbrev P : Source
  P = of_tables n m frame costs marks

  abbrev W : ℕ
  W = refusal (write_checks P sheet₀)

  write-quiet : W ≡ 0
  write-quiet = sym (ap (λ (o : writing.WriteOutcome). told_number o.answer) wrote ∙ (sheet.writer P sheet₀).told)

  fields-good : judged (entries P) ≡ 0
  unfolding write_checks judged
  fields-good = (neither (refusal (checks_of (entries P))) _ (sym (refusal-append (checks_of (entries P)) _) ∙ write-quiet)).0

  whole-write : writing.write_outcome (Done b) s ≡ writing.write_outcome (Done (model_bytes (columns_in P) (steps_in P))) (over (sheet_of (entries P)) sheet₀)
  unfolding writing.writing
  whole-write = wrote ∙ simp (eq-eqb W 0 write-quiet)

  bound-in : (j : ℕ) → j < steps_in P → (P.cost j).value < 65536
  unfolding of_tables
  bound-in j h = bound j h

  -- the bytes told are the sheet
  pub sheet-is : take b s ≡ sheet_of (entries P)
  unfolding count_told entries
  sheet-is =
      let l : b ≡ length (sheet_of (entries P)) = ap (λ (o : writing.WriteOutcome). count_told o.answer) whole-write ∙ sym (written-length P fields-good bound-in) in
      ap (λ (k : ℕ). take k s) l ∙ ap (λ (o : writing.WriteOutcome). take (length (sheet_of (entries P))) o.sheet) whole-write ∙ front_of (sheet_of (entries P)) sheet₀

  pub model-back : (f c k : List ℕ) → n * 3 ≤ length f → m ≤ length c → m * (n * 2) ≤ length k → {r : Answered Counts} {f' c' k' : List ℕ} → reading.ReadsModel (take b s) f c k r f' c' k'
      → reading.read_outcome r f' c' k' ≡ reading.read_outcome (Done (counts n m)) (over (take (n * 3) frame) f) (over (take m costs) c) (over (take (m * (n * 2)) marks) k)
  model-back f c k hf hc hk read = read ∙ ap (λ (x : List ℕ). reading.reading x f c k) sheet-is ∙ tables.tables-back n m frame costs marks fields-good bound f c k hf hc hk

-- accepted bytes, read and written again, come back the same
module _ (s f c k : List ℕ) (bs : Bytes s) {n m : ℕ} {f' c' k' : List ℕ} (read : reading.ReadsModel s f c k (Done (counts n m)) f' c' k') where
  abbrev R : ℕ
  R = refusal (read_checks s f c k)

  read-quiet : R ≡ 0
  read-quiet = sym (ap (λ (o : reading.ReadOutcome). told_number o.answer) read ∙ (sheet.reader s f c k).told)

  sheet-good : judge_sheet s ≡ 0
  unfolding read_checks judge_sheet
  sheet-good = (neither (refusal (sheet_checks s)) _ (sym (refusal-append (sheet_checks s) _) ∙ read-quiet)).0

  whole-read : reading.read_outcome (Done (counts n m)) f' c' k' ≡ reading.read_outcome (Done (counts (columns_of s) (steps_of s))) (over (frame_of (of_sheet s)) f) (over (costs_of (of_sheet s)) c) (over (marks_of (of_sheet s)) k)
  unfolding reading.reading
  whole-read = read ∙ simp (eq-eqb R 0 read-quiet)

  pub model-bytes-back : (sheet₀ : List ℕ) → length s ≤ length sheet₀ → {r : Answered ℕ} {s' : List ℕ} → writing.WritesModel n m f' c' k' sheet₀ r s'
      → writing.write_outcome r s' ≡ writing.write_outcome (Done (length s)) (over s sheet₀)
  unfolding tables_told counts_told
  model-bytes-back sheet₀ h wrote = wrote ∙ ap (λ (o : reading.ReadOutcome). writing.writing (tables_told o) sheet₀) whole-read ∙ tables.bytes_back s sheet-good bs f c k sheet₀ h

-- ---- the cut sheet

-- written and rebuilt: the reader has as many cuts, and the values that the writer was to read
module _ (model : List ℕ) (count : ℕ) (cuts sheet₀ : List ℕ) (sets : (i : ℕ) → i < count → get_or cuts (i * 3 + 2) 0 < 2 ^ 32) {b : ℕ} {s : List ℕ} (wrote : cut_writing.WritesCuts model count cuts sheet₀ (Done b) s) where
  abbrev K : ℕ
  K = refusal (write_cuts_checks model count cuts sheet₀)

  cuts-quiet : K ≡ 0
  unfolding cut_writing.number
  cuts-quiet = sym (ap (λ (o : cut_writing.WriteCutsOutcome). cut_writing.number o.answer) wrote ∙ (cut.writer model count cuts sheet₀).told)

  given-quiet : (judge_sheet model ≡ 0) × (judged (cut_entries (task_on model) (of_cuts count cuts)) ≡ 0)
  unfolding write_cuts_checks given_checks judge_sheet judged
  given-quiet =
      let g : refusal (given_checks model count cuts) ≡ 0 = (neither (refusal (given_checks model count cuts)) _ (sym (refusal-append (given_checks model count cuts) _) ∙ cuts-quiet)).0 in
      neither (refusal (sheet_checks model)) _ (sym (refusal-append (sheet_checks model) _) ∙ g)

  whole-cuts : cut_writing.write_cuts_outcome (Done b) s ≡ cut_writing.write_cuts_outcome (Done (length model + cut_bytes count)) (over (cut_sheet_of model count cuts) sheet₀)
  unfolding cut_writing.writing_cuts
  whole-cuts = wrote ∙ simp (eq-eqb K 0 cuts-quiet)

  -- the bytes told are the cut sheet
  pub cut-sheet-is : take b s ≡ cut_sheet_of model count cuts
  unfolding count_told
  cut-sheet-is =
      let S = cut_sheet_of model count cuts in
      let l : b ≡ length S = ap (λ (o : cut_writing.WriteCutsOutcome). count_told o.answer) whole-cuts ∙ sym (back.sheet-long model count cuts given-quiet.0 given-quiet.1 sets) in
      ap (λ (k : ℕ). take k s) l ∙ ap (λ (o : cut_writing.WriteCutsOutcome). take (length S) o.sheet) whole-cuts ∙ front_of S sheet₀

  pub cuts_back : (c₀ : List ℕ) → count * 3 ≤ length c₀ → {r : Answered ℕ} {c : List ℕ} → rebuilding.Rebuilds model (take b s) c₀ r c
      → rebuilding.rebuild_outcome r c ≡ rebuilding.rebuild_outcome (Done count) (over (take (count * 3) cuts) c₀)
  cuts_back c₀ h rebuilt = rebuilt ∙ ap (λ (x : List ℕ). rebuilding.rebuilding model x c₀) cut-sheet-is ∙ back.cuts_back model count cuts given-quiet.0 given-quiet.1 sets c₀ h

-- accepted bytes: the cuts that were rebuilt, written again with the model from the list that holds them, come back the same
module _ (model s c₀ : List ℕ) (bs : Bytes s) {n : ℕ} {c : List ℕ} (rebuilt : rebuilding.Rebuilds model s c₀ (Done n) c) where
  abbrev Q : ℕ
  Q = refusal (rebuild_checks model s c₀)

  rebuild-quiet : Q ≡ 0
  unfolding rebuilding.number
  rebuild-quiet = sym (ap (λ (o : rebuilding.RebuildOutcome). rebuilding.number o.answer) rebuilt ∙ (cut.rebuilder model s c₀).told)

  cut-sheet-good : refusal (cut_sheet_checks model s) ≡ 0
  unfolding rebuild_checks
  cut-sheet-good = (neither (refusal (cut_sheet_checks model s)) _ (sym (refusal-append (cut_sheet_checks model s) _) ∙ rebuild-quiet)).0

  whole-rebuild : rebuilding.rebuild_outcome (Done n) c ≡ rebuilding.rebuild_outcome (Done (count_of (tail_of s))) (over (cut_list s) c₀)
  unfolding rebuilding.rebuilding
  whole-rebuild = rebuilt ∙ simp (eq-eqb Q 0 rebuild-quiet)

  pub cut-bytes-back : (sheet₀ : List ℕ) → length s ≤ length sheet₀ → {r : Answered ℕ} {s' : List ℕ} → cut_writing.WritesCuts model n c sheet₀ r s'
      → cut_writing.write_cuts_outcome r s' ≡ cut_writing.write_cuts_outcome (Done (length s)) (over s sheet₀)
  unfolding count_told
  cut-bytes-back sheet₀ h wrote = wrote ∙ ap (λ (o : rebuilding.RebuildOutcome). cut_writing.writing_cuts model (count_told o.answer) o.cuts sheet₀) whole-rebuild ∙ back.bytes_back model s cut-sheet-good bs c₀ sheet₀ h
