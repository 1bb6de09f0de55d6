-- Cuts written and rebuilt are the same, and a cut sheet whose cuts are rebuilt and written again is the same bytes.
use Prim.Native.Nat.{ℕ, ◌+◌, ◌*◌, ◌^◌, ◌≤◌, ◌<◌}
use native.Mathlib.Nat.{zero-add}
use mathlib.Core.Path.{◌≡◌, sym, ap, ◌∙◌, subst}
use mathlib.Core.List.{List, [], ◌∷◌}
use lib.ListN.{length, get_or, take, drop}
use borrow.Author.Tests.{eq-eqb, ltb-true, le-ltb}
use Rattle.task.specs.Loops.{over}
use Rattle.task.specs.Task.{Accepted}
use Rattle.fields.specs.Judging.{judged, refusal, each}
use Rattle.fields.specs.Refusals.{Done}
use Rattle.fields.proofs.JudgingLaws.{each-ext, refusal-append, go, passes, no-checks}
use Rattle.fields.proofs.PutLaws.{Bytes}
use Rattle.sheets.specs.ModelSheet.{judge_sheet}
use Rattle.sheets.specs.Holding.{task_on}
use Rattle.sheets.proofs.HeldTaskLaws.{accepted-task}
use Rattle.fields.proofs.PlaceLaws.{slices, three}
use Rattle.cut_sheets.specs.CutPart.{CutFields, cut_entries, cut_bytes, count_of, cut_on}
use Rattle.cut_sheets.specs.CutSheet.{tail_of, cut_sheet_checks, cut_values, cut_list, rebuild_checks, cut_lent, of_cuts, cut_sheet_of, given_checks, write_cuts_checks}
use Rattle.cut_sheets.proofs.CutPartLaws.{PartFine, part-fine}
use Rattle.cut_sheets.proofs.CutSheetLaws as sheet
use Rattle.cut_reading.specs.Rebuilding.{rebuild_outcome, rebuilding}
use Rattle.cut_writing.specs.CutWriting.{write_cuts_outcome as written, writing_cuts}

-- ---- written and rebuilt
module _ (model : List ℕ) (count : ℕ) (cuts : List ℕ) (ok : judge_sheet model ≡ 0) (good : judged (cut_entries (task_on model) (of_cuts count cuts)) ≡ 0) where
  fine : PartFine (task_on model) (of_cuts count cuts) count
  unfolding cut_entries of_cuts
  fine = part-fine (task_on model) (of_cuts count cuts) count good

  -- the list is long enough
  long : (i : ℕ) → i < count → i * 3 + 2 < length cuts
  unfolding of_cuts cut_lent
  long i h = ltb-true (i * 3 + 2) (length cuts) (fine.cut i h).wanted

  list-given : each count (cut_values (cut_lent cuts)) ≡ take (count * 3) cuts
  unfolding cut_values cut_lent
  list-given = slices _ 3 count 0 cuts (λ i h. sym (rw zero-add (three cuts (i * 3) (long i h))))

  module _ (sets : (i : ℕ) → i < count → get_or cuts (i * 3 + 2) 0 < 2 ^ 32) where
    abbrev S : List ℕ
    S = cut_sheet_of model count cuts

    v : Accepted (task_on model)
    unfolding task_on
    v = accepted-task model ok

    pub sheet-long : length S ≡ length model + cut_bytes count
    sheet-long = sheet.written-length model count cuts v ok good sets

    count-found : count_of (tail_of S) ≡ count
    count-found = sheet.written_count model count cuts v ok good sets

    -- what a reader finds: the places that the writer was to read
    pub list-found : cut_list S ≡ take (count * 3) cuts
    unfolding cut_list cut_values
    list-found =
        ap (λ (n : ℕ). each n (cut_values (cut_on (tail_of S)))) count-found
        ∙ each-ext count (cut_values (cut_on (tail_of S))) (cut_values (cut_lent cuts)) (λ i h. ap (λ (f : CutFields). f.block.value ∷ f.column.value ∷ f.wanted.value ∷ []) (sheet.written-fields model count cuts v ok good sets i h))
        ∙ list-given

    no-refusal : (c₀ : List ℕ) → count * 3 ≤ length c₀ → refusal (rebuild_checks model S c₀) ≡ 0
    unfolding rebuild_checks
    no-refusal c₀ h =
        refusal-append (cut_sheet_checks model S) _ ∙ go (refusal (cut_sheet_checks model S)) _ (sheet.written-accepted model count cuts v ok good sets)
        ∙ sym (passes 8 _ [] (le-ltb (length c₀) (count_of (tail_of S) * 3) (rw count-found h)) no-checks)

    -- written and rebuilt gives the same cuts, in any list that is long enough
    pub cuts_back : (c₀ : List ℕ) → count * 3 ≤ length c₀ → rebuilding model S c₀ ≡ rebuild_outcome (Done count) (over (take (count * 3) cuts) c₀)
    unfolding rebuilding
    cuts_back c₀ h = simp (eq-eqb (refusal (rebuild_checks model S c₀)) 0 (no-refusal c₀ h)) (λ k. rebuild_outcome (Done (count-found k)) (over (list-found k) c₀))

-- ---- rebuilt into any list, and written again
module _ (model s : List ℕ) (ok : refusal (cut_sheet_checks model s) ≡ 0) (bs : Bytes s) (c₀ : List ℕ) where
  abbrev K : ℕ
  K = count_of (tail_of s)

  abbrev L : List ℕ
  L = over (cut_list s) c₀

  given-fine : refusal (given_checks model K L) ≡ 0
  unfolding over
  given-fine = sheet.rewrite-fine model s ok (drop (length (cut_list s)) c₀)

  same-sheet : cut_sheet_of model K L ≡ s
  unfolding over
  same-sheet = sheet.read-write model s ok (drop (length (cut_list s)) c₀) bs

  module _ (sheet₀ : List ℕ) (h : length s ≤ length sheet₀) where
    no-write-refusal : refusal (write_cuts_checks model K L sheet₀) ≡ 0
    unfolding write_cuts_checks
    no-write-refusal =
        refusal-append (given_checks model K L) _ ∙ go (refusal (given_checks model K L)) _ given-fine
        ∙ sym (passes 8 _ [] (le-ltb (length sheet₀) (length model + cut_bytes K) (subst (λ (x : ℕ). x ≤ length sheet₀) (sheet.sheet-length model s ok) h)) no-checks)

    pub bytes_back : writing_cuts model K L sheet₀ ≡ written (Done (length s)) (over s sheet₀)
    unfolding writing_cuts
    bytes_back = simp (eq-eqb (refusal (write_cuts_checks model K L sheet₀)) 0 no-write-refusal) (λ k. written (Done (sym (sheet.sheet-length model s ok) k)) (over (same-sheet k) sheet₀))
