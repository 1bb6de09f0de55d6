-- The cut sheet, there and back: a given model that stands at the front of a cut sheet is its inner model, cuts written and read back are the
-- same, and accepted bytes come back the same.
use Prim.Native.Nat.{ℕ, ◌+◌, ◌*◌, ◌^◌, ◌≤◌, ◌<◌}
use native.Mathlib.Omega.{arith}
use mathlib.Core.Path.{◌≡◌, refl, sym, ap, ap₂, ◌∙◌}
use mathlib.Core.Bool.{true, false, not}
use mathlib.Core.List.{List, ◌++◌}
use lib.ListN.{length, get_or, take, drop, length-append, take-append-drop, get_or-append}
use lib.Dec.{eqb, leb}
use lib.Seq.{ext_get_or, get_or-take, get_or-drop, length-take-le, drop_at}
use borrow.Author.Tests.{leb-true, le-leb, eqb-true, eq-eqb, not-false}
use Rattle.task.specs.Task.{Task, Accepted}
use Rattle.task.proofs.LoopLaws.{and_left, and_right, and_both, all-at, all-intro}
use Rattle.fields.specs.Bits.{field_at}
use Rattle.fields.specs.Judging.{Field, judged, each, refusal, on_sheet, in_table, given}
use Rattle.fields.specs.Packing.{sheet_of}
use Rattle.fields.proofs.JudgingLaws.{go, stop, neither, last-both, last-stopped, last-went, applies, passed, passes, refusal-append}
use Rattle.fields.proofs.PartLaws.{field-take}
use Rattle.fields.proofs.PlaceLaws.{each-length, each_at, same-field, filled-place}
use Rattle.fields.proofs.PutLaws.{Bytes}
use Rattle.sheets.specs.ModelSheet.{model_bytes, model_end, of_sheet, entries, sheet_checks, judge_sheet, judge_part}
use Rattle.sheets.proofs.SheetLaws.{sheet-fine}
use Rattle.sheets.proofs.FrontLaws.{front-counts, front-accepted}
use Rattle.sheets.proofs.RoundLaws.{exact-length}
use Rattle.sheets.specs.Holding.{task_on}
use Rattle.cut_sheets.specs.CutPart.{CutFields, cut_entries, count_of, cut_on, cut_bytes, of_cut_part, cut_part_with, cut_checks, judge_cuts}
use Rattle.cut_sheets.specs.CutSheet.{tail_of, at_front, cut_sheet_checks, cut_values, cut_list, cut_lent, of_cuts, cut_sheet_of, given_checks}
use Rattle.cut_sheets.proofs.CutPartLaws as part
use Rattle.cut_sheets.proofs.CutPartLaws.{SameCuts, PartFine}
use Rattle.cut_sheets.proofs.CutRoundLaws as round

-- ---- bytes at the front
pub front-take : (a s : List ℕ) → at_front a s ≡ true → (length a ≤ length s) × (take (length a) s ≡ a)
unfolding at_front
front-take a s h =
    let n : length a ≤ length s = leb-true (length a) (length s) (and_left (leb (length a) (length s)) _ h) in
    let same = all-at (length a) (λ i. eqb (get_or a i 0) (get_or s i 0)) (and_right (leb (length a) (length s)) _ h) in
    let long : length (take (length a) s) ≡ length a = length-take-le (length a) s n in
    (n, ext_get_or 0 (take (length a) s) a long (λ i l. let k : i < length a = rw long at l in get_or-take (length a) s i 0 k ∙ sym (eqb-true (get_or a i 0) (get_or s i 0) (same i k))))

pub front-append : (a r : List ℕ) → at_front a (a ++ r) ≡ true
unfolding at_front
front-append a r =
    and_both (le-leb (length a) (length (a ++ r)) (omega (arith, length-append a r)))
    (all-intro (length a) _ (λ i l. eq-eqb (get_or a i 0) (get_or (a ++ r) i 0) (sym (get_or-append a r 0 i l))))

module _ (model : List ℕ) (ok : judge_sheet model ≡ 0) (s : List ℕ) (front : at_front model s ≡ true) where
  part-ok : judge_part model ≡ 0
  part-ok = (sheet-fine model ok).0

  front-fields : (at w : ℕ) → at + w ≤ 8 * model_end model → field_at s at w ≡ field_at model at w
  front-fields at w h = sym (field-take s (length model) at w (omega (arith, exact-length model ok))) ∙ ap (λ (x : List ℕ). field_at x at w) (front-take model s front).1

  long : model_end model ≤ length s
  long = omega (arith, exact-length model ok, (front-take model s front).0)

  -- the inner model has as many bytes as the given one
  pub inner-bytes : model_end s ≡ length model
  inner-bytes = let c = front-counts model part-ok s front-fields long in ap₂ model_bytes c.0 c.1 ∙ sym (exact-length model ok)

  -- the cut part starts where the given sheet ends
  pub tail-is : tail_of s ≡ drop (length model) s
  unfolding tail_of
  tail-is = ap (λ (x : ℕ). drop x s) inner-bytes

  pub whole_is : model ++ tail_of s ≡ s
  whole_is = let f = front-take model s front in ap (λ (l : List ℕ). model ++ l) tail-is ∙ ap (λ (l : List ℕ). l ++ drop (length model) s) (sym f.1) ∙ take-append-drop (length model) s

  -- the inner model has the given model's fields, so that it gets no refusal of its own
  pub inner-accepted : judge_part s ≡ 0
  inner-accepted = front-accepted model part-ok s front-fields long

-- ---- the refusal of a cut sheet
module _ (model s : List ℕ) where
  abbrev t : Task
  t = task_on model

  -- where the given model stands at the front, only the cut part can be refused
  pub front-refusal : judge_sheet model ≡ 0 → at_front model s ≡ true → refusal (cut_sheet_checks model s) ≡ judge_cuts t (tail_of s)
  unfolding cut_sheet_checks judge_sheet judge_cuts judged judge_part
  front-refusal ok front =
      let inner : judged (entries (of_sheet s)) ≡ 0 = inner-accepted model ok s front in
      refusal-append (sheet_checks model) _ ∙ go (refusal (sheet_checks model)) _ ok
      ∙ sym (last-went (entries (of_sheet s)) _ (sym inner) refl (passes 10 (not (at_front model s)) (cut_checks t (tail_of s)) (rw front) refl))

  -- a refusal of the given model, of the inner one, and 10
  pub model-refused : {r : ℕ} → r ≡ judge_sheet model → (r ≡ 0 → ⊥) → r ≡ refusal (cut_sheet_checks model s)
  unfolding cut_sheet_checks judge_sheet
  model-refused e z = e ∙ sym (refusal-append (sheet_checks model) _ ∙ stop (refusal (sheet_checks model)) _ (λ q. z (e ∙ q)))

  pub inner-refused : {r : ℕ} → judge_sheet model ≡ 0 → r ≡ judge_part s → (r ≡ 0 → ⊥) → r ≡ refusal (cut_sheet_checks model s)
  unfolding cut_sheet_checks judge_sheet judge_part
  inner-refused ok e z = last-stopped (entries (of_sheet s)) _ e z ∙ sym (refusal-append (sheet_checks model) _ ∙ go (refusal (sheet_checks model)) _ ok)

  pub ten-refused : judge_sheet model ≡ 0 → judge_part s ≡ 0 → at_front model s ≡ false → 10 ≡ refusal (cut_sheet_checks model s)
  unfolding cut_sheet_checks judge_sheet judge_part
  ten-refused ok inner h =
      last-went (entries (of_sheet s)) _ (sym inner) refl (applies 10 (not (at_front model s)) (cut_checks t (tail_of s)) (ap not h) (λ z. omega arith))
      ∙ sym (refusal-append (sheet_checks model) _ ∙ go (refusal (sheet_checks model)) _ ok)

  -- an accepted cut sheet: an accepted model at its front, and an accepted cut part
  pub sheet-accepted : refusal (cut_sheet_checks model s) ≡ 0 → (judge_sheet model ≡ 0) × (at_front model s ≡ true) × (judge_cuts t (tail_of s) ≡ 0)
  unfolding cut_sheet_checks judge_sheet judge_cuts
  sheet-accepted h =
      let a = neither (refusal (sheet_checks model)) _ (sym (refusal-append (sheet_checks model) _) ∙ h) in
      let b = last-both (entries (of_sheet s)) _ a.1 in
      let c = passed 10 (not (at_front model s)) (cut_checks t (tail_of s)) (omega arith) b.1 in
      (a.0, not-false (at_front model s) c.0, c.1)

-- ---- the list of cuts
pub values_length : (c : ℕ → CutFields) (i : ℕ) → length (cut_values c i) ≡ 3
unfolding cut_values
values_length c i = refl

module _ (c : ℕ → CutFields) (n i : ℕ) (h : i < n) where
  pub block-place : get_or (each n (cut_values c)) (i * 3) 0 ≡ (c i).block.value
  unfolding cut_values
  block-place = ap (λ (x : ℕ). get_or (each n (cut_values c)) x 0) (omega arith) ∙ each_at (cut_values c) 3 (values_length c) n i 0 h (omega arith)

  pub column-place : get_or (each n (cut_values c)) (i * 3 + 1) 0 ≡ (c i).column.value
  unfolding cut_values
  column-place = each_at (cut_values c) 3 (values_length c) n i 1 h (omega arith)

  pub wanted-place : get_or (each n (cut_values c)) (i * 3 + 2) 0 ≡ (c i).wanted.value
  unfolding cut_values
  wanted-place = each_at (cut_values c) 3 (values_length c) n i 2 h (omega arith)

-- ---- written and read back
module _ (model : List ℕ) (count : ℕ) (cuts : List ℕ) (v : Accepted (task_on model)) (ok : judge_sheet model ≡ 0)
    (good : judged (cut_entries (task_on model) (of_cuts count cuts)) ≡ 0) (sets : (i : ℕ) → i < count → get_or cuts (i * 3 + 2) 0 < 2 ^ 32) where
  abbrev S : List ℕ
  S = cut_sheet_of model count cuts

  abbrev P : List ℕ
  P = sheet_of (cut_entries (task_on model) (of_cuts count cuts))

  front : at_front model S ≡ true
  unfolding cut_sheet_of
  front = front-append model P

  tail : tail_of S ≡ P
  unfolding cut_sheet_of
  tail = tail-is model ok S front ∙ drop_at model P (length model) refl

  wide : (i : ℕ) → i < (of_cuts count cuts).count.value → ((of_cuts count cuts).cut i).wanted.value < 2 ^ 32
  unfolding of_cuts cut_lent
  wide i h = sets i h

  -- it is as long as its model and its count say
  pub written-length : length S ≡ length model + cut_bytes count
  unfolding cut_sheet_of cut_entries of_cuts
  written-length = length-append model P ∙ ap (λ (x : ℕ). length model + x) (round.written-length (task_on model) v (of_cuts count cuts) good wide)

  -- the sheet is accepted
  pub written-accepted : refusal (cut_sheet_checks model S) ≡ 0
  unfolding cut_entries
  written-accepted = front-refusal model S ok front ∙ ap (judge_cuts (task_on model)) tail ∙ round.written-accepted (task_on model) v (of_cuts count cuts) good wide

  same-written : SameCuts (of_cut_part P) (of_cuts count cuts) count
  unfolding cut_entries of_cuts
  same-written = round.written_same (task_on model) v (of_cuts count cuts) good wide

  pub written_count : count_of (tail_of S) ≡ count
  unfolding of_cut_part cut_part_with of_cuts
  written_count = ap count_of tail ∙ ap (λ (f : Field). f.value) same-written.count

  -- a reader finds the writer's fields
  pub written-fields : (i : ℕ) → i < count → cut_on (tail_of S) i ≡ cut_lent cuts i
  unfolding of_cut_part cut_part_with of_cuts
  written-fields i h = ap (λ (l : List ℕ). cut_on l i) tail ∙ same-written.cut i h

-- ---- read and written again
module _ (model s : List ℕ) (ok : refusal (cut_sheet_checks model s) ≡ 0) where
  abbrev T : List ℕ
  T = tail_of s

  abbrev K : ℕ
  K = count_of T

  fine : PartFine (task_on model) (of_cut_part T) K
  fine = round.own-fine (task_on model) T (sheet-accepted model s ok).2

  pub list_length : length (cut_list s) ≡ K * 3
  unfolding cut_list
  list_length = each-length (cut_values (cut_on T)) 3 (values_length (cut_on T)) K

  tail-bytes : Bytes s → Bytes T
  unfolding tail_of
  tail-bytes b i = rw (get_or-drop (model_end s) s i 0) (b (model_end s + i))

  -- from any list that begins with the sheet's cuts
  module _ (rest : List ℕ) where
    abbrev L : List ℕ
    L = cut_list s ++ rest

    -- a place of the list is the field that it was filled from
    listed : (k : ℕ) (f : Field) → k < K * 3 → f.here ≡ true → get_or (cut_list s) k 0 ≡ f.value → in_table L k ≡ f
    listed k f h here e = filled-place (cut_list s) rest k f (omega (arith, list_length)) here e

    same : SameCuts (of_cuts K L) (of_cut_part T) K
    unfolding of_cuts cut_lent cut_list of_cut_part cut_part_with
    same =
        record {
          form = same-field (given 2) (on_sheet T 0 4) refl fine.form.0 (sym fine.form.1);
          count = same-field (given K) (on_sheet T 4 8) refl fine.count.0 refl;
          cut = λ i h k. record {
            block = listed (i * 3) (cut_on T i).block (omega arith) (fine.cut i h).block (block-place (cut_on T) K i h) k;
            column = listed (i * 3 + 1) (cut_on T i).column (omega arith) (fine.cut i h).column (column-place (cut_on T) K i h) k;
            wanted = listed (i * 3 + 2) (cut_on T i).wanted (omega arith) (fine.cut i h).wanted (wanted-place (cut_on T) K i h) k;
          };
          fill = same-field (given 0) (of_cut_part T).fill refl fine.fill.0 (sym fine.fill.1);
        }

    listed-entries : cut_entries (task_on model) (of_cuts K L) ≡ cut_entries (task_on model) (of_cut_part T)
    unfolding cut_entries of_cuts of_cut_part cut_part_with
    listed-entries = part.same-fields (task_on model) (of_cuts K L) (of_cut_part T) K same

    -- accepted bytes come back the same
    pub read-write : Bytes s → cut_sheet_of model K L ≡ s
    unfolding cut_sheet_of
    read-write b =
        let a = sheet-accepted model s ok in
        ap (λ (l : List ℕ). model ++ l) (ap sheet_of listed-entries ∙ round.read-write (task_on model) T a.2 (tail-bytes b)) ∙ whole_is model a.0 s a.1

    -- and a writer refuses nothing of them
    pub rewrite-fine : refusal (given_checks model K L) ≡ 0
    unfolding given_checks judge_sheet judged
    rewrite-fine =
        let a = sheet-accepted model s ok in
        refusal-append (sheet_checks model) _ ∙ go (refusal (sheet_checks model)) _ a.0 ∙ ap judged listed-entries ∙ round.own-judged (task_on model) T a.2

  -- as long as the model and the count say
  pub sheet-length : length s ≡ length model + cut_bytes K
  sheet-length =
      let a = sheet-accepted model s ok in
      ap length (sym (whole_is model a.0 s a.1)) ∙ length-append model T ∙ ap (λ (x : ℕ). length model + x) (round.exact-length (task_on model) T a.2)
