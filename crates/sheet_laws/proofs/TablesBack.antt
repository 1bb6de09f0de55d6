-- Tables written and read back are the same, and a sheet read into tables and written from them is the same bytes.
use Prim.Native.Nat.{ℕ, suc, ◌+◌, ◌*◌, ◌^◌, ◌≤◌, ◌<◌}
use native.Mathlib.Nat.{suc-mul, add-zero, zero-add, mul-le-mul, le_refl, mul-one}
use native.Mathlib.Omega.{arith}
use mathlib.Core.Path.{◌≡◌, refl, sym, ap, ap₂, ◌∙◌, subst}
use mathlib.Core.List.{List, [], ◌∷◌}
use lib.ListN.{length, get_or, take, drop}
use borrow.Author.Tests.{eq-eqb, ltb-true, le-ltb}
use Rattle.task.specs.Loops.{over}
use Rattle.fields.specs.Judging.{Field, given, judged, refusal, each}
use Rattle.fields.specs.Packing.{sheet_of}
use Rattle.fields.proofs.JudgingLaws.{each-ext, refusal-append, go, last-went, passes, no-checks}
use Rattle.fields.proofs.PlaceLaws.{each_at, slices, one, two, three, same-field, filled-place}
use Rattle.fields.proofs.PutLaws.{Bytes}
use Rattle.sheets.specs.ModelSheet.{Source, ColumnFields, MarkFields, columns_in, steps_in, entries, model_bytes, columns_of, steps_of, sheet_with, of_sheet, sheet_checks, judge_part, judge_sheet}
use Rattle.sheets.specs.LentTables.{column_values, cost_value, mark_values, step_values, frame_of, costs_of, marks_of, column_in, marks_in, of_tables, read_checks, write_checks}
use Rattle.sheets.proofs.TableLaws.{column-length, cost-length, pair-length, row-length, frame-length, costs-length, marks-length}
use Rattle.sheets.proofs.RoundLaws.{Fine, Same, same-fields, accepted, written_same, written-accepted, own-fine, exact-length, read-write}
use Rattle.fields.specs.Refusals.{Done}
use Rattle.reading.specs.Reading.{counts, read_outcome, reading}
use Rattle.sheets.proofs.SheetLaws.{sheet-fine}
use Rattle.writing.specs.Writing.{write_outcome as written, writing}

-- ---- what the tables of a model hold goes by its fields
module _ (p q : Source) (e : Same p q (columns_in p) (steps_in p)) where
  same-columns : columns_in p ≡ columns_in q
  same-columns = ap (λ (f : Field). f.value) e.columns

  same-steps : steps_in p ≡ steps_in q
  same-steps = ap (λ (f : Field). f.value) e.steps

  pub same-frame : frame_of p ≡ frame_of q
  unfolding frame_of column_values
  same-frame = each-ext (columns_in p) _ _ (λ i h. ap (λ (c : ColumnFields). c.size.value ∷ c.start.value ∷ c.goal.value ∷ []) (e.column i h)) ∙ ap (λ (n : ℕ). each n (column_values q.column)) same-columns

  pub same-costs : costs_of p ≡ costs_of q
  unfolding costs_of cost_value
  same-costs = each-ext (steps_in p) _ _ (λ j h. ap (λ (f : Field). f.value ∷ []) (e.cost j h)) ∙ ap (λ (m : ℕ). each m (cost_value q.cost)) same-steps

  pub same-marks : marks_of p ≡ marks_of q
  unfolding marks_of step_values mark_values
  same-marks =
      each-ext (steps_in p) _ _ (λ j h. each-ext (columns_in p) _ _ (λ i l. ap (λ (k : MarkFields). k.need.value ∷ k.effect.value ∷ []) (e.marks j i h l)))
      ∙ ap₂ (λ (m n : ℕ). each m (step_values q.marks n)) same-steps same-columns

-- ---- a reader refuses nothing of an accepted sheet where the tables are long enough
no-refusal : (s f c k : List ℕ) → judge_sheet s ≡ 0 → columns_of s * 3 ≤ length f → steps_of s ≤ length c → steps_of s * (columns_of s * 2) ≤ length k → refusal (read_checks s f c k) ≡ 0
unfolding judge_sheet read_checks
no-refusal s f c k ok hf hc hk =
    refusal-append (sheet_checks s) _ ∙ go (refusal (sheet_checks s)) _ ok
    ∙ sym (passes 8 _ _ (le-ltb (length f) (columns_of s * 3) hf) (passes 8 _ _ (le-ltb (length c) (steps_of s) hc) (passes 8 _ _ (le-ltb (length k) (steps_of s * (columns_of s * 2)) hk) no-checks)))

-- ---- written and read back
module _ (n m : ℕ) (frame costs marks : List ℕ) (ok : judged (entries (of_tables n m frame costs marks)) ≡ 0) where
  abbrev P : Source
  P = of_tables n m frame costs marks

  good : Fine P n m
  unfolding entries of_tables
  good = accepted P n m ok

  -- the tables are long enough
  long-frame : (i : ℕ) → i < n → i * 3 + 2 < length frame
  unfolding of_tables column_in
  long-frame i h = ltb-true (i * 3 + 2) (length frame) (good.goal i h).0

  long-costs : (j : ℕ) → j < m → j < length costs
  unfolding of_tables
  long-costs j h = ltb-true j (length costs) (good.cost j h)

  long-marks : (j i : ℕ) → j < m → i < n → j * (n * 2) + i * 2 + 1 < length marks
  unfolding of_tables marks_in
  long-marks j i h l = ltb-true (j * (n * 2) + i * 2 + 1) (length marks) (good.effect j i h l).0

  pub frame-given : frame_of P ≡ take (n * 3) frame
  unfolding frame_of column_values of_tables column_in
  frame-given = slices _ 3 n 0 frame (λ i h. sym (rw zero-add (three frame (i * 3) (long-frame i h))))

  pub costs-given : costs_of P ≡ take m costs
  unfolding costs_of cost_value of_tables
  costs-given = slices _ 1 m 0 costs (λ j h. sym (rw (zero-add, mul-one) (one costs j (long-costs j h)))) ∙ rw mul-one refl

  pub marks-given : marks_of P ≡ take (m * (n * 2)) marks
  unfolding marks_of step_values mark_values of_tables marks_in
  marks-given =
      slices _ (n * 2) m 0 marks
      (λ j h. slices _ 2 n (j * (n * 2)) marks (λ i l. sym (two marks (j * (n * 2) + i * 2) (long-marks j i h l))) ∙ rw zero-add refl)

  module _ (bound : (j : ℕ) → j < m → get_or costs j 0 < 2 ^ 16) where
    -- the bytes that the writer writes
    abbrev S : List ℕ
    S = sheet_of (entries P)

    fits-tenths : (j : ℕ) → j < steps_in P → (P.cost j).value < 2 ^ 16
    unfolding of_tables
    fits-tenths j h = bound j h

    back : Same (of_sheet S) P n m
    unfolding of_tables entries
    back = written_same P ok fits-tenths

    pub written-counts : (columns_of S ≡ n) × (steps_of S ≡ m)
    unfolding of_sheet sheet_with of_tables
    written-counts = (ap (λ (f : Field). f.value) back.columns, ap (λ (f : Field). f.value) back.steps)

    whole : Same (of_sheet S) P (columns_in (of_sheet S)) (steps_in (of_sheet S))
    unfolding of_sheet sheet_with
    whole = subst (λ (x : ℕ). Same (of_sheet S) P x (steps_of S)) (sym written-counts.0) (subst (λ (y : ℕ). Same (of_sheet S) P n y) (sym written-counts.1) back)

    -- what a reader of them finds: the places that the writer was to read
    pub tables-found : (frame_of (of_sheet S) ≡ take (n * 3) frame) × (costs_of (of_sheet S) ≡ take m costs) × (marks_of (of_sheet S) ≡ take (m * (n * 2)) marks)
    tables-found = (same-frame (of_sheet S) P whole ∙ frame-given, same-costs (of_sheet S) P whole ∙ costs-given, same-marks (of_sheet S) P whole ∙ marks-given)

    -- written and read back gives the same tables, in any tables that are long enough
    pub tables-back : (f c k : List ℕ) → n * 3 ≤ length f → m ≤ length c → m * (n * 2) ≤ length k → reading S f c k ≡ read_outcome (Done (counts n m)) (over (take (n * 3) frame) f) (over (take m costs) c) (over (take (m * (n * 2)) marks) k)
    unfolding reading entries
    tables-back f c k hf hc hk =
        simp (eq-eqb (refusal (read_checks S f c k)) 0 (no-refusal S f c k (written-accepted P ok fits-tenths) (rw written-counts.0 hf) (rw written-counts.1 hc) (rw (written-counts.0, written-counts.1) hk)))
        (λ t. read_outcome (Done (counts (written-counts.0 t) (written-counts.1 t))) (over (tables-found.0 t) f) (over (tables-found.1 t) c) (over (tables-found.2 t) k))

-- ---- a writer refuses nothing of accepted fields where the bytes are enough
write-fine : (p : Source) (sheet : List ℕ) → judged (entries p) ≡ 0 → model_bytes (columns_in p) (steps_in p) ≤ length sheet → refusal (write_checks p sheet) ≡ 0
unfolding write_checks
write-fine p sheet ok h = sym (last-went (entries p) _ refl ok (passes 8 _ [] (le-ltb (length sheet) (model_bytes (columns_in p) (steps_in p)) h) no-checks))

part_of : (s : List ℕ) → judge_sheet s ≡ 0 → judged (entries (of_sheet s)) ≡ 0
unfolding judge_part
part_of s ok = (sheet-fine s ok).0

-- ---- read and written again
-- what stands in the tables of a model
module _ (p : Source) where
  module _ (i : ℕ) (h : i < columns_in p) where
    at-column : (k : ℕ) → k < 3 → get_or (frame_of p) (i * 3 + k) 0 ≡ get_or (column_values p.column i) k 0
    unfolding frame_of
    at-column k l = each_at (column_values p.column) 3 (column-length p.column) (columns_in p) i k h l

    in_frame : (k : ℕ) → k < 3 → i * 3 + k < length (frame_of p)
    in_frame k l = omega (arith, frame-length p)

  at-cost : (j : ℕ) → j < steps_in p → get_or (costs_of p) j 0 ≡ (p.cost j).value
  unfolding costs_of cost_value
  at-cost j h = let z : j * 1 + 0 ≡ j = omega arith in rw z at (each_at (cost_value p.cost) 1 (cost-length p.cost) (steps_in p) j 0 h (omega arith))

  module _ (j i : ℕ) (h : j < steps_in p) (l : i < columns_in p) where
    at_pair : (k : ℕ) → k < 2 → get_or (marks_of p) (j * (columns_in p * 2) + (i * 2 + k)) 0 ≡ get_or (mark_values p.marks j i) k 0
    unfolding marks_of step_values
    at_pair k q =
        each_at (step_values p.marks (columns_in p)) (columns_in p * 2) (row-length p.marks (columns_in p)) (steps_in p) j (i * 2 + k) h (omega arith)
        ∙ each_at (mark_values p.marks j) 2 (pair-length p.marks j) (columns_in p) i k l q

    in-marks : (k : ℕ) → k < 2 → j * (columns_in p * 2) + (i * 2 + k) < length (marks_of p)
    in-marks k q =
        omega (arith, marks-length p, suc-mul j (columns_in p * 2), mul-le-mul {n₁ = suc j} {m₁ = columns_in p * 2} {n₂ = steps_in p} {m₂ = columns_in p * 2} h (le_refl (columns_in p * 2)))

module _ (p : Source) (good : Fine p (columns_in p) (steps_in p)) (f c k : List ℕ) where
  abbrev F : List ℕ
  F = over (frame_of p) f

  abbrev K : List ℕ
  K = over (costs_of p) c

  abbrev M : List ℕ
  M = over (marks_of p) k

  abbrev Q : Source
  Q = of_tables (columns_in p) (steps_in p) F K M

  pub filled-same : Same Q p (columns_in p) (steps_in p)
  unfolding over of_tables column_in marks_in column_values mark_values
  filled-same =
      record {
        form = same-field (given 1) p.form refl good.header.complete.0 (sym good.header.form);
        columns = same-field (given (columns_in p)) p.columns refl good.header.complete.1 refl;
        steps = same-field (given (steps_in p)) p.steps refl good.header.complete.2 refl;
        column = λ i h t. record {
          size = filled-place (frame_of p) (drop (length (frame_of p)) f) (i * 3) (p.column i).size (rw add-zero at (in_frame p i h 0 (omega arith))) (good.size i h).0 (rw add-zero at (at-column p i h 0 (omega arith))) t;
          start = filled-place (frame_of p) (drop (length (frame_of p)) f) (i * 3 + 1) (p.column i).start (in_frame p i h 1 (omega arith)) (good.start i h).0 (at-column p i h 1 (omega arith)) t;
          goal = filled-place (frame_of p) (drop (length (frame_of p)) f) (i * 3 + 2) (p.column i).goal (in_frame p i h 2 (omega arith)) (good.goal i h).0 (at-column p i h 2 (omega arith)) t;
        };
        cost = λ j h. filled-place (costs_of p) (drop (length (costs_of p)) c) j (p.cost j) (omega (arith, costs-length p)) (good.cost j h) (at-cost p j h);
        marks = λ j i h l t. record {
          need = filled-place (marks_of p) (drop (length (marks_of p)) k) (j * (columns_in p * 2) + i * 2) (p.marks j i).need (omega (arith, in-marks p j i h l 0 (omega arith))) (good.need j i h l).0 (need-at j i h l) t;
          effect = filled-place (marks_of p) (drop (length (marks_of p)) k) (j * (columns_in p * 2) + i * 2 + 1) (p.marks j i).effect (omega (arith, in-marks p j i h l 1 (omega arith))) (good.effect j i h l).0 (effect-at j i h l) t;
        };
        fill = same-field (given 0) p.fill refl good.fill.0 (sym good.fill.1);
      }
    where
      need-at : (j i : ℕ) → j < steps_in p → i < columns_in p → get_or (marks_of p) (j * (columns_in p * 2) + i * 2) 0 ≡ (p.marks j i).need.value
      need-at j i h l =
          let z : j * (columns_in p * 2) + (i * 2 + 0) ≡ j * (columns_in p * 2) + i * 2 = omega arith in
          ap (λ (x : ℕ). get_or (marks_of p) x 0) (sym z) ∙ at_pair p j i h l 0 (omega arith)

      effect-at : (j i : ℕ) → j < steps_in p → i < columns_in p → get_or (marks_of p) (j * (columns_in p * 2) + i * 2 + 1) 0 ≡ (p.marks j i).effect.value
      effect-at j i h l =
          let z : j * (columns_in p * 2) + (i * 2 + 1) ≡ j * (columns_in p * 2) + i * 2 + 1 = omega arith in
          ap (λ (x : ℕ). get_or (marks_of p) x 0) (sym z) ∙ at_pair p j i h l 1 (omega arith)

  pub filled-entries : entries Q ≡ entries p
  unfolding entries of_tables
  filled-entries = same-fields Q p (columns_in p) (steps_in p) filled-same

-- accepted bytes, read into any tables and written from them, come back the same
module _ (s : List ℕ) (ok : judge_sheet s ≡ 0) (bs : Bytes s) (f c k : List ℕ) where
  abbrev R : Source
  R = of_tables (columns_of s) (steps_of s) (over (frame_of (of_sheet s)) f) (over (costs_of (of_sheet s)) c) (over (marks_of (of_sheet s)) k)

  again : entries R ≡ entries (of_sheet s)
  unfolding of_sheet sheet_with
  again = filled-entries (of_sheet s) (own-fine s ok) f c k

  pub bytes_back : (sheet : List ℕ) → length s ≤ length sheet → writing R sheet ≡ written (Done (length s)) (over s sheet)
  unfolding writing of_tables
  bytes_back sheet h =
      simp (eq-eqb (refusal (write_checks R sheet)) 0 no-write-refusal) (λ t. written (Done (sym (exact-length s ok) t)) (over ((ap sheet_of again ∙ read-write s ok bs) t) sheet))
    where
      room : model_bytes (columns_in R) (steps_in R) ≤ length sheet
      room = subst (λ (x : ℕ). x ≤ length sheet) (exact-length s ok) h

      no-write-refusal : refusal (write_checks R sheet) ≡ 0
      no-write-refusal = write-fine R sheet (ap judged again ∙ part_of s ok) room
