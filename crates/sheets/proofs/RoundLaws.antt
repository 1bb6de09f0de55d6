-- There and back: what an accepted model says of each field, what its sheet is read as, and that a sheet is written as it was read.
use Prim.Native.Nat.{ℕ, suc, ◌+◌, ◌*◌, ◌^◌, ◌≤◌, ◌<◌}
use native.Mathlib.Nat.{mul-le-mul, le_refl, suc-mul}
use native.Mathlib.Omega.{arith}
use mathlib.Core.Path.{◌≡◌, refl, sym, ap, ap₂, ◌∙◌, subst}
use mathlib.Core.Bool.{true}
use mathlib.Core.List.{List, [], ◌∷◌, ◌++◌}
use lib.ListN.{length}
use lib.Pow.{pow_pos}
use lib.Dec.{leb}
use borrow.Author.Tests.{leb-true, leb-false}
use Rattle.task.specs.Sizes.{limits}
use Rattle.fields.specs.Judging.{Field, Entry, on_sheet, entry, free, outside, judged, each}
use Rattle.fields.specs.Packing.{bits_in, sheet_of}
use Rattle.fields.proofs.JudgingLaws.{first_fine, fine, judged-at, inside-means, sheet-here, each-ext}
use Rattle.fields.proofs.PlaceLaws.{same-field}
use Rattle.fields.proofs.PutLaws.{Bytes}
use Rattle.fields.proofs.PackingLaws.{Holds, Fit, fit_append, fit-each, holds-fit, sheet-length, sheet-holds, sheet-only}
use Rattle.sheets.specs.ModelSheet.{Source, ColumnFields, MarkFields, header_part, column_part, marks_part, step_part, fill_part, column_bits, model_bits, model_bytes, fill_bits, fields_part, columns_in, steps_in, entries, columns_of, steps_of, column_on, cost_on, marks_on, sheet_with, of_sheet, judge_part, judge_sheet}
use Rattle.sheets.proofs.SheetLaws.{H, C, S, F, parts-fine, HeaderFine, header-fine, sheet-fine, sheet-whole}
use Rattle.sheets.proofs.HoldLaws.{Reads, holds-reads, reads-holds, sheet-bits, whole-bytes}

-- ---- what no refusal says of each field
pub record Fine (p : Source) (n m : ℕ) : Type 0 where
  pub header : HeaderFine p.form p.columns p.steps
  pub size : (i : ℕ) → i < n → ((p.column i).size.here ≡ true) × (1 ≤ (p.column i).size.value) × ((p.column i).size.value ≤ limits.positions)
  pub start : (i : ℕ) → i < n → ((p.column i).start.here ≡ true) × ((p.column i).start.value < (p.column i).size.value)
  pub goal : (i : ℕ) → i < n → ((p.column i).goal.here ≡ true) × ((p.column i).goal.value ≤ (p.column i).size.value)
  pub cost : (j : ℕ) → j < m → (p.cost j).here ≡ true
  pub need : (j i : ℕ) → j < m → i < n → ((p.marks j i).need.here ≡ true) × ((p.marks j i).need.value ≤ (p.column i).size.value)
  pub effect : (j i : ℕ) → j < m → i < n → ((p.marks j i).effect.here ≡ true) × ((p.marks j i).effect.value ≤ (p.column i).size.value)
  pub fill : (p.fill.here ≡ true) × (p.fill.value ≡ 0)

-- a mark that is not refused
mark-fine : (f : Field) (size : ℕ) (es : List Entry) → judged (entry 6 f 5 (outside 0 size f.value) ∷ es) ≡ 0 → ((f.here ≡ true) × (f.value ≤ size)) × (judged es ≡ 0)
mark-fine f size es h =
    let a = first_fine (entry 6 f 5 (outside 0 size f.value)) es (omega arith) h in
    ((a.0.0, (inside-means 0 size f.value a.0.1).1), a.1)

module _ (c : ℕ → ColumnFields) (i : ℕ) where
  column-fine : judged (column_part c i) ≡ 0 → (((c i).size.here ≡ true) × (1 ≤ (c i).size.value) × ((c i).size.value ≤ limits.positions)) × (((c i).start.here ≡ true) × ((c i).start.value < (c i).size.value)) × (((c i).goal.here ≡ true) × ((c i).goal.value ≤ (c i).size.value))
  unfolding column_part
  column-fine h =
      let z = (c i).size.value in
      let a = first_fine (entry 6 (c i).size 4 (outside 1 limits.positions z)) _ (omega arith) h in
      let b = first_fine (entry 5 (c i).start 5 (leb z (c i).start.value)) _ (omega arith) a.1 in
      let d = mark-fine (c i).goal z [] b.1 in
      let q = inside-means 1 limits.positions z a.0.1 in
      ((a.0.0, q.0, q.1), (b.0.0, leb-false z (c i).start.value b.0.1), d.0)

  marks-fine : (k : ℕ → ℕ → MarkFields) (j : ℕ) → judged (marks_part c k j i) ≡ 0 → (((k j i).need.here ≡ true) × ((k j i).need.value ≤ (c i).size.value)) × (((k j i).effect.here ≡ true) × ((k j i).effect.value ≤ (c i).size.value))
  unfolding marks_part
  marks-fine k j h =
      let a = mark-fine (k j i).need (c i).size.value _ h in
      (a.0, (mark-fine (k j i).effect (c i).size.value [] a.1).0)

step-fine : (c : ℕ → ColumnFields) (cost : ℕ → Field) (k : ℕ → ℕ → MarkFields) (n j : ℕ) → judged (step_part c cost k n j) ≡ 0 → ((cost j).here ≡ true) × (judged (each n (marks_part c k j)) ≡ 0)
unfolding step_part
step-fine c cost k n j h = let a = first_fine (free 16 (cost j)) _ (omega arith) h in (a.0.0, a.1)

pub fill-fine : (b : ℕ) (f : Field) → judged (fill_part b f) ≡ 0 → (f.here ≡ true) × (f.value ≡ 0)
unfolding fill_part
fill-fine b f h =
    let a = fine (fill_bits b) f 6 (outside 0 0 f.value) (omega arith) h in
    let q = inside-means 0 0 f.value a.1 in
    (a.0, omega arith)

module _ (p : Source) (n m : ℕ) (ok : judged (fields_part p n m) ≡ 0) where
  column-ok : (i : ℕ) → i < n → judged (column_part p.column i) ≡ 0
  column-ok i h = judged-at n (column_part p.column) (parts-fine p n m ok).1 i h

  step_ok : (j : ℕ) → j < m → ((p.cost j).here ≡ true) × (judged (each n (marks_part p.column p.marks j)) ≡ 0)
  step_ok j h = step-fine p.column p.cost p.marks n j (judged-at m (step_part p.column p.cost p.marks n) (parts-fine p n m ok).2 j h)

  marks-ok : (j i : ℕ) → j < m → i < n → judged (marks_part p.column p.marks j i) ≡ 0
  marks-ok j i h k = judged-at n (marks_part p.column p.marks j) (step_ok j h).1 i k

  pub accepted : Fine p n m
  accepted =
      record {
        header = header-fine p.form p.columns p.steps (parts-fine p n m ok).0;
        size = λ i h. (column-fine p.column i (column-ok i h)).0;
        start = λ i h. (column-fine p.column i (column-ok i h)).1;
        goal = λ i h. (column-fine p.column i (column-ok i h)).2;
        cost = λ j h. (step_ok j h).0;
        need = λ j i h k. (marks-fine p.column i p.marks j (marks-ok j i h k)).0;
        effect = λ j i h k. (marks-fine p.column i p.marks j (marks-ok j i h k)).1;
        fill = fill-fine (model_bits n m) p.fill (parts-fine p n m ok).3;
      }

-- ---- the same fields
pub record Same (p q : Source) (n m : ℕ) : Type 0 where
  pub form : p.form ≡ q.form
  pub columns : p.columns ≡ q.columns
  pub steps : p.steps ≡ q.steps
  pub column : (i : ℕ) → i < n → p.column i ≡ q.column i
  pub cost : (j : ℕ) → j < m → p.cost j ≡ q.cost j
  pub marks : (j i : ℕ) → j < m → i < n → p.marks j i ≡ q.marks j i
  pub fill : p.fill ≡ q.fill

module _ (p q : Source) (n m : ℕ) (e : Same p q n m) where
  same-marks : (j i : ℕ) → j < m → i < n → marks_part p.column p.marks j i ≡ marks_part q.column q.marks j i
  unfolding marks_part
  same-marks j i h l =
      ap₂ (λ (c : ColumnFields) (k : MarkFields). entry 6 k.need 5 (outside 0 c.size.value k.need.value) ∷ entry 6 k.effect 5 (outside 0 c.size.value k.effect.value) ∷ []) (e.column i l) (e.marks j i h l)

  same-column : (i : ℕ) → i < n → column_part p.column i ≡ column_part q.column i
  unfolding column_part
  same-column i h = ap (λ (c : ColumnFields). column_part (λ _. c) i) (e.column i h)

  same_step : (j : ℕ) → j < m → step_part p.column p.cost p.marks n j ≡ step_part q.column q.cost q.marks n j
  unfolding step_part
  same_step j h = ap₂ (λ (f : Field) (es : List Entry). free 16 f ∷ es) (e.cost j h) (each-ext n _ _ (λ i l. same-marks j i h l))

  same-header : header_part p.form p.columns p.steps ≡ header_part q.form q.columns q.steps
  same-header = λ k. header_part (e.form k) (e.columns k) (e.steps k)

  -- their fields in sheet order are the same
  pub same-fields : fields_part p n m ≡ fields_part q n m
  unfolding fields_part
  same-fields =
      λ k. same-header k ++ (each-ext n (column_part p.column) (column_part q.column) same-column k ++ (each-ext m (step_part p.column p.cost p.marks n) (step_part q.column q.cost q.marks n) same_step k ++ fill_part (model_bits n m) (e.fill k)))

pub bits-next : (n j : ℕ) → model_bits n (suc j) ≡ model_bits n j + 16 + n * 12
unfolding model_bits
bits-next n j = omega (arith, suc-mul j (16 + n * 12))

pub bits_mono : (n a b : ℕ) → a ≤ b → model_bits n a ≤ model_bits n b
unfolding model_bits
bits_mono n a b h = omega (arith, mul-le-mul {n₁ = a} {m₁ = 16 + n * 12} {n₂ = b} {m₂ = 16 + n * 12} h (le_refl (16 + n * 12)))

pub base : (n m : ℕ) → column_bits n ≤ model_bits n m
unfolding model_bits
base n m = omega arith

-- bytes that have the values of accepted fields, and are at least as long as their sheet, have the same fields
module _ (s : List ℕ) (p : Source) (n m : ℕ) (ok : Fine p n m) (r : Reads s p n m) (long : model_bytes n m ≤ length s) where
  here : (at w : ℕ) → at + w ≤ model_bits n m → (on_sheet s at w).here ≡ true
  here at w h = sheet-here s at w (omega (arith, whole-bytes n m))

  below : (j : ℕ) → j < m → model_bits n j + 16 + n * 12 ≤ model_bits n m
  below j h = omega (arith, bits-next n j, bits_mono n (suc j) m h)

  pub reads_same : Same (sheet_with s n m) p n m
  unfolding sheet_with column_on cost_on marks_on
  reads_same =
      record {
        form = same-field _ _ (here 0 4 (omega (arith, base n m))) ok.header.complete.0 r.form;
        columns = same-field _ _ (here 4 5 (omega (arith, base n m))) ok.header.complete.1 r.columns;
        steps = same-field _ _ (here 9 8 (omega (arith, base n m))) ok.header.complete.2 r.steps;
        column = λ i h k. record {
          size = same-field (on_sheet s (column_bits i) 6) (p.column i).size (here (column_bits i) 6 (omega (arith, base n m))) (ok.size i h).0 (r.size i h) k;
          start = same-field (on_sheet s (column_bits i + 6) 5) (p.column i).start (here (column_bits i + 6) 5 (omega (arith, base n m))) (ok.start i h).0 (r.start i h) k;
          goal = same-field (on_sheet s (column_bits i + 6 + 5) 6) (p.column i).goal (here (column_bits i + 6 + 5) 6 (omega (arith, base n m))) (ok.goal i h).0 (r.goal i h) k;
        };
        cost = λ j h. same-field _ _ (here (model_bits n j) 16 (omega (arith, below j h))) (ok.cost j h) (r.cost j h);
        marks = λ j i h l k. record {
          need = same-field (on_sheet s (model_bits n j + 16 + i * 12) 6) (p.marks j i).need (here (model_bits n j + 16 + i * 12) 6 (omega (arith, below j h))) (ok.need j i h l).0 (r.need j i h l) k;
          effect = same-field (on_sheet s (model_bits n j + 16 + i * 12 + 6) 6) (p.marks j i).effect (here (model_bits n j + 16 + i * 12 + 6) 6 (omega (arith, below j h))) (ok.effect j i h l).0 (r.effect j i h l) k;
        };
        fill = same-field _ _ (sheet-here s (model_bits n m) (fill_bits (model_bits n m)) (omega (arith, whole-bytes n m))) ok.fill.0 r.fill;
      }

-- ---- written and read back
module _ (p : Source) (ok : judged (entries p) ≡ 0) (costs : (j : ℕ) → j < steps_in p → (p.cost j).value < 2 ^ 16) where
  abbrev n : ℕ
  n = columns_in p

  abbrev m : ℕ
  m = steps_in p

  abbrev E : List Entry
  E = fields_part p n m

  good : Fine p n m
  unfolding entries
  good = accepted p n m ok

  whole : bits_in E ≡ 8 * model_bytes n m
  whole = sheet-bits p n m ∙ whole-bytes n m

  pub fits : Fit E
  unfolding fields_part header_part column_part step_part marks_part fill_part
  fits =
      fit_append (H p n m) (C p n m ++ (S p n m ++ F p n m)) (omega (arith, good.header.form), (omega (arith, good.header.columns), (omega (arith, good.header.steps), tt)))
      (fit_append (C p n m) (S p n m ++ F p n m)
      (fit-each (column_part p.column) n (λ i h. (omega (arith, good.size i h), (omega (arith, good.size i h, good.start i h), (omega (arith, good.size i h, good.goal i h), tt)))))
      (fit_append (S p n m) (F p n m)
      (fit-each (step_part p.column p.cost p.marks n) m
      (λ j h. (omega (arith, costs j h), fit-each (marks_part p.column p.marks j) n (λ i l. (omega (arith, good.size i l, good.need j i h l), (omega (arith, good.size i l, good.effect j i h l), tt))))))
      (omega (arith, good.fill.1, pow_pos (fill_bits (model_bits n m))), tt)))

  abbrev T : List ℕ
  T = sheet_of E

  pub written-length : length T ≡ model_bytes n m
  written-length = sheet-length E (model_bytes n m) fits whole

  written-reads : Reads T p n m
  written-reads = holds-reads T p n m (sheet-holds E (model_bytes n m) fits whole)

  -- the sheet of an accepted model has its fields
  pub written_same : Same (of_sheet T) p n m
  unfolding of_sheet
  written_same = subst (λ (x : ℕ). Same (sheet_with T x (steps_of T)) p n m) (sym written-reads.columns) (subst (λ (y : ℕ). Same (sheet_with T n y) p n m) (sym written-reads.steps) (reads_same T p n m good written-reads (omega (arith, written-length))))

  pub written-entries : entries (of_sheet T) ≡ entries p
  unfolding entries
  written-entries =
      ap₂ (λ (x y : ℕ). fields_part (of_sheet T) x y) (ap (λ (f : Field). f.value) written_same.columns) (ap (λ (f : Field). f.value) written_same.steps)
      ∙ same-fields (of_sheet T) p n m written_same

  -- and is accepted
  pub written-accepted : judge_sheet T ≡ 0
  unfolding judge_part
  written-accepted =
      sym (sheet-whole T (sym (ap judged written-entries ∙ ok)) refl
      (subst (λ (x : ℕ). length T ≤ x) (sym (ap₂ model_bytes written-reads.columns written-reads.steps)) (omega (arith, written-length))))

-- ---- read and written again
module _ (s : List ℕ) where
  pub own-reads : (n m : ℕ) → Reads s (sheet_with s n m) n m
  unfolding sheet_with column_on cost_on marks_on
  own-reads n m =
      record {
        form = refl;
        columns = refl;
        steps = refl;
        size = λ i h. refl;
        start = λ i h. refl;
        goal = λ i h. refl;
        cost = λ j h. refl;
        need = λ j i h l. refl;
        effect = λ j i h l. refl;
        fill = refl;
      }

  module _ (ok : judge_sheet s ≡ 0) where
    pub own-fine : Fine (of_sheet s) (columns_of s) (steps_of s)
    unfolding judge_part entries of_sheet sheet_with
    own-fine = accepted (of_sheet s) (columns_of s) (steps_of s) (sheet-fine s ok).0

    -- an accepted sheet is as long as its counts say
    pub exact-length : length s ≡ model_bytes (columns_of s) (steps_of s)
    unfolding of_sheet sheet_with
    exact-length =
        let b = model_bits (columns_of s) (steps_of s) in
        omega (arith, (sheet-fine s ok).1, whole-bytes (columns_of s) (steps_of s), leb-true (b + fill_bits b) (8 * length s) own-fine.fill.0)

    pub own-holds : Holds s 0 (entries (of_sheet s))
    unfolding entries of_sheet sheet_with
    own-holds = reads-holds s (of_sheet s) (columns_of s) (steps_of s) (own-reads (columns_of s) (steps_of s))

    own-whole : bits_in (entries (of_sheet s)) ≡ 8 * model_bytes (columns_of s) (steps_of s)
    unfolding entries of_sheet sheet_with
    own-whole = sheet-bits (of_sheet s) (columns_of s) (steps_of s) ∙ whole-bytes (columns_of s) (steps_of s)

    -- accepted bytes come back the same
    pub read-write : Bytes s → sheet_of (entries (of_sheet s)) ≡ s
    read-write bs = sheet-only (entries (of_sheet s)) (model_bytes (columns_of s) (steps_of s)) (holds-fit s 0 (entries (of_sheet s)) own-holds) own-whole s bs exact-length own-holds

-- two accepted sheets with the same fields are the same bytes
pub same-sheets : (s t : List ℕ) → judge_sheet s ≡ 0 → judge_sheet t ≡ 0 → Bytes s → Bytes t → entries (of_sheet s) ≡ entries (of_sheet t) → s ≡ t
same-sheets s t oks okt bs bt e = sym (read-write s oks bs) ∙ ap sheet_of e ∙ read-write t okt bt
