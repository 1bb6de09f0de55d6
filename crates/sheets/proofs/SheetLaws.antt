-- Laws of judging a model sheet.
use Prim.Native.Nat.{ℕ, ◌+◌, ◌*◌, ◌≤◌}
use native.Mathlib.Nat.{mul-le-mul}
use native.Mathlib.Omega.{arith}
use mathlib.Core.Path.{◌≡◌, ap, ap₂, ◌∙◌}
use mathlib.Core.Bool.{true}
use mathlib.Core.List.{List, [], ◌∷◌, ◌++◌}
use lib.ListN.{length}
use lib.Dec.{leb}
use borrow.Author.Tests.{le-ltb, ltb-false}
use Rattle.fields.specs.Bits.{field_at}
use Rattle.task.specs.Sizes.{limits}
use Rattle.fields.specs.Judging.{Field, Entry, Check, on_sheet, entry, free, outside, follows, refusal, judged, each}
use Rattle.fields.proofs.JudgingLaws.{both, stopped, went, first_fine, inside-means, last-both, last-stopped, last-went, passes, passed, no-checks}
use Rattle.sheets.specs.ModelSheet.{Source, ColumnFields, MarkFields, header_part, column_part, marks_part, step_part, fill_part, model_bits, most_bits, fill_bits, body_part, fields_part, entries, columns_of, steps_of, sheet_with, of_sheet, model_end, judge_part, sheet_checks, judge_sheet}

-- the steps of a model lie low
pub bits-le : (n j : ℕ) → n ≤ limits.columns → j ≤ limits.steps → model_bits n j ≤ most_bits
unfolding model_bits
bits-le n j hn hj = omega (arith, mul-le-mul {n₁ = j} {m₁ = 16 + n * 12} {n₂ = limits.steps} {m₂ = 16 + limits.columns * 12} hj (omega arith))

-- a header that is not refused: its form is 1, with columns and steps within the limits
pub record HeaderFine (f c m : Field) : Type 0 where
  pub form : f.value ≡ 1
  pub some : 1 ≤ c.value
  pub columns : c.value ≤ limits.columns
  pub steps : m.value ≤ limits.steps
  pub complete : (f.here ≡ true) × (c.here ≡ true) × (m.here ≡ true)

pub header-fine : (f c m : Field) → judged (header_part f c m) ≡ 0 → HeaderFine f c m
unfolding header_part
header-fine f c m h =
    let a = first_fine (entry 4 f 2 (outside 1 1 f.value)) _ (omega arith) h in
    let b = first_fine (entry 5 c 3 (outside 1 limits.columns c.value)) _ (omega arith) a.1 in
    let d = first_fine (entry 8 m 3 (outside 0 limits.steps m.value)) _ (omega arith) b.1 in
    let x = inside-means 1 1 f.value a.0.1 in
    let y = inside-means 1 limits.columns c.value b.0.1 in
    let z = inside-means 0 limits.steps m.value d.0.1 in
    record { form = omega arith; some = omega arith; columns = omega arith; steps = omega arith; complete = (a.0.0, b.0.0, d.0.0) }

-- ---- the parts of a sheet, judged one after the other, wherever the fields come from
module _ (f c m : Field) where
  abbrev form_e : List Entry
  form_e = entry 4 f 2 (outside 1 1 f.value) ∷ []

  abbrev columns_e : List Entry
  columns_e = entry 5 c 3 (outside 1 limits.columns c.value) ∷ []

  abbrev steps_e : List Entry
  steps_e = entry 8 m 3 (outside 0 limits.steps m.value) ∷ []

  pub form-bad : {r : ℕ} → r ≡ judged form_e → (r ≡ 0 → ⊥) → r ≡ judged (header_part f c m)
  unfolding header_part
  form-bad e h = stopped form_e (columns_e ++ steps_e) e h

  pub columns-bad : {r x : ℕ} → r ≡ judged form_e → r ≡ 0 → x ≡ judged columns_e → (x ≡ 0 → ⊥) → x ≡ judged (header_part f c m)
  unfolding header_part
  columns-bad e z g h = went form_e (columns_e ++ steps_e) e z (stopped columns_e steps_e g h)

  pub steps-last : {r x y : ℕ} → r ≡ judged form_e → r ≡ 0 → x ≡ judged columns_e → x ≡ 0 → y ≡ judged steps_e → y ≡ judged (header_part f c m)
  unfolding header_part
  steps-last e z g h k = went form_e (columns_e ++ steps_e) e z (went columns_e steps_e g h k)

module _ (c : ℕ → ColumnFields) (i : ℕ) where
  abbrev size_e : List Entry
  size_e = entry 6 (c i).size 4 (outside 1 limits.positions (c i).size.value) ∷ []

  abbrev start_e : ℕ → List Entry
  start_e size = entry 5 (c i).start 5 (leb size (c i).start.value) ∷ []

  abbrev mark_e : Field → ℕ → List Entry
  mark_e f size = entry 6 f 5 (outside 0 size f.value) ∷ []

  pub size-bad : {r : ℕ} → r ≡ judged size_e → (r ≡ 0 → ⊥) → r ≡ judged (column_part c i)
  unfolding column_part
  size-bad e h = stopped size_e (start_e (c i).size.value ++ mark_e (c i).goal (c i).size.value) e h

  -- a column without refusal has its size
  pub size-here : judged (column_part c i) ≡ 0 → (c i).size.here ≡ true
  unfolding column_part
  size-here h = (first_fine (entry 6 (c i).size 4 (outside 1 limits.positions (c i).size.value)) _ (omega arith) h).0.0

  module _ {r size : ℕ} (e : r ≡ judged size_e) (z : r ≡ 0) (q : size ≡ (c i).size.value) where
    pub start-bad : {x : ℕ} → x ≡ judged (start_e size) → (x ≡ 0 → ⊥) → x ≡ judged (column_part c i)
    unfolding column_part
    start-bad g h = went size_e (start_e (c i).size.value ++ mark_e (c i).goal (c i).size.value) e z (stopped (start_e (c i).size.value) (mark_e (c i).goal (c i).size.value) (g ∙ ap (λ (k : ℕ). judged (start_e k)) q) h)

    pub goal-last : {x y : ℕ} → x ≡ judged (start_e size) → x ≡ 0 → y ≡ judged (mark_e (c i).goal size) → y ≡ judged (column_part c i)
    unfolding column_part
    goal-last g h k =
        went size_e (start_e (c i).size.value ++ mark_e (c i).goal (c i).size.value) e z
        (went (start_e (c i).size.value) (mark_e (c i).goal (c i).size.value) (g ∙ ap (λ (k : ℕ). judged (start_e k)) q) h (k ∙ ap (λ (k : ℕ). judged (mark_e (c i).goal k)) q))

  module _ (k : ℕ → ℕ → MarkFields) (j : ℕ) {size : ℕ} (q : size ≡ (c i).size.value) where
    pub need-bad : {x : ℕ} → x ≡ judged (mark_e (k j i).need size) → (x ≡ 0 → ⊥) → x ≡ judged (marks_part c k j i)
    unfolding marks_part
    need-bad g h = stopped (mark_e (k j i).need (c i).size.value) (mark_e (k j i).effect (c i).size.value) (g ∙ ap (λ (z : ℕ). judged (mark_e (k j i).need z)) q) h

    pub effect-last : {x y : ℕ} → x ≡ judged (mark_e (k j i).need size) → x ≡ 0 → y ≡ judged (mark_e (k j i).effect size) → y ≡ judged (marks_part c k j i)
    unfolding marks_part
    effect-last g h e =
        went (mark_e (k j i).need (c i).size.value) (mark_e (k j i).effect (c i).size.value) (g ∙ ap (λ (z : ℕ). judged (mark_e (k j i).need z)) q) h (e ∙ ap (λ (z : ℕ). judged (mark_e (k j i).effect z)) q)

module _ (c : ℕ → ColumnFields) (cost : ℕ → Field) (k : ℕ → ℕ → MarkFields) (n j : ℕ) where
  abbrev cost_e : List Entry
  cost_e = free 16 (cost j) ∷ []

  pub cost-cut : {r : ℕ} → r ≡ judged cost_e → (r ≡ 0 → ⊥) → r ≡ judged (step_part c cost k n j)
  unfolding step_part
  cost-cut e h = stopped cost_e (each n (marks_part c k j)) e h

  pub marks-last : {r x : ℕ} → r ≡ judged cost_e → r ≡ 0 → x ≡ judged (each n (marks_part c k j)) → x ≡ judged (step_part c cost k n j)
  unfolding step_part
  marks-last e z h = went cost_e (each n (marks_part c k j)) e z h

-- ---- a whole sheet, part after part
module _ (p : Source) (n m : ℕ) where
  abbrev pub H : List Entry
  H = header_part p.form p.columns p.steps

  abbrev pub C : List Entry
  C = each n (column_part p.column)

  abbrev pub S : List Entry
  S = each m (step_part p.column p.cost p.marks n)

  abbrev pub F : List Entry
  F = fill_part (model_bits n m) p.fill

  module _ {r : ℕ} (e : r ≡ judged H) where
    pub part-header : (r ≡ 0 → ⊥) → r ≡ judged (fields_part p n m)
    unfolding fields_part
    part-header h = stopped H (C ++ (S ++ F)) e h

    pub part-body : r ≡ 0 → {x : ℕ} → x ≡ judged (body_part p n m) → x ≡ judged (fields_part p n m)
    unfolding fields_part
    part-body z h = went H (body_part p n m) e z h

  -- what follows the header
  module _ {r : ℕ} (e : r ≡ judged C) where
    pub body-columns : (r ≡ 0 → ⊥) → r ≡ judged (body_part p n m)
    body-columns h = stopped C (S ++ F) e h

    module _ (z : r ≡ 0) {x : ℕ} (g : x ≡ judged S) where
      pub body-steps : (x ≡ 0 → ⊥) → x ≡ judged (body_part p n m)
      body-steps h = went C (S ++ F) e z (stopped S F g h)

      pub body-fill : x ≡ 0 → {y : ℕ} → y ≡ judged F → y ≡ judged (body_part p n m)
      body-fill h k = went C (S ++ F) e z (went S F g h k)

  -- no refusal: none in any part
  pub parts-fine : judged (fields_part p n m) ≡ 0 → (judged H ≡ 0) × (judged C ≡ 0) × (judged S ≡ 0) × (judged F ≡ 0)
  unfolding fields_part
  parts-fine h =
      let a = both H (C ++ (S ++ F)) h in
      let b = both C (S ++ F) a.1 in
      let d = both S F b.1 in
      (a.0, b.0, d.0, d.1)

-- the counts that stand on the sheet
pub part-done : (s : List ℕ) {n m r : ℕ} → n ≡ columns_of s → m ≡ steps_of s → r ≡ judged (fields_part (sheet_with s n m) n m) → r ≡ judge_part s
unfolding judge_part entries of_sheet sheet_with
part-done s q w e = e ∙ ap₂ (λ (x y : ℕ). judged (fields_part (sheet_with s x y) x y)) q w

pub part-fine : (s : List ℕ) → judge_part s ≡ 0 → HeaderFine (on_sheet s 0 4) (on_sheet s 4 5) (on_sheet s 9 8)
unfolding judge_part entries of_sheet sheet_with
part-fine s h = header-fine (on_sheet s 0 4) (on_sheet s 4 5) (on_sheet s 9 8) (parts-fine (of_sheet s) (columns_of s) (steps_of s) h).0

-- ---- bytes that follow
module _ (s : List ℕ) where
  abbrev Follows : List Check
  Follows = follows (model_end s) s ∷ []

  pub sheet-stopped : {r : ℕ} → r ≡ judge_part s → (r ≡ 0 → ⊥) → r ≡ judge_sheet s
  unfolding judge_part judge_sheet sheet_checks
  sheet-stopped e h = last-stopped (entries (of_sheet s)) Follows e h

  module _ {r : ℕ} (e : r ≡ judge_part s) (z : r ≡ 0) where
    pub sheet-end : {end x : ℕ} → end ≡ model_end s → x ≡ refusal (follows end s ∷ []) → x ≡ judge_sheet s
    unfolding judge_part judge_sheet sheet_checks
    sheet-end q f = last-went (entries (of_sheet s)) Follows e z (f ∙ ap (λ (k : ℕ). refusal (follows k s ∷ [])) q)

    pub sheet-whole : length s ≤ model_end s → 0 ≡ judge_sheet s
    unfolding judge_part judge_sheet sheet_checks
    sheet-whole h = last-went (entries (of_sheet s)) Follows e z (passes 6 _ [] (le-ltb _ _ h) no-checks)

  -- an accepted sheet: its part is, and nothing follows
  pub sheet-fine : judge_sheet s ≡ 0 → (judge_part s ≡ 0) × (length s ≤ model_end s)
  unfolding judge_part judge_sheet sheet_checks
  sheet-fine h =
      let a = last-both (entries (of_sheet s)) Follows h in
      (a.0, ltb-false (model_end s) (length s) (passed 6 _ [] (omega arith) a.1).0)

pub fill-at : (s : List ℕ) {a b x : ℕ} → a ≡ b → x ≡ judged (entry (fill_bits a) (on_sheet s a (fill_bits a)) 6 (outside 0 0 (field_at s a (fill_bits a))) ∷ []) → x ≡ judged (fill_part b (on_sheet s b (fill_bits b)))
unfolding fill_part
fill-at s q e = e ∙ ap (λ (k : ℕ). judged (entry (fill_bits k) (on_sheet s k (fill_bits k)) 6 (outside 0 0 (field_at s k (fill_bits k))) ∷ [])) q
