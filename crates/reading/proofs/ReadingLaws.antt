-- The two ways of reading a sheet into lent tables.
use Prim.Native.Nat.{ℕ, ◌*◌, ◌≤◌}
use native.Mathlib.Omega.{arith}
use mathlib.Core.Path.{◌≡◌, sym, ap, ap₂, ◌∙◌, subst}
use mathlib.Core.List.{List}
use lib.ListN.{length}
use borrow.Author.Tests.{eq-eqb, ltb-false}
use Rattle.task.specs.Loops.{over}
use Rattle.fields.specs.Judging.{Check, refusal, each}
use Rattle.fields.specs.Places.{puts}
use Rattle.fields.proofs.JudgingLaws.{refusal-append, stop, go, passed, refused-is}
use Rattle.fields.proofs.PlaceLaws.{puts-over}
use Rattle.sheets.specs.ModelSheet.{columns_of, steps_of, column_on, cost_on, marks_on, sheet_with, of_sheet, sheet_checks, judge_sheet}
use Rattle.sheets.specs.LentTables.{column_values, cost_value, step_values, frame_of, costs_of, marks_of, table_checks, read_checks}
use Rattle.sheets.proofs.TableLaws.{frame-length, costs-length, marks-length}
use Rattle.fields.specs.Refusals.{Answered, Done, Refused}
use Rattle.reading.specs.Reading.{Counts, counts, read_outcome, reading}

module _ (s frame costs marks : List ℕ) where
  -- what reading comes to
  abbrev Reads : Answered Counts → (f c m : List ℕ) → Type 0
  Reads a f c m = read_outcome a f c m ≡ reading s frame costs marks

  -- the checks of the places
  abbrev places : ℕ → ℕ → List Check
  places n m = table_checks n m frame costs marks

  refused : {r : ℕ} → r ≡ refusal (read_checks s frame costs marks) → (r ≡ 0 → ⊥) → Reads (Refused r) frame costs marks
  unfolding reading
  refused e z = refused-is (λ n. read_outcome (Refused n) frame costs marks) (read_checks s frame costs marks) _ e z

  pub sheet-refused : {r : ℕ} → r ≡ judge_sheet s → (r ≡ 0 → ⊥) → Reads (Refused r) frame costs marks
  unfolding judge_sheet read_checks
  sheet-refused e h = refused (e ∙ sym (refusal-append (sheet_checks s) (places (columns_of s) (steps_of s)) ∙ stop (refusal (sheet_checks s)) _ (λ z. h (e ∙ z)))) h

  after-sheet : judge_sheet s ≡ 0 → refusal (read_checks s frame costs marks) ≡ refusal (places (columns_of s) (steps_of s))
  unfolding judge_sheet read_checks
  after-sheet e = refusal-append (sheet_checks s) (places (columns_of s) (steps_of s)) ∙ go (refusal (sheet_checks s)) _ e

  module _ {n m b : ℕ} (ok : judge_sheet s ≡ 0) (qn : n ≡ columns_of s) (qm : m ≡ steps_of s) (e : b ≡ refusal (places n m)) where
    same : b ≡ refusal (read_checks s frame costs marks)
    same = e ∙ ap₂ (λ (x y : ℕ). refusal (places x y)) qn qm ∙ sym (after-sheet ok)

    pub places-refused : (b ≡ 0 → ⊥) → Reads (Refused b) frame costs marks
    places-refused h = refused same h

    -- enough places
    pub enough : b ≡ 0 → (n * 3 ≤ length frame) × (m ≤ length costs) × (m * (n * 2) ≤ length marks)
    enough z =
        let a = passed 8 _ _ (omega arith) (sym e ∙ z) in
        let d = passed 8 _ _ (omega arith) a.1 in
        let f = passed 8 _ _ (omega arith) d.1 in
        (ltb-false (length frame) (n * 3) a.0, ltb-false (length costs) m d.0, ltb-false (length marks) (m * (n * 2)) f.0)

    pub held : b ≡ 0 → {f c k : List ℕ} → f ≡ puts 0 (each n (column_values (column_on s))) frame → c ≡ puts 0 (each m (cost_value (cost_on s n))) costs → k ≡ puts 0 (each m (step_values (marks_on s n) n)) marks → Reads (Done (counts n m)) f c k
    unfolding reading over frame_of costs_of marks_of of_sheet sheet_with
    held z {f} {c} {k} ef ec ek =
        simp (eq-eqb (refusal (read_checks s frame costs marks)) 0 (sym same ∙ z))
        (λ t. read_outcome (Done (counts (qn t) (qm t))) ((ef ∙ ap (λ (x : ℕ). puts 0 (each x (column_values (column_on s))) frame) qn ∙ puts-over (frame_of (of_sheet s)) frame (rw frame-length (subst (λ (x : ℕ). x * 3 ≤ length frame) qn (enough z).0))) t) ((ec ∙ ap₂ (λ (x y : ℕ). puts 0 (each y (cost_value (cost_on s x))) costs) qn qm ∙ puts-over (costs_of (of_sheet s)) costs (rw costs-length (subst (λ (x : ℕ). x ≤ length costs) qm (enough z).1))) t) ((ek ∙ ap₂ (λ (x y : ℕ). puts 0 (each y (step_values (marks_on s x) x)) marks) qn qm ∙ puts-over (marks_of (of_sheet s)) marks (rw marks-length (ap₂-le (enough z).2))) t))
      where
        ap₂-le : m * (n * 2) ≤ length marks → steps_of s * (columns_of s * 2) ≤ length marks
        ap₂-le h = subst (λ (x : ℕ). x * (columns_of s * 2) ≤ length marks) qm (subst (λ (x : ℕ). m * (x * 2) ≤ length marks) qn h)
