-- Writing a sheet, field after field, and the two ways that it ends.
use Prim.Native.Nat.{ℕ, ◌^◌, ◌≤◌, ◌<◌}
use native.Mathlib.Omega.{arith}
use mathlib.Core.Path.{◌≡◌, refl, sym, ap, ap₂, ◌∙◌}
use Rattle.std.proofs.Common.{Some}
use mathlib.Core.List.{List, [], ◌∷◌, ◌++◌}
use lib.ListN.{length}
use borrow.Author.Tests.{eq-eqb, lt-ltb, le-ltb}
use Rattle.task.specs.Loops.{over}
use Rattle.fields.specs.Bits.{put_field}
use Rattle.fields.specs.Judging.{given, in_table, refusal, judged, each}
use Rattle.fields.specs.Packing.{packed}
use Rattle.fields.proofs.JudgingLaws.{last-stopped, last-went, applies, passes, no-checks, refused-is}
use Rattle.fields.proofs.PutLaws.{Bytes}
use Rattle.fields.proofs.PackingLaws.{packed-append, packed-over}
use Rattle.sheets.specs.ModelSheet.{Source, columns_in, steps_in, header_part, column_part, step_part, fill_part, body_part, fields_part, entries, column_bits, model_bits, model_bytes, fill_bits}
use Rattle.sheets.specs.LentTables.{column_in, marks_in, of_tables, too_few, write_checks}
use Rattle.sheets.proofs.SheetLaws.{H, C, S, F, part-header, part-body}
use Rattle.sheets.proofs.HoldLaws.{at-columns, at-steps, at_fill, sheet-bits, whole-bytes}
use Rattle.sheets.proofs.RoundLaws.{fits}
use Rattle.fields.specs.Refusals.{Done, Refused}
use Rattle.writing.specs.Writing.{write_outcome, writing}

-- ---- a writer's fill is 0
put_fill : (b : ℕ) (l : List ℕ) → put_field b (fill_bits b) 0 l ≡ packed b (fill_part b (given 0)) l
unfolding packed fill_part
put_fill b l = refl

module _ (n m : ℕ) (frame costs marks : List ℕ) where
  abbrev P : Source
  P = of_tables n m frame costs marks

  -- the tables of a writer, part after part
  pub given-header : {r : ℕ} → r ≡ judged (header_part (given 1) (given n) (given m)) → (r ≡ 0 → ⊥) → r ≡ judged (entries P)
  unfolding entries of_tables
  given-header e h = part-header P n m e h

  pub given-body : {x : ℕ} → 0 ≡ judged (header_part (given 1) (given n) (given m)) → x ≡ judged (body_part P n m) → x ≡ judged (entries P)
  unfolding entries of_tables
  given-body e g = part-body P n m e refl g

  -- the fields of a writer, put part after part
  pub parts-put : (l : List ℕ) {l₁ l₂ l₃ l₄ : List ℕ} {b : ℕ} → l₁ ≡ packed 0 (header_part (given 1) (given n) (given m)) l → l₂ ≡ packed 17 (each n (column_part (column_in frame))) l₁ → l₃ ≡ packed (column_bits n) (each m (step_part (column_in frame) (in_table costs) (marks_in marks n) n)) l₂ → b ≡ model_bits n m → l₄ ≡ put_field b (fill_bits b) 0 l₃ → l₄ ≡ packed 0 (entries P) l
  unfolding entries fields_part of_tables
  parts-put l {l₁} {l₂} {l₃} e₁ e₂ e₃ q e₄ =
      e₄ ∙ ap (λ (x : ℕ). put_field x (fill_bits x) 0 l₃) q ∙ fill-put
      ∙ sym
      (packed-append 0 (H P n m) (C P n m ++ (S P n m ++ F P n m)) l ∙ ap₂ (λ (x : ℕ) (t : List ℕ). packed x (C P n m ++ (S P n m ++ F P n m)) t) (at-columns [] P n m) (sym e₁)
      ∙ packed-append 17 (C P n m) (S P n m ++ F P n m) l₁ ∙ ap₂ (λ (x : ℕ) (t : List ℕ). packed x (S P n m ++ F P n m) t) (at-steps [] P n m) (sym e₂)
      ∙ packed-append (column_bits n) (S P n m) (F P n m) l₂ ∙ ap₂ (λ (x : ℕ) (t : List ℕ). packed x (F P n m) t) (at_fill [] P n m) (sym e₃))
    where
      fill-put : put_field (model_bits n m) (fill_bits (model_bits n m)) 0 l₃ ≡ packed (model_bits n m) (fill_part (model_bits n m) (given 0)) l₃
      fill-put = put_fill (model_bits n m) l₃

-- ---- the answer
module _ (p : Source) (l : List ℕ) where
  abbrev bytes : ℕ
  bytes = model_bytes (columns_in p) (steps_in p)

  refused : {r : ℕ} → r ≡ refusal (write_checks p l) → (r ≡ 0 → ⊥) → write_outcome (Refused r) l ≡ writing p l
  unfolding writing
  refused e z = refused-is (λ n. write_outcome (Refused n) l) (write_checks p l) _ e z

  pub fields-refused : {r : ℕ} → r ≡ judged (entries p) → (r ≡ 0 → ⊥) → write_outcome (Refused r) l ≡ writing p l
  unfolding write_checks
  fields-refused e h = refused (last-stopped (entries p) (too_few bytes l ∷ []) e h) h

  module _ {r : ℕ} (e : r ≡ judged (entries p)) (z : r ≡ 0) where
    pub room-refused : length l < bytes → write_outcome (Refused 8) l ≡ writing p l
    unfolding write_checks
    room-refused h = refused (last-went (entries p) (too_few bytes l ∷ []) e z (applies 8 _ [] (lt-ltb (length l) bytes h) (omega arith))) (omega arith)

    pub accepted-write : bytes ≤ length l → refusal (write_checks p l) ≡ 0
    unfolding write_checks
    accepted-write h = sym (last-went (entries p) (too_few bytes l ∷ []) e z (passes 8 _ [] (le-ltb (length l) bytes h) no-checks))

    pub put_written : ((j : ℕ) → j < steps_in p → (p.cost j).value < 2 ^ 16) → Bytes l → {b : ℕ} {t : List ℕ} → b ≡ bytes → bytes ≤ length l → t ≡ packed 0 (entries p) l → write_outcome (Done b) t ≡ writing p l
    unfolding writing over entries
    put_written costs bl {b} {t} q h et =
        simp (eq-eqb (refusal (write_checks p l)) 0 (accepted-write h))
        (λ k. write_outcome (Done (q k)) ((et ∙ packed-over (entries p) bytes (fits p (sym e ∙ z) costs) (sheet-bits p (columns_in p) (steps_in p) ∙ whole-bytes (columns_in p) (steps_in p)) l bl h) k))

-- a writer's counts, once they are judged
pub same-given : (frame costs marks l : List ℕ) {n n' m m' : ℕ} → Some n ≡ Some n' → Some m ≡ Some m' → writing (of_tables n' m' frame costs marks) l ≡ writing (of_tables n m frame costs marks) l
same-given frame costs marks l {n} {n'} {m} {m'} e f =
    let q : n' ≡ n = cc in
    let r : m' ≡ m = cc in
    ap₂ (λ (x y : ℕ). writing (of_tables x y frame costs marks) l) q r
