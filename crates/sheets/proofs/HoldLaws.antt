-- What stands where on a sheet: the fields in sheet order, packed without gaps, are at the positions that are read.
use Prim.Native.Nat.{ℕ, ◌+◌, ◌*◌, ◌<◌}
use native.Mathlib.Omega.{arith}
use mathlib.Core.Path.{◌≡◌, refl, sym, ap, subst}
use mathlib.Core.List.{List, ◌++◌}
use Rattle.fields.specs.Bits.{field_at}
use Rattle.fields.specs.Judging.{Field}
use Rattle.fields.specs.Packing.{bits_in, bytes_for}
use Rattle.fields.proofs.PackingLaws.{Holds, bits-append, bits_each, holds-append, holds-split, holds-each, holds_at}
use Rattle.sheets.specs.ModelSheet.{Source, ColumnFields, MarkFields, header_part, column_part, marks_part, step_part, fill_part, column_bits, model_bits, model_bytes, fill_bits, fields_part}
use Rattle.sheets.proofs.SheetLaws.{H, C, S, F}

-- ---- bits
pub column-bits : (c : ℕ → ColumnFields) (i : ℕ) → bits_in (column_part c i) ≡ 17
unfolding column_part bits_in
column-bits c i = refl

pub marks-bits : (c : ℕ → ColumnFields) (k : ℕ → ℕ → MarkFields) (j i : ℕ) → bits_in (marks_part c k j i) ≡ 12
unfolding marks_part bits_in
marks-bits c k j i = refl

pub step-bits : (c : ℕ → ColumnFields) (cost : ℕ → Field) (k : ℕ → ℕ → MarkFields) (n j : ℕ) → bits_in (step_part c cost k n j) ≡ 16 + n * 12
unfolding step_part bits_in
step-bits c cost k n j = ap (λ (x : ℕ). 16 + x) (bits_each (marks_part c k j) 12 (marks-bits c k j) n)

module _ (p : Source) (n m : ℕ) where
  header-bits : bits_in (H p n m) ≡ 17
  unfolding header_part bits_in
  header-bits = refl

  columns-bits : bits_in (C p n m) ≡ n * 17
  columns-bits = bits_each (column_part p.column) 17 (column-bits p.column) n

  steps-bits : bits_in (S p n m) ≡ m * (16 + n * 12)
  steps-bits = bits_each (step_part p.column p.cost p.marks n) (16 + n * 12) (step-bits p.column p.cost p.marks n) m

  fill-bits : bits_in (F p n m) ≡ fill_bits (model_bits n m)
  unfolding fill_part bits_in
  fill-bits = omega arith

  -- 01's bits, and the fill
  pub sheet-bits : bits_in (fields_part p n m) ≡ model_bits n m + fill_bits (model_bits n m)
  unfolding fields_part model_bits
  sheet-bits =
      omega (arith, bits-append (H p n m) (C p n m ++ (S p n m ++ F p n m)), bits-append (C p n m) (S p n m ++ F p n m), bits-append (S p n m) (F p n m), header-bits, columns-bits, steps-bits, fill-bits)

pub whole-bytes : (n m : ℕ) → model_bits n m + fill_bits (model_bits n m) ≡ 8 * model_bytes n m
unfolding bytes_for
whole-bytes n m = omega arith

-- ---- the bytes s have the values of p at the positions of n columns and m steps
pub record Reads (s : List ℕ) (p : Source) (n m : ℕ) : Type 0 where
  pub form : field_at s 0 4 ≡ p.form.value
  pub columns : field_at s 4 5 ≡ p.columns.value
  pub steps : field_at s 9 8 ≡ p.steps.value
  pub size : (i : ℕ) → i < n → field_at s (column_bits i) 6 ≡ (p.column i).size.value
  pub start : (i : ℕ) → i < n → field_at s (column_bits i + 6) 5 ≡ (p.column i).start.value
  pub goal : (i : ℕ) → i < n → field_at s (column_bits i + 6 + 5) 6 ≡ (p.column i).goal.value
  pub cost : (j : ℕ) → j < m → field_at s (model_bits n j) 16 ≡ (p.cost j).value
  pub need : (j i : ℕ) → j < m → i < n → field_at s (model_bits n j + 16 + i * 12) 6 ≡ (p.marks j i).need.value
  pub effect : (j i : ℕ) → j < m → i < n → field_at s (model_bits n j + 16 + i * 12 + 6) 6 ≡ (p.marks j i).effect.value
  pub fill : field_at s (model_bits n m) (fill_bits (model_bits n m)) ≡ p.fill.value

module _ (s : List ℕ) (p : Source) (n m : ℕ) where
  -- positions of the parts
  pub at-columns : 0 + bits_in (H p n m) ≡ 17
  at-columns = omega (arith, header-bits p n m)

  pub at-steps : 17 + bits_in (C p n m) ≡ column_bits n
  at-steps = omega (arith, columns-bits p n m)

  pub at_fill : column_bits n + bits_in (S p n m) ≡ model_bits n m
  unfolding model_bits
  at_fill = omega (arith, steps-bits p n m)

  parts : Holds s 0 (H p n m) → Holds s 17 (C p n m) → Holds s (column_bits n) (S p n m) → Holds s (model_bits n m) (F p n m) → Reads s p n m
  unfolding header_part column_part marks_part step_part fill_part model_bits
  parts h c t f =
      record {
        form = h.0;
        columns = h.1.0;
        steps = h.1.1.0;
        size = λ i l. (holds_at (column_part p.column) 17 (column-bits p.column) s 17 n c i l).0;
        start = λ i l. (holds_at (column_part p.column) 17 (column-bits p.column) s 17 n c i l).1.0;
        goal = λ i l. (holds_at (column_part p.column) 17 (column-bits p.column) s 17 n c i l).1.1.0;
        cost = λ j l. (holds_at (step_part p.column p.cost p.marks n) (16 + n * 12) (step-bits p.column p.cost p.marks n) s (column_bits n) m t j l).0;
        need = λ j i l k. (holds_at (marks_part p.column p.marks j) 12 (marks-bits p.column p.marks j) s (model_bits n j + 16) n (holds_at (step_part p.column p.cost p.marks n) (16 + n * 12) (step-bits p.column p.cost p.marks n) s (column_bits n) m t j l).1 i k).0;
        effect = λ j i l k. (holds_at (marks_part p.column p.marks j) 12 (marks-bits p.column p.marks j) s (model_bits n j + 16) n (holds_at (step_part p.column p.cost p.marks n) (16 + n * 12) (step-bits p.column p.cost p.marks n) s (column_bits n) m t j l).1 i k).1.0;
        fill = f.0;
      }

  pub holds-reads : Holds s 0 (fields_part p n m) → Reads s p n m
  unfolding fields_part
  holds-reads h =
      let a = holds-split s 0 (H p n m) (C p n m ++ (S p n m ++ F p n m)) h in
      let b = holds-split s 17 (C p n m) (S p n m ++ F p n m) (subst (λ (x : ℕ). Holds s x (C p n m ++ (S p n m ++ F p n m))) at-columns a.1) in
      let d = holds-split s (column_bits n) (S p n m) (F p n m) (subst (λ (x : ℕ). Holds s x (S p n m ++ F p n m)) at-steps b.1) in
      parts a.0 b.0 d.0 (subst (λ (x : ℕ). Holds s x (F p n m)) at_fill d.1)

  pub reads-holds : Reads s p n m → Holds s 0 (fields_part p n m)
  unfolding fields_part header_part column_part marks_part step_part fill_part model_bits
  reads-holds r =
      holds-append s 0 (H p n m) (C p n m ++ (S p n m ++ F p n m)) (r.form, (r.columns, (r.steps, tt)))
      (subst (λ (x : ℕ). Holds s x (C p n m ++ (S p n m ++ F p n m))) (sym at-columns)
      (holds-append s 17 (C p n m) (S p n m ++ F p n m)
      (holds-each (column_part p.column) 17 (column-bits p.column) s 17 n (λ i l. (r.size i l, (r.start i l, (r.goal i l, tt)))))
      (subst (λ (x : ℕ). Holds s x (S p n m ++ F p n m)) (sym at-steps)
      (holds-append s (column_bits n) (S p n m) (F p n m)
      (holds-each (step_part p.column p.cost p.marks n) (16 + n * 12) (step-bits p.column p.cost p.marks n) s (column_bits n) m
      (λ j l. (r.cost j l, holds-each (marks_part p.column p.marks j) 12 (marks-bits p.column p.marks j) s (model_bits n j + 16) n (λ i k. (r.need j i l k, (r.effect j i l k, tt))))))
      (subst (λ (x : ℕ). Holds s x (F p n m)) (sym at_fill) (r.fill, tt))))))
