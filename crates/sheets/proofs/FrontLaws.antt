-- A model sheet at the front of longer bytes: its part is judged as the sheet alone is, and has the same fields. (A cut sheet starts so.)
use Prim.Native.Nat.{ℕ, suc, ◌+◌, ◌*◌, ◌≤◌, ◌<◌}
use native.Mathlib.Omega.{arith}
use mathlib.Core.Path.{◌≡◌, refl, sym, ap, ap₂, ◌∙◌, subst}
use mathlib.Core.List.{List}
use lib.ListN.{length, take}
use lib.Seq.{length-take-le}
use borrow.Author.Tests.{leb-true}
use Rattle.fields.specs.Bits.{field_at}
use Rattle.fields.specs.Judging.{judged}
use Rattle.fields.proofs.PartLaws.{field-take}
use Rattle.sheets.specs.ModelSheet.{column_bits, model_bits, model_bytes, fill_bits, fields_part, entries, columns_of, steps_of, column_on, cost_on, marks_on, sheet_with, of_sheet, judge_part, judge_sheet}
use Rattle.sheets.proofs.SheetLaws.{sheet-whole}
use Rattle.sheets.proofs.HoldLaws.{Reads, whole-bytes}
use Rattle.sheets.proofs.RoundLaws.{Fine, Same, accepted, same-fields, reads_same, bits-next, bits_mono, base}

module _ (s : List ℕ) (ok : judge_part s ≡ 0) where
  abbrev b : ℕ
  b = model_bytes (columns_of s) (steps_of s)

  part-good : Fine (of_sheet s) (columns_of s) (steps_of s)
  unfolding judge_part entries of_sheet sheet_with
  part-good = accepted (of_sheet s) (columns_of s) (steps_of s) ok

  -- the bytes that an accepted part takes are there
  pub part_length : b ≤ length s
  unfolding of_sheet sheet_with
  part_length =
      let e = model_bits (columns_of s) (steps_of s) in
      omega (arith, whole-bytes (columns_of s) (steps_of s), leb-true (e + fill_bits e) (8 * length s) part-good.fill.0)

  -- other bytes t that start with the same sheet
  module _ (t : List ℕ) (front : (at w : ℕ) → at + w ≤ 8 * b → field_at t at w ≡ field_at s at w) (long : b ≤ length t) where
    inside : (at w : ℕ) → at + w ≤ model_bits (columns_of s) (steps_of s) → field_at t at w ≡ field_at s at w
    inside at w h = front at w (omega (arith, whole-bytes (columns_of s) (steps_of s)))

    within : (j : ℕ) → j < steps_of s → model_bits (columns_of s) j + 16 + columns_of s * 12 ≤ model_bits (columns_of s) (steps_of s)
    within j h = omega (arith, bits-next (columns_of s) j, bits_mono (columns_of s) (suc j) (steps_of s) h)

    front_reads : Reads t (of_sheet s) (columns_of s) (steps_of s)
    unfolding of_sheet sheet_with column_on cost_on marks_on
    front_reads =
        let n = columns_of s in
        let m = steps_of s in
        record {
          form = inside 0 4 (omega (arith, base n m));
          columns = inside 4 5 (omega (arith, base n m));
          steps = inside 9 8 (omega (arith, base n m));
          size = λ i h. inside (column_bits i) 6 (omega (arith, base n m));
          start = λ i h. inside (column_bits i + 6) 5 (omega (arith, base n m));
          goal = λ i h. inside (column_bits i + 6 + 5) 6 (omega (arith, base n m));
          cost = λ j h. inside (model_bits n j) 16 (omega (arith, within j h));
          need = λ j i h l. inside (model_bits n j + 16 + i * 12) 6 (omega (arith, within j h));
          effect = λ j i h l. inside (model_bits n j + 16 + i * 12 + 6) 6 (omega (arith, within j h));
          fill = front (model_bits n m) (fill_bits (model_bits n m)) (omega (arith, whole-bytes n m));
        }

    pub front-counts : (columns_of t ≡ columns_of s) × (steps_of t ≡ steps_of s)
    unfolding of_sheet sheet_with
    front-counts = (front_reads.columns, front_reads.steps)

    -- have the same fields
    pub front_same : Same (of_sheet t) (of_sheet s) (columns_of s) (steps_of s)
    unfolding of_sheet
    front_same = subst (λ (x : ℕ). Same (sheet_with t x (steps_of t)) (of_sheet s) (columns_of s) (steps_of s)) (sym front-counts.0) (subst (λ (y : ℕ). Same (sheet_with t (columns_of s) y) (of_sheet s) (columns_of s) (steps_of s)) (sym front-counts.1) (reads_same t (of_sheet s) (columns_of s) (steps_of s) part-good front_reads long))

    pub front-entries : entries (of_sheet t) ≡ entries (of_sheet s)
    unfolding entries of_sheet sheet_with
    front-entries = ap₂ (λ (x y : ℕ). fields_part (of_sheet t) x y) front-counts.0 front-counts.1 ∙ same-fields (of_sheet t) (of_sheet s) (columns_of s) (steps_of s) front_same

    -- and their part is accepted too
    pub front-accepted : judge_part t ≡ 0
    unfolding judge_part
    front-accepted = ap judged front-entries ∙ ok

  -- the bytes of the part are a whole sheet with the same fields
  front-take : (at w : ℕ) → at + w ≤ 8 * b → field_at (take b s) at w ≡ field_at s at w
  front-take at w h = field-take s b at w h

  taken : length (take b s) ≡ b
  taken = length-take-le b s part_length

  pub taken-accepted : judge_sheet (take b s) ≡ 0
  taken-accepted =
      sym (sheet-whole (take b s) (sym (front-accepted (take b s) front-take (omega (arith, taken)))) refl
      (subst (λ (x : ℕ). length (take b s) ≤ x) (sym (ap₂ model_bytes (front-counts (take b s) front-take (omega (arith, taken))).0 (front-counts (take b s) front-take (omega (arith, taken))).1)) (omega (arith, taken))))
