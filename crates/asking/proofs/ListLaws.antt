-- The list that a cut part fills names its cuts.
use Prim.Native.Nat.{ℕ, ◌+◌, ◌*◌, ◌≤◌, ◌<◌}
use native.Mathlib.Nat.{add-zero}
use native.Mathlib.Omega.{arith}
use mathlib.Core.Path.{◌≡◌, refl, sym, ap, ◌∙◌}
use mathlib.Core.List.{List}
use lib.ListN.{length, get_or, drop, get_or-append}
use Rattle.task.proofs.LoopLaws.{tab-ext}
use Rattle.fields.specs.Judging.{each}
use Rattle.fields.specs.Places.{puts}
use Rattle.fields.proofs.PlaceLaws.{each-length, each_at, puts-over}
use Rattle.blocks.specs.Flat.{cut_at, cuts_in}
use Rattle.cut_sheets.specs.CutPart.{CutFields, cut_named, cuts_named}
use Rattle.cut_sheets.specs.CutSheet.{cut_values}
use Rattle.cut_sheets.proofs.CutSheetLaws.{values_length}

module _ (c : ℕ → CutFields) (n : ℕ) (old : List ℕ) (room : n * 3 ≤ length old) where
  L : List ℕ
  L = each n (cut_values c)

  long : length L ≡ n * 3
  unfolding L
  long = each-length (cut_values c) 3 (values_length c) n

  value : (i k : ℕ) → i < n → k < 3 → get_or (puts 0 (each n (cut_values c)) old) (i * 3 + k) 0 ≡ get_or (cut_values c i) k 0
  unfolding L
  value i k h l =
      ap (λ (x : List ℕ). get_or x (i * 3 + k) 0) (puts-over L old (omega (arith, long)))
      ∙ get_or-append L (drop (length L) old) 0 (i * 3 + k) (omega (arith, long))
      ∙ each_at (cut_values c) 3 (values_length c) n i k h l

  pub column-listed : (i : ℕ) → i < n → get_or (puts 0 (each n (cut_values c)) old) (i * 3 + 1) 0 ≡ (c i).column.value
  unfolding cut_values
  column-listed i h = value i 1 h (omega arith)

  pub cuts-listed : cuts_in n (puts 0 (each n (cut_values c)) old) ≡ cuts_named c n
  unfolding cuts_in cuts_named cut_at cut_named cut_values
  cuts-listed = tab-ext n _ _ same
    where
      same : (i : ℕ) → i < n → cut_at (puts 0 (each n (cut_values c)) old) i ≡ cut_named (c i)
      same i h =
          let l = puts 0 (each n (cut_values c)) old in
          let b : get_or l (i * 3) 0 ≡ (c i).block.value = ap (λ (k : ℕ). get_or l k 0) (sym (add-zero (i * 3))) ∙ value i 0 h (omega arith) in
          rw (b, value i 1 h (omega arith), value i 2 h (omega arith)) refl
