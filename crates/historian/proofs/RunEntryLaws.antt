-- A run on byte lists is the run on lists of so many values, its cuts and rows put as bytes.
use Prim.Native.Nat.{ℕ, min, ◌-◌, ◌*◌, ◌/◌, ◌≤◌}
use native.Mathlib.Omega.{arith}
use mathlib.Core.Path.{◌≡◌, sym, ap, ◌∙◌}
use mathlib.Core.Logic.{⊎_elim}
use mathlib.Core.List.{List, ◌++◌}
use lib.Dec.{ltb}
use lib.ListN.{length, take, drop, length-append}
use borrow.Author.Tests.{eq-eqb, ne_eqb}
use Rattle.task.specs.Loops.{over}
use Rattle.task.specs.Sizes.{limits, most_steps, most_values}
use Rattle.fields.specs.Judging.{refusal, each}
use Rattle.fields.specs.Places.{puts}
use Rattle.running.specs.declared.Answer.{Answer}
use Rattle.fields.specs.Refusals.{Answered}
use Rattle.running.specs.Running.{run_checks, Runs}
use Rattle.running.specs.Counts.{cut_value_count, row_count, row_value_count, Counted}
use Rattle.running.proofs.CountLaws as count
use Rattle.values.proofs.PlacesLaws.{part-long, missing-same}
use Rattle.values.specs.Values.{bytes_at, bytes_of, values_on}
use Rattle.values.proofs.ValueLaws.{unsigned-over, nothing_put}
use Rattle.historian.specs.Entries.{answer_number, entry_checks, made_bytes, run_entry_outcome, run_entry, EntryRuns}
use Rattle.historian.proofs.WholeLaws.{whole-places, plain, CanPut}

-- ---- 8 is judged on the places lent
module _ (s : List ℕ) (room : ℕ) (cuts rows c r : List ℕ) (lc : length c ≡ min (length cuts / 12) most_steps * 3)
    (lr : length r ≡ min (length rows / 12) most_steps * 3) where
  few-same : room ≤ limits.blocks → (bytes list : List ℕ) → length list ≡ min (length bytes / 12) most_steps * 3
      → ltb (length (values_on bytes)) ((room - 1) * 3) ≡ ltb (length list) ((room - 1) * 3)
  few-same h bytes list e =
      missing-same (length bytes / 12) most_steps (room - 1) (length (values_on bytes)) (length list) (omega arith) (whole-places bytes) e

  checks-same : refusal (entry_checks s room cuts rows) ≡ refusal (run_checks s room c r)
  checks-same = count.lists-same s room (values_on cuts) (values_on rows) c r (λ h. (few-same h cuts c lc, few-same h rows r lr))

  module _ {a : Answered Answer} {c' r' : List ℕ} (e : Runs s room c r a c' r') where
    abbrev cut_list : List ℕ
    cut_list = count.cut_list s room c r

    abbrev row_list : List ℕ
    row_list = count.row_list s room c r

    -- the bytes have the places
    pub record Room : Type 0 where
      pub cut-bytes : cut_value_count a * 4 ≤ length cuts
      pub row-bytes : row_value_count a * 4 ≤ length rows

    pub room_for : Room
    room_for =
        let k = count.known s room c r e in
        record {
          cut-bytes = omega (arith, k.cuts_fit, lc);
          row-bytes = omega (arith, k.rows_fit, lr);
        }

    -- the entry's outcome
    pub entry-told : (cs rs : List ℕ) {cuts' rows' : List ℕ} {n : ℕ} → cuts' ≡ puts 0 (each (cut_value_count a) (bytes_at (plain (c' ++ cs)))) cuts → rows' ≡ puts 0 (each (row_value_count a) (bytes_at (plain (r' ++ rs)))) rows
        → n ≡ answer_number a → EntryRuns s room cuts rows n cuts' rows'
    unfolding run_entry made_bytes cut_value_count row_count row_value_count answer_number
    entry-told cs rs {cuts'} {rows'} {n} p q k = ⊎_elim yes-ran not-ran (count.ran-or-not s room c r e)
      where
        yes-ran : count.Ran s room c r a c' r' → EntryRuns s room cuts rows n cuts' rows'
        yes-ran w =
            let x : cuts' ≡ over (bytes_of cut_list) cuts = p ∙ unsigned-over cut_list c cs cuts (cut_value_count a) w.cut-list (count.cuts-long s room c r e w) room_for.cut-bytes in
            let y : rows' ≡ over (bytes_of row_list) rows = q ∙ unsigned-over row_list r rs rows (row_value_count a) w.row-list (count.rows_long s room c r e w) room_for.row-bytes in
            let z = k ∙ ap answer_number w.answer in
            simp (eq-eqb (refusal (entry_checks s room cuts rows)) 0 (checks-same ∙ w.ok)) (rw (x, y, z))

        not-ran : count.NotRan s room c r a c' r' → EntryRuns s room cuts rows n cuts' rows'
        not-ran b =
            let x : cuts' ≡ cuts = p ∙ ap (λ (z : Answered Answer). puts 0 (each (cut_value_count z) (bytes_at (plain (c' ++ cs)))) cuts) b.answer ∙ nothing_put (plain (c' ++ cs)) cuts in
            let y : rows' ≡ rows = q ∙ ap (λ (z : Answered Answer). puts 0 (each (row_value_count z) (bytes_at (plain (r' ++ rs)))) rows) b.answer ∙ nothing_put (plain (r' ++ rs)) rows in
            let z : n ≡ refusal (entry_checks s room cuts rows) = k ∙ ap answer_number b.answer ∙ sym checks-same in
            simp (ne_eqb (refusal (entry_checks s room cuts rows)) 0 (λ v. b.bad (sym checks-same ∙ v))) (rw (x, y) (ap (λ (m : ℕ). run_entry_outcome m cuts rows) z))

-- ---- the same with the first values of two lists to work in, of as many places as are lent and can matter
module _ (s : List ℕ) (room : ℕ) (cut_list row_list cuts rows : List ℕ) {m n : ℕ} (lc : length cut_list ≡ most_values) (lr : length row_list ≡ most_values)
    (p : m ≡ min (length cuts / 12) most_steps) (q : n ≡ min (length rows / 12) most_steps) {a : Answered Answer} {c' r' : List ℕ} (e : Runs s room (take (m * 3) cut_list) (take (n * 3) row_list) a c' r') where
  known : count.Known s room (take (m * 3) cut_list) (take (n * 3) row_list) a c' r'
  known = count.known s room (take (m * 3) cut_list) (take (n * 3) row_list) e

  pub counted : Counted a
  counted = known.counted

  cut-part : length (take (m * 3) cut_list) ≡ min (length cuts / 12) most_steps * 3
  cut-part = part-long (length cuts / 12) most_steps cut_list lc p

  row-part : length (take (n * 3) row_list) ≡ min (length rows / 12) most_steps * 3
  row-part = part-long (length rows / 12) most_steps row_list lr q

  pub cuts-go : {k : ℕ} → k ≡ cut_value_count a → CanPut k (c' ++ drop (m * 3) cut_list) cuts
  cuts-go z = record { room = omega (arith, known.cuts_fit, cut-part); given = omega (arith, known.cuts-in, length-append c' (drop (m * 3) cut_list)) }

  pub rows-go : {k : ℕ} → k ≡ row_value_count a → CanPut k (r' ++ drop (n * 3) row_list) rows
  rows-go z = record { room = omega (arith, known.rows_fit, row-part); given = omega (arith, known.rows_in, length-append r' (drop (n * 3) row_list)) }

  pub told-in : {k l x : ℕ} {cuts' rows' : List ℕ} → k ≡ cut_value_count a → l ≡ row_value_count a → x ≡ answer_number a
      → cuts' ≡ puts 0 (each k (bytes_at (plain (c' ++ drop (m * 3) cut_list)))) cuts → rows' ≡ puts 0 (each l (bytes_at (plain (r' ++ drop (n * 3) row_list)))) rows → EntryRuns s room cuts rows x cuts' rows'
  told-in k l x y z =
      entry-told s room cuts rows (take (m * 3) cut_list) (take (n * 3) row_list) cut-part row-part e (drop (m * 3) cut_list) (drop (n * 3) row_list)
      (y ∙ ap (λ (i : ℕ). puts 0 (each i (bytes_at (plain (c' ++ drop (m * 3) cut_list)))) cuts) k) (z ∙ ap (λ (i : ℕ). puts 0 (each i (bytes_at (plain (r' ++ drop (n * 3) row_list)))) rows) l) x

  -- a refusal puts nothing
  pub refused-in : {x : ℕ} → 0 ≡ cut_value_count a → 0 ≡ row_value_count a → x ≡ answer_number a → EntryRuns s room cuts rows x cuts rows
  refused-in k l x = told-in k l x (sym (nothing_put (plain (c' ++ drop (m * 3) cut_list)) cuts)) (sym (nothing_put (plain (r' ++ drop (n * 3) row_list)) rows))
