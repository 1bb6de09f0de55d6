-- Laws of the loops over a row of masks.
use mathlib.Core.Path.{◌≡◌, refl, sym, ◌∙◌, ap}
use mathlib.Core.Bool.{Bool, true, false, not}
use mathlib.Core.List.{List, [], ◌∷◌, ◌++◌, append-nil}
use mathlib.Core.Option
use mathlib.Core.Option.{Option, none, some}
use Prim.Native.Nat.{ℕ, zero, suc, ◌+◌, ◌-◌, ◌<◌, ◌≤◌}
use lib.ListN.{length, get_or, set, take, drop}
use Rattle.std.proofs.Common.{length-take-le, drop_of_length-le}
use Rattle.std.proofs.lemmas.List.{take_rest, get_or-take}
use Rattle.std.proofs.lemmas.List.Folds.{find-append}
use Rattle.std.specs.List.{range_with_len, find}
use Rattle.std.specs.Option.{option_map, option_or, MatchOption, IsSomeAnd}
use Rattle.std.specs.Prelude as prelude
use Rattle.std.specs.Prelude.{Some, None, IfSome, unwrap_or, cond}
use native.Mathlib.Omega.{arith}
use Rattle.task.specs.declared.Column.{Column}
use Rattle.task.specs.Loops.{all, first, or_else, when, tab, over}
use Rattle.task.specs.Sizes.{limits, lands_row, table_places}
use Rattle.task.specs.Task.{column}
use Rattle.blocks.specs.Blocks.{common, is_empty}
use Rattle.blocks.specs.Flat.{past, row_of}
use Rattle.blocks.specs.Masks.{lands_in, rows_from}
use Rattle.blocks.proofs.MaskLaws.{from-rows}
use Rattle.blocks.proofs.FlatLaws.{over-all}
use Rattle.settling.proofs.JoinLaws.{over-past}
use Rattle.task.proofs.LoopLaws.{over-set, tab-length, tab-ext}
use Rattle.standing.specs.Standing.{landed, back_set, is_off, landed_at, lands_by, taken_by, back_at, back_row, found, off_at, lowest_off}

-- n numbers from a on end in a + n
range-more : (n a : ℕ) → range_with_len a (suc n) ≡ range_with_len a n ++ (a + n) ∷ []
range-more zero a = let e : a ≡ a + 0 = omega arith in ap (λ (x : ℕ). x ∷ []) e
range-more (suc n) a =
    let e : a + 1 + n ≡ a + suc n = omega arith in
    ap (λ (l : List ℕ). a ∷ l) (range-more n (a + 1) ∙ ap (λ (x : ℕ). range_with_len (a + 1) n ++ x ∷ []) e)

-- what `find` answers over the columns, in the definition's words
module _ (wanted here : List ℕ) where
  off : ℕ → Bool
  off j = is_off (get_or wanted j 0) (get_or here j 0)

  lowest : prelude.Option ℕ → Option Column
  lowest None = none
  lowest (Some j) = some (column j)

  one-more : (o : prelude.Option ℕ) (j : ℕ) (b : Bool) → lowest (option_or o (cond b (Some j) None)) ≡ or_else (lowest o) (when b (column j))
  unfolding lowest
  one-more (Some i) j b = refl
  one-more None j true = refl
  one-more None j false = refl

  lowest-first : (n : ℕ) → lowest (find off (range_with_len 0 n)) ≡ first n (off_at wanted here)
  unfolding first off_at off lowest
  lowest-first zero = refl
  lowest-first (suc n) =
      let e : 0 + n ≡ n = omega arith in
      ap (λ (l : List ℕ). lowest (find off l)) (range-more n 0 ∙ ap (λ (x : ℕ). range_with_len 0 n ++ x ∷ []) e)
      ∙ ap lowest (find-append off (range_with_len 0 n) (n ∷ []))
      ∙ one-more (find off (range_with_len 0 n)) n (off n)
      ∙ ap (λ (o : Option Column). or_else o (off_at wanted here n)) (lowest-first n)

  pub found-first : (n : ℕ) (P : ℕ → Column → Type 0) (o : prelude.Option ℕ) (r : prelude.Option Column)
      → option_map (λ (x : ℕ). x) o ≡ find (λ j. is_off (get_or wanted j 0) (get_or here j 0)) (range_with_len 0 n)
      → MatchOption o (r ≡ None) (λ x. IsSomeAnd r (P x)) → ((x : ℕ) (y : Column) → P x y → y ≡ column x) → found r ≡ first n (off_at wanted here)
  unfolding found off lowest
  found-first n P None None e m k = ap lowest e ∙ lowest-first n
  found-first n P None (Some y) e m k = cc
  found-first n P (Some x) None e m k = absurd m
  found-first n P (Some x) (Some y) e m k = ap some (k x y m) ∙ ap lowest e ∙ lowest-first n

-- one column more of a step that is taken in place: the columns that follow still stand as before
pub landed-over : (lands : ℕ → ℕ) (j r : ℕ) (here here₀ : List ℕ) → here ≡ over (tab j (λ i. landed (lands i) (get_or here₀ i 0))) here₀ → j < length here₀
    → r ≡ landed (lands j) (get_or here j 0) → set here j r ≡ over (tab (j + 1) (λ i. landed (lands i) (get_or here₀ i 0))) here₀
landed-over lands j r here here₀ e h k =
    let f : ℕ → ℕ = λ i. landed (lands i) (get_or here₀ i 0) in
    let same : get_or here j 0 ≡ get_or here₀ j 0 = ap (λ (l : List ℕ). get_or l j 0) e ∙ over-past f here₀ j j (omega arith) in
    over-set f j r here here₀ e h (k ∙ ap (landed (lands j)) same)

-- all columns of a step that is taken in place, and the rest of the row behind them
pub landed-row : (lands : ℕ → ℕ) (n : ℕ) (here : List ℕ) → n ≤ length here
    → over (tab n (λ i. landed (lands i) (get_or (take n here) i 0))) (take n here) ++ drop n here ≡ over (tab n (λ i. landed (lands i) (get_or here i 0))) here
unfolding over
landed-row lands n here h =
    let f : ℕ → ℕ = λ i. landed (lands i) (get_or (take n here) i 0) in
    let none : drop (length (tab n f)) (take n here) ≡ [] = drop_of_length-le (take n here) (omega (arith, tab-length n f, length-take-le n here h)) in
    ap (λ (x : List ℕ). (tab n f ++ x) ++ drop n here) none
    ∙ ap (λ (x : List ℕ). x ++ drop n here) (append-nil (tab n f))
    ∙ ap (λ (i : ℕ). tab n f ++ drop i here) (sym (tab-length n f))
    ∙ ap (λ (l : List ℕ). over l here) (tab-ext n f (λ i. landed (lands i) (get_or here i 0)) (λ j k. ap (landed (lands j)) (get_or-take n here j 0 k)))

-- ---- the tests on the tables in one array: a landing is a row
module _ (tables : List ℕ) (s : ℕ) where
  pub lands-rows : (columns : ℕ) (sets here : List ℕ) (b : ℕ)
      → lands_by columns (lands_in tables) sets here s b ≡ all columns (λ j. not (is_empty (common (landed (past tables (row_of (lands_row + s)) j) (get_or here j 0)) (past sets (row_of b) j))))
  unfolding lands_by landed_at
  lands-rows columns sets here b = rw (from-rows lands_row tables s) refl

  pub taken-rows : (columns : ℕ) (here : List ℕ) → taken_by columns (lands_in tables) here s ≡ over (tab columns (λ j. landed (past tables (row_of (lands_row + s)) j) (get_or here j 0))) here
  unfolding taken_by landed_at
  taken-rows columns here = ap (λ (f : ℕ → ℕ). over (tab columns (λ j. landed (f j) (get_or here j 0))) here) (from-rows lands_row tables s)

  pub back-rows : (sets : List ℕ) (b : ℕ)
      → back_row tables (lands_in tables) sets s b ≡ tab limits.columns (λ j. back_set (past tables (row_of s) j) (past tables (row_of (lands_row + s)) j) (past sets (row_of b) j))
  unfolding back_row back_at
  back-rows sets b = ap (λ (f : ℕ → ℕ). tab limits.columns (λ j. back_set (past tables (row_of s) j) (f j) (past sets (row_of b) j))) (from-rows lands_row tables s)

  -- a divergence flaw's wanted sets, written one after the other
  pub back-all : (sets : List ℕ) (b : ℕ) (old : List ℕ) {wanted : List ℕ}
      → wanted ≡ over (tab limits.columns (λ j. back_set (past tables (row_of s) j) (past tables (row_of (lands_row + s)) j) (past sets (row_of b) j))) old
      → length old ≡ limits.columns → wanted ≡ back_row tables (lands_in tables) sets s b
  back-all sets b old e l = e ∙ over-all limits.columns _ old l ∙ sym (back-rows sets b)

-- the tables from a row on, as a part of them that is lent
pub row-rest : (tables : List ℕ) → length tables ≡ table_places → (row : ℕ) → take (table_places - row_of row) (drop (row_of row) tables) ≡ rows_from row tables
unfolding rows_from
row-rest tables long row = rw (← long) (take_rest tables (row_of row))

-- the column that the search answers
module _ (columns : ℕ) (wanted here : List ℕ) (r : prelude.Option Column) where
  pub lowest-is : found r ≡ first columns (off_at wanted here) → unwrap_or r (column 0) ≡ lowest_off columns wanted here
  unfolding lowest_off found
  lowest-is e = rw (← e) (same r)
    where
      same : (r : prelude.Option Column) → unwrap_or r (column 0) ≡ Option.get_or (found r) (column 0)
      same None = refl
      same (Some j) = refl
