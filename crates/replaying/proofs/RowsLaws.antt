-- From the model's tables, the cuts in a list and their distances to the rows of the definition.
use Prim.Native.Nat.{ℕ, suc, ◌+◌, ◌*◌, ◌≤◌, ◌<◌}
use native.Mathlib.Omega.{arith}
use native.Mathlib.Numerals.{add-one}
use mathlib.Core.Path.{◌≡◌, refl, ap, ◌∙◌, subst}
use mathlib.Core.Bool.{true}
use mathlib.Core.List.{List}
use mathlib.Core.Option
use mathlib.Core.Option.{Option, some, none}
use lib.IntN.{ℤ}
use lib.ListN.{length, get_or}
use Rattle.task.specs.Loops.{tab, over}
use Rattle.task.specs.Sizes.{limits}
use Rattle.task.specs.Task.{Task, Tenths, Accepted, start}
use Rattle.task.proofs.LoopLaws.{tab-length, over-at}
use Rattle.fields.specs.Judging.{each}
use Rattle.fields.specs.Places.{puts}
use Rattle.fields.proofs.JudgingLaws.{each-ext}
use Rattle.fields.proofs.PlaceLaws.{puts-over}
use Rattle.sheets.specs.Holding.{task_on}
use Rattle.blocks.specs.declared.Cut.{Cut}
use Rattle.blocks.specs.Blocks.{accepted}
use Rattle.blocks.specs.Flat.{blocks_in, cuts_in}
use Rattle.blocks.specs.Masks.{lands_in, Stands}
use Rattle.distances.proofs.EstimateLaws.{estimate-bound}
use Rattle.settling.specs.Coded.{coded_over, Measured}
use Rattle.cut_sheets.specs.CutPart.{cut_named, cuts_named, cut_on, count_of}
use Rattle.cut_sheets.specs.CutSheet.{cut_values}
use Rattle.cut_sheets.specs.Judged.{Made}
use Rattle.cut_sheets.proofs.CutRoundLaws.{own-accepted}
use Rattle.cut_sheets.proofs.JudgeLaws.{count-below}
use Rattle.asking.proofs.QuestionLaws as listed
use Rattle.along.specs.Along.{here_after, stop_row, cost_after}
use Rattle.replay.specs.Replay.{step_at, before, bad_row, paid, far, difference, won, detour, row_values, row_list}
use Rattle.replay.proofs.LogLaws.{before-state, good-all, good-row}
use Rattle.replay.proofs.RowLaws.{way_back, dashed-is, rows-length}
use Rattle.cutting.specs.declared.Blocks.{Blocks}
use Rattle.masks.specs.declared.Tables.{Tables}
use Rattle.preparing.specs.Preparing.{Prepared}
use Rattle.standing.specs.Standing.{at_start}
use Rattle.standing.proofs.StartLaws.{start-stands}
use Rattle.figures.specs.Figures.{row_by}
use Rattle.figures.proofs.FigureLaws.{row_same}
use Rattle.replaying.specs.Replaying.{Sheets}
use Rattle.replaying.proofs.JoinLaws.{stop_is, along, cost-is}

-- ---- rows from a table of estimates
module _ (t : Task) (v : Accepted t) (cs : List Cut) (ok : accepted t cs ≡ true) (few : length cs < limits.blocks) (log : List ℕ) (good : bad_row t log ≡ 0) where
  bounded : (i : ℕ) (e : Tenths) → far t cs log i ≡ some e → e < limits.no_way
  unfolding far
  bounded i e q = (estimate-bound t v cs ok few (before t log i) (before-state t v log i) e q).1

  -- the table has the estimate before each row and after the last
  abbrev pub Estimated : List ℕ → Type 0
  Estimated estimates = (i : ℕ) → i ≤ length log → get_or estimates i 0 ≡ Option.get_or (far t cs log i) limits.no_way

  most : (o : Option Tenths) → ((e : Tenths) → o ≡ some e → e < limits.no_way) → Option.get_or o limits.no_way ≤ limits.no_way
  most none h = omega arith
  most (some e) h = omega (arith, h e refl)

  module _ (estimates : List ℕ) (is : Estimated estimates) where
    pub estimates-most : (i : ℕ) → i ≤ length log → get_or estimates i 0 ≤ limits.no_way
    estimates-most i h = rw (is i h) (most (far t cs log i) (bounded i))

    module _ (costs : List ℕ) (cost : (i : ℕ) → i < length log → paid t log i ≡ get_or costs (get_or log i 0) 0) where
      row_is : (i : ℕ) → i < length log → row_by costs log estimates i ≡ row_values t cs log i
      unfolding row_by row_values won detour difference
      row_is i h =
          let b = is i (omega arith) in
          let a = is (i + 1) (omega arith) in
          rw (← cost i h, b, a, add-one, dashed-is t v cs ok log good i h)
          (row_same (paid t log i) (far t cs log i) (far t cs log (suc i)) (bounded (suc i)) (way_back t v cs ok log good i h))

      pub rows_are : (rows : List ℤ) → length log * 3 ≤ length rows → {next : List ℤ} → next ≡ puts 0 (each (length log) (row_by costs log estimates)) rows → next ≡ over (row_list t cs log) rows
      unfolding over row_list
      rows_are rows h e =
          let l = rows-length t cs log in
          e ∙ ap (λ (x : List ℤ). puts 0 x rows) (each-ext (length log) _ _ row_is) ∙ puts-over (each (length log) (row_values t cs log)) rows (omega (arith, l))

-- ---- accepted sheets, and the model in tables
module _ {model part : List ℕ} {blocks : Blocks} (fine : Sheets model part blocks) (log : List ℕ) {g : Tables} (own : Prepared (task_on model) g)
    {here : List ℕ} (begin : here ≡ at_start g.rows) where
  abbrev t : Task
  t = task_on model

  abbrev cs : List Cut
  cs = cuts_named (cut_on part) (count_of part)

  pub given : Accepted t
  given = own.tabled.task

  stands : Stands t (start t) here
  stands = rw begin (start-stands t given (start t) g.rows own.tabled.start)

  pub stop-known : stop_row g.shape.columns g.shape.steps g.rows (lands_in g.rows) log here ≡ bad_row t log
  stop-known = stop_is t own.tabled.own.wide own.tabled.own.long own.tabled.own.told log here stands

  pub cuts-ok : accepted t cs ≡ true
  cuts-ok = own-accepted t part fine.part-fine

  pub cuts-few : length cs < limits.blocks
  unfolding cuts_named
  cuts-few = omega (arith, tab-length (count_of part) (λ k. cut_named (cut_on part k)), count-below part refl)

  stand : Made t (cut_on part) g.shape.columns (count_of part) blocks
  stand = subst (λ (n : ℕ). Made t (cut_on part) n (count_of part) blocks) own.tabled.own.wide fine.made

  module _ (good : bad_row t log ≡ 0) where
    known : (i : ℕ) → i < length log → get_or log i 0 < g.shape.steps
    unfolding step_at
    known i h = let k = (good-row t log i (good-all t log good i h)).known in omega (arith, k, own.tabled.own.long)

    pub known_small : (i : ℕ) → i < length log → get_or log i 0 < limits.steps
    known_small i h = omega (arith, known i h, own.tabled.own.long, given.steps)

    cost-known : (i : ℕ) → i < length log → paid t log i ≡ get_or g.costs (get_or log i 0) 0
    unfolding paid step_at
    cost-known i h = own.tabled.own.cost (step_at log i) (known i h)

    -- ---- the cuts in a list, and their distances
    module _ {count : ℕ} (e : count ≡ count_of part) (few : count < limits.blocks) (old : List ℕ) (room : count * 3 ≤ length old) {cuts : List ℕ} (q : cuts ≡ puts 0 (each count (cut_values (cut_on part))) old)
        (dist₀ : List ℕ) {dist : List ℕ} (d : dist ≡ coded_over t (blocks_in g.shape.columns blocks.count blocks.sets) blocks.count dist₀) where
      column-there : (i : ℕ) → i < count → get_or cuts (i * 3 + 1) 0 < g.shape.columns
      column-there = listed.column-small t own.tabled.own.wide given part blocks fine.part-fine stand e few old room q

      pub cuts-there : Measured count cuts dist
      cuts-there = listed.measured t own.tabled.own.wide given part blocks fine.part-fine stand e few old room q dist₀ d

      named : cuts_in count cuts ≡ cs
      named = listed.list t own.tabled.own.wide given part blocks fine.part-fine stand e few old room q

      pub estimated : (old-estimates : List ℕ) {estimates : List ℕ}
          → estimates ≡ over (tab (length log + 1) (cost_after g.shape.columns (lands_in g.rows) count cuts dist log here)) old-estimates → Estimated t given cs cuts-ok cuts-few log good estimates
      unfolding far cost_after
      estimated o w i h =
          let s = along t own.tabled.own.wide own.tabled.own.long own.tabled.own.told log here stands good i h in
          ap (λ (l : List ℕ). get_or l i 0) w
          ∙ over-at (length log + 1) _ o 0 i (omega arith)
          ∙ cost-is t cuts (before t log i) (here_after g.shape.columns (lands_in g.rows) log here i) s given count (listed.good-cuts t own.tabled.own.wide given part blocks fine.part-fine stand e few old room q) few
          (λ k l. omega (arith, column-there k l, own.tabled.own.wide)) dist₀
          (listed.coded t own.tabled.own.wide given part blocks fine.part-fine stand e few old room q dist₀ d) (before-state t given log i)
          ∙ ap (λ (l : List Cut). Option.get_or (far t l log i) limits.no_way) named

      module _ (old-estimates : List ℕ) {estimates : List ℕ}
          (w : estimates ≡ over (tab (length log + 1) (cost_after g.shape.columns (lands_in g.rows) count cuts dist log here)) old-estimates) where
        pub estimates-small : (i : ℕ) → i ≤ length log → get_or estimates i 0 ≤ limits.no_way
        estimates-small = estimates-most t given cs cuts-ok cuts-few log good estimates (estimated old-estimates w)

        pub rows_written : (rows : List ℤ) → length log * 3 ≤ length rows → {next : List ℤ} → next ≡ puts 0 (each (length log) (row_by g.costs log estimates)) rows → next ≡ over (row_list t cs log) rows
        rows_written = rows_are t given cs cuts-ok cuts-few log good estimates (estimated old-estimates w) g.costs cost-known
