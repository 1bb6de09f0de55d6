-- The sets that stand for needs, landings and goals say what the model says, and the tests on them are those of 01.
use mathlib.Core.Path.{◌≡◌, refl, sym, ap, ap₂, ◌∙◌, fun_ext}
use mathlib.Core.Logic.{inl, ⊎_elim, ◌≢◌}
use mathlib.Core.Bool.{true, false, ◌&&◌, and-true}
use mathlib.Core.List.{List}
use mathlib.Core.Option.{Option, none, some}
use Prim.Native.Nat.{ℕ, suc, ◌+◌, ◌-◌, ◌*◌, ◌/◌, ◌%◌, ◌^◌, ◌≤◌, ◌<◌}
use native.Mathlib.Nat.{mod-eq_of_lt, two-pow-succ, zero-add}
use native.Mathlib.Numerals.{one-add}
use native.Mathlib.Omega.{arith}
use lib.Pow.{pow_pos, pow_mono}
use lib.Bits.{bit_and, and_high, and_zero_r}
use lib.ListN.{length, get_or}
use lib.Seq.{get_or-drop}
use borrow.Author.Tests.{eq-eqb, ne_eqb, lt-ltb}
use Rattle.task.specs.declared.Column.{Column}
use Rattle.task.specs.declared.Position.{Position}
use Rattle.task.specs.declared.Step.{Step}
use Rattle.task.specs.declared.Block.{Block}
use Rattle.std.specs.Prelude as maybe
use Rattle.task.specs.declared.Model.{Model}
use Rattle.task.specs.Loops.{all}
use Rattle.task.specs.Sizes.{limits, step_places, table_places, lands_row, goal_row, start_row}
use Rattle.task.specs.Task.{Task, Accepted, column, position, column_count, step_count, size_of, need_at, effect_at, goal_at, each_column, start}
use Rattle.task.specs.Tables.{marked, task_of}
use Rattle.task.proofs.LoopLaws.{all-ext}
use Rattle.task.proofs.TableLaws.{columns-of, steps_of, start_of, goal-of, need-of, effect_of}
use Rattle.task.proofs.TaskLaws.{start-at}
use Rattle.blocks.specs.Blocks.{PositionSet, holds, only, common, is_empty, leads_at, goal_in, block_at, leads, goal_block}
use Rattle.blocks.specs.Flat.{past, row_of, blocks_in, laid}
use Rattle.blocks.specs.Masks.{wants, landing, lies, passes, set_of, land_set, want_set, lands_set, start_set, Told, rows_from, lands_in, goals_in, start_in, Stands, tables_of, all_lie, leads_by, goal_by}
use Rattle.blocks.proofs.PartLaws.{same_or_not}
use Rattle.blocks.proofs.FlatLaws.{past-start, laid-length, laid-outside, laid-at, block-at, set-at}

-- ---- one column

pub shift_one : (p w : ℕ) → p < w → 1 * 2 ^ p % 2 ^ w ≡ 2 ^ p
shift_one p w h =
    let l : 2 ^ suc p ≤ 2 ^ w = pow_mono {i = suc p} {j = w} h in
    let e : 2 ^ suc p ≡ 2 ^ p + 2 ^ p = two-pow-succ p in
    let k : 1 * 2 ^ p ≡ 2 ^ p = omega arith in
    rw k (mod-eq_of_lt (omega (arith, pow_pos p)))

bit-one : (x p : ℕ) → bit_and x (2 ^ p) ≡ (x / 2 ^ p % 2) * 2 ^ p
bit-one x p = let e : 2 ^ (1 + p) - 2 ^ p ≡ 2 ^ p = rw (one-add, two-pow-succ) (omega arith) in rw e at (and_high x 1 p)

lies-only : (p : Position) (a : PositionSet) → lies (only p) a ≡ holds a p
unfolding lies only holds common
lies-only p a =
    let q = pow_pos p.0 in
    ⊎_elim
    (λ (e : a / 2 ^ p.0 % 2 ≡ 1).
    let b : bit_and a (2 ^ p.0) ≡ 1 * 2 ^ p.0 = rw e at (bit-one a p.0) in
    eq-eqb (bit_and a (2 ^ p.0)) (2 ^ p.0) (omega arith) ∙ sym (eq-eqb _ _ e))
    (λ (e : a / 2 ^ p.0 % 2 ≢ 1).
    let o : a / 2 ^ p.0 % 2 ≡ 0 = omega arith in
    let b : bit_and a (2 ^ p.0) ≡ 0 * 2 ^ p.0 = rw o at (bit-one a p.0) in
    ne_eqb (bit_and a (2 ^ p.0)) (2 ^ p.0) (λ (z : bit_and a (2 ^ p.0) ≡ 2 ^ p.0). omega arith) ∙ sym (ne_eqb _ _ e))
    (same_or_not (a / 2 ^ p.0 % 2) 1)

lies-none : (a : PositionSet) → lies 0 a ≡ true
unfolding lies common
lies-none a = eq-eqb (bit_and a 0) 0 (and_zero_r a)

pub none-empty : is_empty 0 ≡ true
unfolding is_empty
none-empty = refl

pub only-some : (p : Position) → is_empty (only p) ≡ false
unfolding is_empty only
only-some p = ne_eqb (2 ^ p.0) 0 (λ z. let q = pow_pos p.0 in omega arith)

-- one column of `leads`
pub passes-leads : (n e : Option Position) (a b : PositionSet) → passes (wants n) (landing n e) a b ≡ leads_at n e a b
unfolding passes wants landing leads_at
passes-leads none none a b = rw (lies-none a, lies-none b, none-empty)
passes-leads none (some e) a b = rw (lies-none a, lies-only e b, only-some e) (and-true (holds b e))
passes-leads (some n) none a b = rw (lies-only n a, lies-only n b, only-some n) (and-true (holds a n && holds b n))
passes-leads (some n) (some e) a b = rw (lies-only n a, lies-only e b, only-some e) (and-true (holds a n && holds b e))

-- one column of `goal_block`
pub lies-goal : (g : Option Position) (a : PositionSet) → lies (wants g) a ≡ goal_in g a
unfolding wants goal_in
lies-goal none a = lies-none a
lies-goal (some p) a = lies-only p a

-- ---- needs and goals as code has them

-- one that names a position of a column
Good : maybe.Option Position → Type 0
Good k = (p : Position) → marked k ≡ some p → p.0 < limits.positions

set-wants : (k : maybe.Option Position) → Good k → set_of k ≡ wants (marked k)
unfolding set_of wants marked Good
set-wants maybe.None g = refl
set-wants (maybe.Some p) g = rw (lt-ltb p.0 limits.positions (g p refl)) refl

land-wants : (n e : maybe.Option Position) → Good n → Good e → land_set n e ≡ landing (marked n) (marked e)
unfolding land_set landing wants marked
land-wants n maybe.None gn ge = set-wants n gn
land-wants n (maybe.Some e) gn ge = set-wants (maybe.Some e) ge

-- ---- the tables in one array
module _ (r : ℕ) (tables : List ℕ) where
  pub from_past : (s j : ℕ) → past (rows_from r tables) (row_of s) j ≡ past tables (row_of (r + s)) j
  unfolding past rows_from
  from_past s j =
      let e : row_of r + (row_of s + j) ≡ row_of (r + s) + j = omega arith in
      get_or-drop (row_of r) tables (row_of s + j) 0 ∙ ap (λ (n : ℕ). get_or tables n 0) e

  pub from-rows : (s : ℕ) → past (rows_from r tables) (row_of s) ≡ past tables (row_of (r + s))
  from-rows s = fun_ext (from_past s)

  pub from_at : (j : ℕ) → get_or (rows_from r tables) j 0 ≡ past tables (row_of r) j
  unfolding past rows_from
  from_at j = get_or-drop (row_of r) tables j 0

  pub from_start : past (rows_from r tables) 0 ≡ past tables (row_of r)
  from_start = fun_ext (λ j. past-start (rows_from r tables) j ∙ from_at j)

-- the tests of a step and of the goal on them
pub leads-rows : (columns : ℕ) (tables sets : List ℕ) (s a b : ℕ)
    → leads_by columns tables (lands_in tables) sets s a b ≡ all columns (λ j. passes (past tables (row_of s) j) (past tables (row_of (lands_row + s)) j) (past sets (row_of a) j) (past sets (row_of b) j))
unfolding leads_by
leads-rows columns tables sets s a b = rw (from-rows lands_row tables s) refl

pub lie-row : (n r k : ℕ) (tables sets : List ℕ) → all_lie n 0 k (rows_from r tables) sets ≡ all_lie n (row_of r) k tables sets
unfolding all_lie
lie-row n r k tables sets = rw (from_start r tables) refl

-- ---- the tables of a model
module _ (m : Model) (old : List ℕ) (long : length old ≡ table_places) where
  abbrev with-needs : List ℕ
  with-needs = laid step_places (want_set m.need) 0 old

  abbrev with-lands : List ℕ
  with-lands = laid step_places (lands_set m) (row_of lands_row) with-needs

  abbrev with-goal : List ℕ
  with-goal = laid limits.columns (want_set m.goal) (row_of goal_row) with-lands

  needs-long : length with-needs ≡ table_places
  needs-long = laid-length (want_set m.need) 0 old step_places ∙ long

  lands-long : length with-lands ≡ table_places
  lands-long = laid-length (lands_set m) (row_of lands_row) with-needs step_places ∙ needs-long

  goal-long : length with-goal ≡ table_places
  goal-long = laid-length (want_set m.goal) (row_of goal_row) with-lands limits.columns ∙ lands-long

  -- what stands before a row that is laid stays
  before-start : (i : ℕ) → i < row_of start_row → get_or (tables_of m old) i 0 ≡ get_or with-goal i 0
  unfolding tables_of
  before-start i h = laid-outside (start_set m) (row_of start_row) with-goal m.columns i (inl h)

  before-goal : (i : ℕ) → i < row_of goal_row → get_or (tables_of m old) i 0 ≡ get_or with-lands i 0
  before-goal i h = before-start i (omega arith) ∙ laid-outside (want_set m.goal) (row_of goal_row) with-lands limits.columns i (inl h)

  need-there : (i : ℕ) → i < step_places → get_or (tables_of m old) i 0 ≡ want_set m.need i
  need-there i h =
      before-goal i (omega arith)
      ∙ laid-outside (lands_set m) (row_of lands_row) with-needs step_places i (inl h)
      ∙ ap (λ (k : ℕ). get_or with-needs k 0) (sym (zero-add i))
      ∙ laid-at (want_set m.need) 0 old step_places i h (omega (arith, long))

  land-there : (i : ℕ) → i < step_places → get_or (lands_in (tables_of m old)) i 0 ≡ lands_set m i
  unfolding rows_from
  land-there i h =
      get_or-drop (row_of lands_row) (tables_of m old) i 0
      ∙ before-goal (row_of lands_row + i) (omega arith)
      ∙ laid-at (lands_set m) (row_of lands_row) with-needs step_places i h (omega (arith, needs-long))

  goal-there : (j : ℕ) → j < limits.columns → get_or (goals_in (tables_of m old)) j 0 ≡ want_set m.goal j
  unfolding rows_from
  goal-there j h =
      get_or-drop (row_of goal_row) (tables_of m old) j 0
      ∙ before-start (row_of goal_row + j) (omega arith)
      ∙ laid-at (want_set m.goal) (row_of goal_row) with-lands limits.columns j h (omega (arith, lands-long))

  start-there : (j : ℕ) → j < m.columns → m.columns ≤ limits.columns → get_or (start_in (tables_of m old)) j 0 ≡ start_set m j
  unfolding rows_from tables_of
  start-there j h n =
      get_or-drop (row_of start_row) (tables_of m old) j 0
      ∙ laid-at (start_set m) (row_of start_row) with-goal m.columns j h (omega (arith, goal-long))

  module _ (v : Accepted (task_of m)) where
    good : (o : Option Position) (k : maybe.Option Position) (j : Column) → j.0 < column_count (task_of m) → o ≡ marked k → ((p : Position) → o ≡ some p → p.0 < size_of (task_of m) j) → Good k
    unfolding Good
    good o k j h e f = λ p q. omega (arith, f p (e ∙ q), (v.sizes j h).1)

    -- the tables say what the task says
    pub model-told : Told (task_of m) (tables_of m old) (lands_in (tables_of m old)) (goals_in (tables_of m old))
    unfolding want_set lands_set past
    model-told =
        record {
          need = λ s j hs hj.
              let n = needs s j hs hj in
              need-there (row_of s.0 + j.0) (inside s j hs hj)
              ∙ set-wants _ (good _ _ j hj n (λ p q. v.needs s j p hj q))
              ∙ ap wants (sym n);
          land = λ s j hs hj.
              let n = needs s j hs hj in
              let e = effects s j hs hj in
              land-there (row_of s.0 + j.0) (inside s j hs hj)
              ∙ land-wants _ _ (good _ _ j hj n (λ p q. v.needs s j p hj q)) (good _ _ j hj e (λ p q. v.effects s j p hj q))
              ∙ ap₂ landing (sym n) (sym e);
          goal = λ j hj.
              let g = goal-of m j (rw columns-of at hj) in
              goal-there j.0 (omega (arith, v.columns.1))
              ∙ set-wants _ (good _ _ j hj g (λ p q. v.goals j p hj q))
              ∙ ap wants (sym g);
        }
      where
        needs : (s : Step) (j : Column) → s.0 < step_count (task_of m) → j.0 < column_count (task_of m) → need_at (task_of m) s j ≡ marked (get_or m.need (row_of s.0 + j.0) maybe.None)
        needs s j hs hj = need-of m s j (rw steps_of at hs) (rw columns-of at hj)

        effects : (s : Step) (j : Column) → s.0 < step_count (task_of m) → j.0 < column_count (task_of m) → effect_at (task_of m) s j ≡ marked (get_or m.effect (row_of s.0 + j.0) maybe.None)
        effects s j hs hj = effect_of m s j (rw steps_of at hs) (rw columns-of at hj)

        inside : (s : Step) (j : Column) → s.0 < step_count (task_of m) → j.0 < column_count (task_of m) → row_of s.0 + j.0 < step_places
        inside s j hs hj = omega (arith, v.steps, v.columns.1)

    -- and the start stands as it is
    pub model-stands : Stands (task_of m) (start (task_of m)) (start_in (tables_of m old))
    unfolding Stands start_set
    model-stands j h =
        let k : j.0 < m.columns = rw columns-of at h in
        start-there j.0 k (omega (arith, v.columns.1, columns-of m)) ∙ ap only (sym (start-at (task_of m) j h ∙ start_of m j k))

-- the start's positions are positions
pub start_small : (m : Model) → Accepted (task_of m) → (j : ℕ) → j < m.columns → (get_or m.start j (position 0)).0 < limits.positions
start_small m v j h =
    let k : j < column_count (task_of m) = omega (arith, columns-of m) in
    rw (← start_of m (column j) h) (omega (arith, v.starts (column j) k, (v.sizes (column j) k).1))

-- ---- the tests on the tables are those on the task
module _ (t : Task) (columns count : ℕ) (needs lands goals sets : List ℕ) (told : Told t needs lands goals) (wide : column_count t ≡ columns) where
  pub leads-by : (s : Step) (a b : Block) → s.0 < step_count t → a.0 < count → b.0 < count
      → leads_by columns needs lands sets s.0 a.0 b.0 ≡ leads t s (block_at (blocks_in columns count sets) a) (block_at (blocks_in columns count sets) b)
  unfolding leads_by leads each_column
  leads-by s a b hs ha hb =
      rw (wide, block-at columns count sets a ha, block-at columns count sets b hb)
      (all-ext columns _ _ (λ j h.
      let k : j < column_count t = omega arith in
      rw (told.need s (column j) hs k, told.land s (column j) hs k, set-at columns sets a.0 (column j) h, set-at columns sets b.0 (column j) h)
      (passes-leads (need_at t s (column j)) (effect_at t s (column j)) _ _)))

  pub goal-by : (a : Block) → a.0 < count → goal_by columns goals sets a.0 ≡ goal_block t (block_at (blocks_in columns count sets) a)
  unfolding goal_by all_lie goal_block each_column
  goal-by a ha =
      rw (wide, block-at columns count sets a ha)
      (all-ext columns _ _ (λ j h.
      let k : j < column_count t = omega arith in
      rw (past-start goals j, told.goal (column j) k, set-at columns sets a.0 (column j) h) (lies-goal (goal_at t (column j)) _)))
