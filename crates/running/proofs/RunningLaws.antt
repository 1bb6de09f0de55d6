-- Laws for the code of a run as a caller has it: each refusal is the one that the definition gives, and what is left is the run.
use Prim.Native.Nat.{ℕ, ◌-◌, ◌*◌, ◌≤◌, ◌<◌}
use native.Mathlib.Omega.{arith}
use mathlib.Core.Path.{◌≡◌, refl, sym, ap, ap₂, ◌∙◌}
use mathlib.Core.List.{List, []}
use lib.Dec.{ltb}
use lib.ListN.{length, get_or}
use borrow.Author.Tests.{ltb-false, eq-eqb}
use Rattle.task.specs.declared.Step.{Step}
use Rattle.task.specs.Loops.{over}
use Rattle.task.specs.Sizes.{limits}
use Rattle.task.specs.Task.{Task, step, cost_of, costs}
use Rattle.task.proofs.LoopLaws.{tab-length}
use Rattle.fields.specs.Judging.{outside, refusal}
use Rattle.fields.specs.Refusals.{Done, Refused}
use Rattle.fields.proofs.JudgingLaws.{stop, go, passed, refusal-append, inside-means, refused-is}
use Rattle.sheets.specs.ModelSheet.{columns_of, sheet_checks, judge_sheet}
use Rattle.sheets.specs.Holding.{task_on}
use Rattle.blocks.specs.Blocks.{whole}
use Rattle.masks.specs.declared.Tables.{Tables}
use Rattle.cutting.specs.declared.Blocks.{Blocks}
use Rattle.blocks.specs.Flat.{blocks_in}
use Rattle.preparing.specs.Preparing.{Prepared}
use Rattle.preparing.proofs.WholeLaws.{columns-on, whole-made}
use Rattle.run.specs.Run as run
use Rattle.run.specs.Run.{plan, refine, rows, rows_of}
use Rattle.run.proofs.LengthLaws.{plan-short}
use Rattle.walk.specs.Walking.{step_in, path_steps}
use Rattle.refining.specs.declared.Ended.{Ended}
use Rattle.refining.specs.declared.Ended.TheVariants as ended
use Rattle.run.specs.Listing.{listed, row_place}
use Rattle.refining.specs.Refining.{Uncut, First, answer_of, blocks_told, KnownEnd, StepsFit, RunEnds}
use Rattle.refining.proofs.ModelLaws.{first-parted}
use Rattle.running.specs.declared.Answer.{Answer}
use Rattle.running.specs.declared.Answer.TheVariants.{Plan}
use Rattle.running.specs.Running.{PathCosts, room_checks, run_checks, returned, run_outcome, running, Runs}
use Rattle.running.specs.Running as specs

-- ---- the room and the lists
module _ (room : ℕ) (cuts rows : List ℕ) where
  -- what an accepted room leaves
  pub record Fits : Type 0 where
    pub some : 1 ≤ room
    pub few : room ≤ limits.blocks
    pub cuts_fit : (room - 1) * 3 ≤ length cuts
    pub rows_fit : (room - 1) * 3 ≤ length rows

  pub room_fits : refusal (room_checks room cuts rows) ≡ 0 → Fits
  unfolding room_checks
  room_fits z =
      let a = passed 7 (outside 1 limits.blocks room) _ (λ q. omega arith) z in
      let b = passed 8 (ltb (length cuts) ((room - 1) * 3)) _ (λ q. omega arith) a.1 in
      let c = passed 8 (ltb (length rows) ((room - 1) * 3)) [] (λ q. omega arith) b.1 in
      let i = inside-means 1 limits.blocks room a.0 in
      record {
        some = i.0;
        few = i.1;
        cuts_fit = ltb-false (length cuts) ((room - 1) * 3) b.0;
        rows_fit = ltb-false (length rows) ((room - 1) * 3) c.0;
      }

-- ---- a run's end
known_more : (n m : ℕ) → n ≤ m → (r : Ended) (path : List Step) → KnownEnd n r path → KnownEnd m r path
unfolding KnownEnd
known_more n m h (ended.Plan k b) path p = (p.0, λ i l. let q = p.1 i l in omega arith)
known_more n m h (ended.NoPlan b) path p = p
known_more n m h (ended.Open e b) path p = p

-- a plan has a place for each step
steps-fit : (t : Task) (room long : ℕ) (path : List Step) (o : Ended) → answer_of o path ≡ (refine t (room - 1) []).answer → ((ss : List Step) → (refine t (room - 1) []).answer ≡ plan ss → length ss < room)
    → (room - 1) * 3 ≤ long → StepsFit o long
unfolding StepsFit answer_of path_steps
steps-fit t room long path (ended.Plan n b) h short r = let p = short (path_steps n path) (sym h) in omega (arith, p, tab-length n (step_in path), r)
steps-fit t room long path (ended.NoPlan b) h short r = tt
steps-fit t room long path (ended.Open e b) h short r = tt

costed : (t : Task) (steps : ℕ) (cost : List ℕ) (path : List Step) → ((s : Step) → s.0 < steps → cost_of t s ≡ get_or cost s.0 0) → (o : Ended) → KnownEnd steps o path → PathCosts t o path cost
unfolding PathCosts step_in KnownEnd
costed t steps cost path f (ended.Plan n b) p = λ i h. f (get_or path i (step 0)) (p.1 i h)
costed t steps cost path f (ended.NoPlan b) p = tt
costed t steps cost path f (ended.Open e b) p = tt

-- the answer of a plan whose rows were put
pub plan-told : (t : Task) (n blocks : ℕ) (path : List Step) (list₀ : List ℕ) {c : ℕ} {list : List ℕ} → (c ≡ costs t (path_steps n path)) × (list ≡ over (listed row_place (rows t (path_steps n path))) list₀)
    → (Plan c n blocks ≡ returned t blocks (plan (path_steps n path))) × (list ≡ over (listed row_place (rows_of t (plan (path_steps n path)))) list₀)
unfolding returned rows_of path_steps
plan-told t n blocks path list₀ r = (rw (tab-length n (step_in path)) (ap (λ (k : ℕ). Plan k n blocks) r.0), r.1)

module _ (s : List ℕ) (room : ℕ) (cuts rows : List ℕ) where
  refusing : {r : ℕ} → r ≡ refusal (run_checks s room cuts rows) → (r ≡ 0 → ⊥) → Runs s room cuts rows (Refused r) cuts rows
  unfolding running
  refusing e z = refused-is (λ n. run_outcome (Refused n) cuts rows) (run_checks s room cuts rows) _ e z

  -- a refusal of the sheet
  pub sheet-refused : {code : ℕ} → code ≡ judge_sheet s → (code ≡ 0 → ⊥) → Runs s room cuts rows (Refused code) cuts rows
  unfolding run_checks judge_sheet
  sheet-refused e z = refusing (e ∙ sym (refusal-append (sheet_checks s) _ ∙ stop (refusal (sheet_checks s)) _ (λ q. z (e ∙ q)))) z

  module _ (e : 0 ≡ judge_sheet s) where
    after : {x : ℕ} → x ≡ refusal (room_checks room cuts rows) → x ≡ refusal (run_checks s room cuts rows)
    unfolding run_checks judge_sheet
    after h = h ∙ sym (refusal-append (sheet_checks s) _ ∙ go (refusal (sheet_checks s)) _ (sym e))

    -- a refusal of the room or of the lists
    pub room-refused : {r : ℕ} → r ≡ refusal (room_checks room cuts rows) → (r ≡ 0 → ⊥) → Runs s room cuts rows (Refused r) cuts rows
    room-refused j n = refusing (after j) n

    module _ (j : 0 ≡ refusal (room_checks room cuts rows)) where
      pub fits : Fits room cuts rows
      fits = room_fits room cuts rows (sym j)

      abbrev t : Task
      t = task_on s

      module _ {g : Tables} (p : Prepared (task_on s) g) where
        pub columns-read : g.shape.columns ≡ columns_of s
        columns-read = sym p.tabled.own.wide ∙ columns-on s

        -- block 0 stands alone
        module _ (old : List ℕ) (bs : Blocks) (one : bs.count ≡ 1) (n : bs.sets ≡ over (whole (task_on s)) old) where
          pub parted : Uncut (task_on s) g.shape.columns bs
          parted = first-parted (task_on s) p.tabled.task g.shape.columns bs (ap (λ (k : ℕ). blocks_in g.shape.columns k bs.sets) one ∙ whole-made s columns-read old n)

          pub ready : First g bs
          ready = record { task = task_on s; tabled = p.tabled; parted = parted }

        module _ {o : Ended} {cuts' : List ℕ} {path : List Step} (w : RunEnds (refine (task_on s) (room - 1) []) o g.shape.steps cuts cuts' path) where
          pub known : KnownEnd limits.steps o path
          known = known_more g.shape.steps limits.steps (omega (arith, p.tabled.task.steps, p.tabled.own.long)) o path w.known

          pub room-for-steps : StepsFit o (length rows)
          room-for-steps = steps-fit t room (length rows) path o w.answer (λ ss q. plan-short t p.tabled.task room fits.some ss (unfold run.run in q)) fits.rows_fit

          pub path-costs : PathCosts (task_on s) o path g.costs
          path-costs = costed (task_on s) g.shape.steps g.costs path p.tabled.own.cost o w.known

          -- the run is made
          pub ran : {a : Answer} {rows' : List ℕ} → (a ≡ returned (task_on s) (blocks_told o) (answer_of o path)) × (rows' ≡ over (listed row_place (rows_of (task_on s) (answer_of o path))) rows)
              → Runs s room cuts rows (Done a) cuts' rows'
          unfolding running specs.made run.run
          ran {a} {rows'} q =
              let n : 0 ≡ refusal (run_checks s room cuts rows) = after j in
              let x : a ≡ returned t (run.block_count (refine t (room - 1) [])) (refine t (room - 1) []).answer = q.0 ∙ ap₂ (returned t) w.blocks w.answer in
              let y : rows' ≡ over (listed row_place (rows_of t (refine t (room - 1) []).answer)) rows = q.1 ∙ ap (λ (b : run.Answer). over (listed row_place (rows_of t b)) rows) w.answer in
              simp (eq-eqb (refusal (run_checks s room cuts rows)) 0 (sym n)) (rw (x, y, w.list) refl)
