-- What `elhavir_run` has answered, for whoever knows only its contract: the number's kind is 0 for a refusal, 1 for a plan, 2 for no plan and 3 for
-- open, and each says what the demands ask of it.
use Prim.Native.Nat.{ℕ, ◌+◌, ◌*◌, ◌^◌, ◌≤◌, ◌<◌}
use native.Mathlib.Omega.{arith}
use native.Mathlib.Decide.{ℕ_discrete}
use mathlib.Core.Path.{◌≡◌, refl, sym, ap, ◌∙◌}
use mathlib.Core.Bool.{true}
use mathlib.Core.List.{List, [], ◌∷◌, ◌++◌}
use mathlib.Core.Option.{some}
use lib.ListN.{length}
use Rattle.task.specs.declared.Step.{Step}
use Rattle.task.specs.Loops.{over}
use Rattle.task.specs.Task.{Task, State, Accepted, state_count, cost_of, is_state, start, costs}
use Rattle.task.proofs.TaskLaws.{start-state}
use Rattle.task.specs.Sizes.{limits, most_cost}
use Rattle.blocks.specs.declared.Cut.{Cut}
use Rattle.blocks.specs.Blocks.{accepted}
use Rattle.distances.specs.Distances.{NoMore, estimate}
use Rattle.distances.proofs.EstimateLaws.{estimate-bound}
use Rattle.fields.specs.Judging.{refusal, outside, each}
use Rattle.fields.proofs.JudgingLaws.{neither, passed, refusal-append, inside-means}
use Rattle.sheets.specs.ModelSheet.{sheet_checks, judge_sheet}
use Rattle.sheets.specs.Holding.{task_on}
use Rattle.sheets.proofs.HeldTaskLaws.{accepted-task}
use Rattle.run.specs.Run as run
use Rattle.run.specs.Run.{plan, no_plan, «open», rows, rows_of}
use Rattle.run.proofs.RunLaws.{Cheapest, NoPlan, Right}
use Rattle.run.proofs.RunRightLaws.{run-right}
use Rattle.run.proofs.LengthLaws.{plan-short}
use Rattle.blocks.specs.Flat.{cut_place}
use Rattle.run.specs.Listing.{listed, row_place}
use Rattle.fields.specs.Refusals.{Done}
use Rattle.running.specs.Running.{room_checks, run_checks, returned}
use Rattle.values.specs.Values.{bytes_of, values_on}
use Rattle.historian.specs.Entries.{answer_number, entry_checks, RunEntryOutcome, made_bytes, EntryRuns}
use Rattle.demands.proofs.Numbers.{kind, blocks, steps, value, Parts, takes-apart}
use Rattle.demands.proofs.RefusalNumbers.{run-byte}
use Rattle.demands.proofs.Refusals.{entry-made, entry-refused}
use Rattle.run_laws.proofs.Flaws.{OnePerFlaw}
use Rattle.run_laws.proofs.FlawLaws.{one-per-flaw}
use Rattle.run_laws.proofs.Answers.{none-falls}

pub costs-few : (t : Task) → ((s : Step) → cost_of t s ≤ most_cost) → (ss : List Step) → costs t ss ≤ length ss * most_cost
unfolding costs
costs-few t h [] = omega arith
costs-few t h (s ∷ ss) = omega (arith, h s, costs-few t h ss)

-- a plan in the bytes: as many steps as are told, their rows, and the cost; none is cheaper
pub record PlanTold (t : Task) (r : ℕ) (bytes₀ bytes : List ℕ) : Type 0 where
  pub list : List Step
  pub count : steps r ≡ length list
  pub short : length list < limits.blocks
  pub cost : value r ≡ costs t list
  pub written : bytes ≡ over (bytes_of (listed row_place (rows t list))) bytes₀
  pub cheapest : Cheapest t list

-- no plan: nothing else is told, no row is touched, and no list of steps is a plan
pub record NoPlanTold (t : Task) (r : ℕ) (bytes₀ bytes : List ℕ) : Type 0 where
  pub no_steps : steps r ≡ 0
  pub no_value : value r ≡ 0
  pub untouched : bytes ≡ bytes₀
  pub none-plans : NoPlan t

-- open: the room is full and has not a block for every state; the value is the start's estimate, and no row is touched
pub record OpenTold (t : Task) (r room : ℕ) (cs : List Cut) (bytes₀ bytes : List ℕ) : Type 0 where
  pub no_steps : steps r ≡ 0
  pub untouched : bytes ≡ bytes₀
  pub full : blocks r ≡ room
  pub too_small : room < state_count t
  pub estimated : estimate t cs (start t) ≡ some (value r)

-- what each kind says, with the cuts that were made and the rows at entry and at exit
pub record Tells (t : Task) (room : ℕ) (cs : List Cut) (bytes₀ : List ℕ) (r : ℕ) (bytes : List ℕ) : Type 0 where
  pub blocks-are : blocks r ≡ length cs + 1
  pub kinds : (1 ≤ kind r) × (kind r ≤ 3)
  pub plan-right : kind r ≡ 1 → PlanTold t r bytes₀ bytes
  pub no-plan-right : kind r ≡ 2 → NoPlanTold t r bytes₀ bytes
  pub open-right : kind r ≡ 3 → OpenTold t r room cs bytes₀ bytes

module _ (t : Task) (v : Accepted t) (room : ℕ) (few : room ≤ limits.blocks) (cs : List Cut) (ok : accepted t cs ≡ true) (fit : length cs + 1 ≤ room) (bytes₀ : List ℕ) where
  abbrev Told : run.Answer → Type 0
  Told a = Tells t room cs bytes₀ (answer_number (Done (returned t (length cs + 1) a))) (over (bytes_of (listed row_place (rows_of t a))) bytes₀)

  tells : (a : run.Answer) → Right t room cs a → ((ss : List Step) → a ≡ plan ss → length ss < room) → Told a
  unfolding answer_number returned rows_of
  tells (plan ss) h short =
      let k = short ss refl in
      let c = costs-few t v.tenths ss in
      let p = takes-apart 1 (length cs + 1) (length ss) (costs t ss) (omega arith) (omega arith) (omega arith) in
      record {
        blocks-are = p.blocks_is;
        kinds = (omega (arith, p.kind-is), omega (arith, p.kind-is));
        plan-right = λ _. record { list = ss; count = p.steps-is; short = omega arith; cost = p.value-is; written = refl; cheapest = h };
        no-plan-right = λ e. absurd (omega (arith, p.kind-is));
        open-right = λ e. absurd (omega (arith, p.kind-is));
      }
  tells no_plan h short =
      let p : Parts (2 * 2 ^ 56 + (length cs + 1) * 2 ^ 44) 2 (length cs + 1) 0 0 = record { kind-is = omega arith; blocks_is = omega arith; steps-is = omega arith; value-is = omega arith } in
      record {
        blocks-are = p.blocks_is;
        kinds = (omega (arith, p.kind-is), omega (arith, p.kind-is));
        plan-right = λ e. absurd (omega (arith, p.kind-is));
        no-plan-right = λ _. record { no_steps = p.steps-is; no_value = p.value-is; untouched = unfold over bytes_of listed each in refl; none-plans = h };
        open-right = λ e. absurd (omega (arith, p.kind-is));
      }
  tells («open» e) h short =
      let b = (estimate-bound t v cs ok (omega arith) (start t) (start-state t v) e h.2).0 in
      let p : Parts (3 * 2 ^ 56 + (length cs + 1) * 2 ^ 44 + e) 3 (length cs + 1) 0 e = record { kind-is = omega arith; blocks_is = omega arith; steps-is = omega arith; value-is = omega arith } in
      record {
        blocks-are = p.blocks_is;
        kinds = (omega (arith, p.kind-is), omega (arith, p.kind-is));
        plan-right = λ k. absurd (omega (arith, p.kind-is));
        no-plan-right = λ k. absurd (omega (arith, p.kind-is));
        open-right = λ _. record {
          no_steps = p.steps-is;
          untouched = unfold over bytes_of listed each in refl;
          full = omega (arith, p.blocks_is, h.0);
          too_small = h.1;
          estimated = h.2 ∙ ap some (sym p.value-is);
        };
      }

module _ (s : List ℕ) (room : ℕ) (cuts rows₀ : List ℕ) {r : ℕ} {cuts' rows' : List ℕ} (done : EntryRuns s room cuts rows₀ r cuts' rows') where
  abbrev t : Task
  t = task_on s

  abbrev R : ℕ
  R = refusal (entry_checks s room cuts rows₀)

  -- kind 0 is a refusal, exactly
  pub kind-refused : (R ≡ 0 → ⊥) → kind r ≡ 0
  kind-refused z =
      let e : r ≡ R = ap (λ (x : RunEntryOutcome). x.answer) (done ∙ entry-refused s room cuts rows₀ z) in
      omega (arith, run-byte s room (values_on cuts) (values_on rows₀))

  -- a run that was made
  pub record EntryMade : Type 0 where
    pub model : Accepted t
    pub some : 1 ≤ room
    pub few : room ≤ limits.blocks
    pub made : List Cut
    pub listed-cuts : cuts' ≡ over (bytes_of (listed cut_place made)) cuts
    pub ok : accepted t made ≡ true
    pub flaws : OnePerFlaw t room made
    pub within : length made + 1 ≤ room
    pub tells : Tells t room made rows₀ r rows'

  accepted-model : R ≡ 0 → Accepted t
  unfolding run_checks judge_sheet task_on
  accepted-model z = accepted-task s (neither (refusal (sheet_checks s)) _ (sym (refusal-append (sheet_checks s) _) ∙ z)).0

  room-inside : R ≡ 0 → (1 ≤ room) × (room ≤ limits.blocks)
  unfolding run_checks room_checks
  room-inside z = inside-means 1 limits.blocks room (passed 7 (outside 1 limits.blocks room) _ (λ y. omega arith) (neither (refusal (sheet_checks s)) _ (sym (refusal-append (sheet_checks s) _) ∙ z)).1).0

  -- where no check applies, the run is made
  pub entry-ran : R ≡ 0 → EntryMade
  entry-ran z =
      let v = accepted-model z in
      let f = room-inside z in
      let o = run.run t room in
      let w = run-right t v room f.0 in
      let fit : length o.made + 1 ≤ room = omega (arith, w.fits) in
      let e : r ≡ answer_number (Done (returned t (length o.made + 1) o.answer)) = ap (λ (x : RunEntryOutcome). x.answer) (done ∙ entry-made s room cuts rows₀ z) ∙ (unfold made_bytes run.block_count in refl) in
      let l : rows' ≡ over (bytes_of (listed row_place (rows_of t o.answer))) rows₀ = ap (λ (x : RunEntryOutcome). x.rows) (done ∙ entry-made s room cuts rows₀ z) ∙ (unfold made_bytes in refl) in
      record {
        model = v;
        some = f.0;
        few = f.1;
        made = o.made;
        listed-cuts = ap (λ (x : RunEntryOutcome). x.cuts) (done ∙ entry-made s room cuts rows₀ z) ∙ (unfold made_bytes in refl);
        ok = w.made;
        flaws = one-per-flaw t room o w;
        within = fit;
        tells = rw (e, l) (tells t v room f.1 o.made w.made fit rows₀ o.answer w.right (plan-short t v room f.0));
      }

  -- any other kind
  pub entry-says : (kind r ≡ 0 → ⊥) → EntryMade
  entry-says k = split (ℕ_discrete R 0)
    where
      split : Dec (R ≡ 0) → EntryMade
      split (no z) = absurd (k (kind-refused z))
      split (yes z) = entry-ran z

  pub never-falls : (m : EntryMade) (before after : List Cut) (c : Cut) → m.made ≡ before ++ (c ∷ after) → (x : State) → is_state t x ≡ true → NoMore (estimate t before x) (estimate t (before ++ (c ∷ [])) x)
  never-falls m = none-falls t m.model m.made m.ok
