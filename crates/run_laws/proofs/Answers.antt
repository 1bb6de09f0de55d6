-- 01, "A run": what a run that is not refused has answered, for whoever knows only its contract. A plan can be carried out, reaches the goal, and
-- none is cheaper; "no plan" only where none exists; an open run has filled its room, and never has room for every state. Each flaw
-- met before the room is full brings exactly one cut, blocks are cuts plus one, and from cut to cut no state's estimate falls.
use Prim.Native.Nat.{ℕ, ◌+◌, ◌≤◌, ◌<◌}
use native.Mathlib.Omega.{arith}
use mathlib.Core.Path.{◌≡◌, refl, sym, ap, ◌∙◌, subst}
use mathlib.Core.Bool.{true}
use mathlib.Core.List.{List, [], ◌∷◌, ◌++◌, append_assoc}
use mathlib.Core.Option.{some}
use lib.ListN.{length}
use borrow.Author.Tests.{eq-eqb}
use Rattle.task.specs.declared.Step.{Step}
use Rattle.task.specs.Loops.{over}
use Rattle.task.specs.Task.{Task, State, Tenths, Accepted, state_count, is_state, start, costs, IsPlan}
use Rattle.task.proofs.LoopLaws.{and_left, and_right, and_both}
use Rattle.task.proofs.TaskLaws.{start-state}
use Rattle.task.specs.Sizes.{limits}
use Rattle.blocks.specs.declared.Cut.{Cut}
use Rattle.blocks.specs.Blocks.{Blocks, whole, cut_block, cut_ok, cuts_ok, accepted}
use Rattle.blocks.proofs.FollowLaws.{accepted-less}
use Rattle.distances.specs.Distances.{NoMore, number as at_most, estimate}
use Rattle.distances.proofs.EstimateLaws.{estimate-below, estimates-never-fall}
use Rattle.fields.specs.Judging.{refusal}
use Rattle.fields.proofs.JudgingLaws.{neither, refusal-append}
use Rattle.sheets.specs.ModelSheet.{sheet_checks, judge_sheet}
use Rattle.sheets.specs.Holding.{task_on}
use Rattle.sheets.proofs.HeldTaskLaws.{accepted-task}
use Rattle.run.specs.Run as run
use Rattle.run.specs.Run.{plan, no_plan, «open», rows, rows_of, block_count}
use Rattle.run.proofs.RunLaws.{Cheapest, NoPlan as NonePlans, Right}
use Rattle.run.proofs.RunRightLaws.{run-right}
use Rattle.blocks.specs.Flat.{cut_place}
use Rattle.run.specs.Listing.{listed, row_place}
use Rattle.fields.specs.Refusals.{Answered, Done, Refused}
use Rattle.running.specs.declared.Answer.{Answer}
use Rattle.running.specs.declared.Answer.TheVariants.{Plan, NoPlan, Open}
use Rattle.running.specs.Running.{room_checks, run_checks, returned, number, RunOutcome, run_outcome, made, running, Runs}
use Rattle.running.proofs.RunningLaws.{room_fits}
use Rattle.run_laws.proofs.Refusals.{runner}
use Rattle.run_laws.proofs.Flaws.{OnePerFlaw}
use Rattle.run_laws.proofs.FlawLaws.{one-per-flaw}

-- a plan in the list: its steps, its cost, and that none is cheaper
pub record Planned (t : Task) (cost count : ℕ) (list₀ list : List ℕ) : Type 0 where
  pub steps : List Step
  pub count-is : count ≡ length steps
  pub cost-is : cost ≡ costs t steps
  pub listed-rows : list ≡ over (listed row_place (rows t steps)) list₀
  pub cheapest : Cheapest t steps

module _ (t : Task) (room : ℕ) (cs : List Cut) (list₀ list : List ℕ) where
  -- what an answer says, with the cuts that were made and the rows at entry and at exit
  abbrev pub Says : Answered Answer → Type 0
  Says (Done (Plan c n b)) = (b ≡ length cs + 1) × Planned t c n list₀ list
  Says (Done (NoPlan b)) = (b ≡ length cs + 1) × (list ≡ list₀) × NonePlans t
  Says (Done (Open e b)) = (b ≡ length cs + 1) × (list ≡ list₀) × (b ≡ room) × (room < state_count t) × (estimate t cs (start t) ≡ some e)
  Says (Refused n) = ⊥

  said : (r : run.Answer) → Right t room cs r → list ≡ over (listed row_place (rows_of t r)) list₀ → Says (Done (returned t (length cs + 1) r))
  unfolding returned rows_of
  said (plan ss) h e = (refl, record { steps = ss; count-is = refl; cost-is = refl; listed-rows = e; cheapest = h })
  said no_plan h e = (refl, (unfold over listed in e), h)
  said («open» k) h e = (refl, (unfold over listed in e), omega (arith, h.0), h.1, h.2)

-- an accepted list's front is accepted
front : (t : Task) (a b : List Cut) (bs : Blocks) → cuts_ok t bs (a ++ b) ≡ true → cuts_ok t bs a ≡ true
unfolding cuts_ok
front t [] b bs h = refl
front t (c ∷ a) b bs h =
    let r : cuts_ok t (cut_block bs c) (a ++ b) ≡ true = and_right (cut_ok t bs c) (cuts_ok t (cut_block bs c) (a ++ b)) h in
    and_both (and_left (cut_ok t bs c) (cuts_ok t (cut_block bs c) (a ++ b)) h) (front t a b (cut_block bs c) r)

accepted-front : (t : Task) (a b : List Cut) → accepted t (a ++ b) ≡ true → accepted t a ≡ true
unfolding accepted
accepted-front t a b h = front t a b (whole t ∷ []) h

-- along an accepted list no state's estimate falls from cut to cut, "no way" ranking above every number
pub none-falls : (t : Task) → Accepted t → (made : List Cut) → accepted t made ≡ true → (before after : List Cut) (c : Cut) → made ≡ before ++ (c ∷ after)
    → (x : State) → is_state t x ≡ true → NoMore (estimate t before x) (estimate t (before ++ (c ∷ [])) x)
none-falls t v made ok before after c q x h =
    let w : accepted t ((before ++ (c ∷ [])) ++ after) ≡ true = rw (append_assoc before (c ∷ []) after) (rw q at ok) in
    let l = accepted-less t v before c (accepted-front t (before ++ (c ∷ [])) after w) in
    estimates-never-fall t v before l.0 c l.1 x h

-- no plan costs less than the start's estimate after accepted cuts
pub none_below : (t : Task) → Accepted t → (cs : List Cut) → accepted t cs ≡ true → (e : Tenths) → estimate t cs (start t) ≡ some e → (ss : List Step) → IsPlan t ss → e ≤ costs t ss
unfolding IsPlan
none_below t v cs ok e q ss h = at-most (rw q at (estimate-below t v cs ok ss (start t) (start-state t v) h))
  where
    at-most : {a b : Tenths} → NoMore (some a) (some b) → a ≤ b
    at-most (at_most k) = k

module _ (s : List ℕ) (room : ℕ) (cuts rows₀ : List ℕ) where
  abbrev t : Task
  t = task_on s

  -- a run that is not refused
  pub record Ran (a : Answered Answer) (cuts' rows' : List ℕ) : Type 0 where
    pub model : Accepted t
    pub some : 1 ≤ room
    pub few : room ≤ limits.blocks
    pub made : List Cut
    pub listed-cuts : cuts' ≡ over (listed cut_place made) cuts
    pub ok : accepted t made ≡ true
    pub flaws : OnePerFlaw t room made
    pub within : length made + 1 ≤ room
    pub says : Says t room made rows₀ rows' a

  module _ {a : Answered Answer} {cuts' rows' : List ℕ} (done : Runs s room cuts rows₀ a cuts' rows') (kind : number a ≡ 0) where
    quiet : refusal (run_checks s room cuts rows₀) ≡ 0
    quiet = sym (runner s room cuts rows₀).told ∙ ap (λ (o : RunOutcome). number o.answer) (sym done) ∙ kind

    parts : (refusal (sheet_checks s) ≡ 0) × (refusal (room_checks room cuts rows₀) ≡ 0)
    unfolding run_checks
    parts = neither (refusal (sheet_checks s)) _ (sym (refusal-append (sheet_checks s) _) ∙ quiet)

    ok : judge_sheet s ≡ 0
    unfolding judge_sheet
    ok = parts.0

    whole_run : run_outcome a cuts' rows' ≡ made t (run.run t room) cuts rows₀
    unfolding running
    whole_run = simp (eq-eqb (refusal (run_checks s room cuts rows₀)) 0 quiet) at done

    pub run-says : Ran a cuts' rows'
    run-says =
        let v : Accepted t = unfold task_on in accepted-task s ok in
        let f = room_fits room cuts rows₀ parts.1 in
        let r = run-right t v room f.some in
        let o = run.run t room in
        let e : a ≡ Done (returned t (length o.made + 1) o.answer) = ap (λ (x : RunOutcome). x.answer) whole_run ∙ (unfold made run.block_count in refl) in
        let l : rows' ≡ over (listed row_place (rows_of t o.answer)) rows₀ = ap (λ (x : RunOutcome). x.rows) whole_run ∙ (unfold made in refl) in
        record {
          model = v;
          some = f.some;
          few = f.few;
          made = o.made;
          listed-cuts = ap (λ (x : RunOutcome). x.cuts) whole_run ∙ (unfold made in refl);
          ok = r.made;
          flaws = one-per-flaw t room o r;
          within = omega (arith, r.fits);
          says = rw e (said t room o.made rows₀ rows' o.answer r.right l);
        }

  module _ {a : Answered Answer} {cuts' rows' : List ℕ} (r : Ran a cuts' rows') where
    -- with room for every state a run never ends open
    pub never-open : state_count t ≤ room → (e b : ℕ) → a ≡ Done (Open e b) → ⊥
    never-open h e b q = let z = subst (Says t room r.made rows₀ rows') q r.says in omega (arith, z.3)

    -- an open run has filled its room
    pub open-is-full : (e b : ℕ) → a ≡ Done (Open e b) → length r.made + 1 ≡ room
    open-is-full e b q = let z = subst (Says t room r.made rows₀ rows') q r.says in sym z.0 ∙ z.2

    -- its figure is the start's estimate after the cuts made, and no plan costs less
    pub open-estimate : (e b : ℕ) → a ≡ Done (Open e b) → estimate t r.made (start t) ≡ some e
    open-estimate e b q = let z = subst (Says t room r.made rows₀ rows') q r.says in z.4

    pub open-below : (e b : ℕ) → a ≡ Done (Open e b) → (ss : List Step) → IsPlan t ss → e ≤ costs t ss
    open-below e b q = none_below t r.model r.made r.ok e (open-estimate e b q)

    pub never-falls : (before after : List Cut) (c : Cut) → r.made ≡ before ++ (c ∷ after) → (x : State) → is_state t x ≡ true → NoMore (estimate t before x) (estimate t (before ++ (c ∷ [])) x)
    never-falls = none-falls t r.model r.made r.ok
