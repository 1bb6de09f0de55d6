-- 02, order 7: "Given a model's two sheets and the recorded list of up to 255 step numbers, taken from its start, give for each row the tenths paid, the ground
-- won and the detour." For `replay`, and for `elhavir_replay`, whose theorems begin with `entry-`; for whoever knows only the contract. What the rows say is
-- stated once for both, as `RowsRight` (replay_laws, proofs/Rows). One outcome is in `OneOutcome`, accepted or refused in `Refusals`.
use Prim.Native.Nat.{ℕ, ◌+◌, ◌*◌, ◌^◌, ◌≤◌}
use native.Mathlib.Omega.{arith}
use native.Mathlib.Decide.{ℕ_discrete}
use mathlib.Core.Path.{◌≡◌, refl, sym, ap, ◌∙◌, subst⁻¹}
use mathlib.Core.Logic.{◌⊎◌, inl, inr}
use mathlib.Core.Bool.{Bool, cond}
use mathlib.Core.List.{List, map}
use lib.IntN.{ℤ, pos, nat_abs}
use lib.ListN.{length, get_or, drop, length-map, get_or-map}
use borrow.Author.Tests.{ne_eqb}
use Rattle.task.specs.Loops.{over}
use Rattle.task.specs.Sizes.{limits}
use Rattle.task.specs.Task.{Task, IsPlan}
use Rattle.fields.specs.Judging.{refusal}
use Rattle.sheets.specs.Holding.{task_on}
use Rattle.cut_sheets.specs.CutSheet.{cuts_of}
use Rattle.values.specs.Values.{value_on, values_on, twos, signed_bytes}
use Rattle.replay.specs.Replay.{Replayed, Rows, Stopped, Refused}
use Rattle.replay.specs.Replay.{bad_row, row_values, row_list, replay_checks, number, row_named, refused, ReplayOutcome, Replays}
use Rattle.replay.proofs.RowLaws.{rows-length, value-at}
use Rattle.replay.proofs.PlanLaws.{steps_of, plan-goal}
use Rattle.replay_laws.proofs.Refusals.{Passed, quiet, stopped-bad}
use Rattle.replay_laws.proofs.RowsLaws as said
use Rattle.replay_laws.proofs.Rows.{HasRows, RowsRight, GoalReached}
use Rattle.historian.specs.ReplayEntry.{replay_number, replay_entry_checks, ReplayEntryOutcome, replay_entry_outcome, EntryReplays}
use Rattle.demands.proofs.Numbers.{kind, steps, value, Parts, takes-apart, value-back}
use Rattle.demands.proofs.RefusalNumbers.{replay-byte}
use Rattle.demands.proofs.Refusals.{replay-judged, row-bad, row-few, elhavir-replay-judged}
use Rattle.demands.proofs.Untouched.{past, bytes-length}
use Rattle.demands.proofs.Replays.{StoppedAt, stopped-at, signed, signed_on, signed_back, twos-low}

-- ---- replay
module _ (model s log : List ℕ) (rows : List ℤ) {l : List ℤ} where
  -- 14 is told as the row
  pub replay-fourteen : {r : Replayed} → Replays model s log rows r l → number r ≡ 14 → r ≡ Stopped (bad_row (task_on model) log)
  unfolding refused
  replay-fourteen done e = ap (λ (o : ReplayOutcome). o.answer) ((replay-judged model s log rows done).leaves 14 (λ z. omega arith) e)

  pub replay-row : {k : ℕ} → Replays model s log rows (Stopped k) l → StoppedAt (task_on model) log k
  unfolding number row_named
  replay-row {k} done =
      let e : k ≡ bad_row (task_on model) log = ap row_named (replay-fourteen done refl) in
      let f : refusal (replay_checks model s log rows) ≡ 14 = sym (replay-judged model s log rows done).told in
      subst⁻¹ (StoppedAt (task_on model) log) e (stopped-at (task_on model) log (stopped-bad model s log rows f))

module _ (model s log : List ℕ) (rows : List ℤ) {n : ℕ} {l : List ℤ} (done : Replays model s log rows (Rows n) l) where
  -- a row for each step
  pub replay-each : n ≡ length log
  replay-each = said.every-row model s log rows done

  -- value k of row i stands at place 3 i + k
  pub replay-value : HasRows (task_on model) (cuts_of s) log (λ k. get_or l k (pos 0))
  replay-value = said.rows-there model s log rows done

  -- what they say
  pub replay-right : RowsRight (task_on model) (cuts_of s) log (λ k. get_or l k (pos 0))
  replay-right = said.written-right model s log rows done

  -- of a plan: no dash, and its detours are what it costs above the start's estimate
  pub replay-plan : IsPlan (task_on model) (steps_of log) → GoalReached (task_on model) (cuts_of s) log (λ k. get_or l k (pos 0))
  replay-plan p = replay-right.goal-reached (plan-goal (task_on model) log p)

  -- places past the last row stay untouched
  pub replay-past-untouched : drop (n * 3) l ≡ drop (n * 3) rows
  replay-past-untouched = said.past-rows model s log rows done

-- ---- elhavir_replay
module _ (model s log rows : List ℕ) {r : ℕ} {l : List ℕ} (done : EntryReplays model s log rows r l) where
  abbrev t : Task
  t = task_on model

  abbrev taken-steps : List ℕ
  taken-steps = values_on log

  abbrev Q : ℕ
  Q = refusal (replay_entry_checks model s log rows)

  -- a replay that is done, and the answer number of one that is refused
  made : Q ≡ 0 → replay_entry_outcome r l ≡ replay_entry_outcome (replay_number (Rows (length taken-steps))) (over (signed_bytes (row_list t (cuts_of s) taken-steps)) rows)
  made z = let j = elhavir-replay-judged model s log rows done in j.done (j.told ∙ z)

  refused-number : (Q ≡ 0 → ⊥) → r ≡ replay_number (refused t taken-steps Q)
  refused-number z = let j = elhavir-replay-judged model s log rows done in ap (λ (o : ReplayEntryOutcome). o.answer) (j.leaves Q z j.told)

  stopped-number : Q ≡ 14 → r ≡ bad_row t taken-steps * 2 ^ 32 + 14
  unfolding refused replay_number
  stopped-number e = refused-number (λ z. omega arith) ∙ ap (λ (n : ℕ). replay_number (refused t taken-steps n)) e

  other-number : (Q ≡ 0 → ⊥) → (Q ≡ 14 → ⊥) → r ≡ Q
  unfolding refused replay_number
  other-number z e = refused-number z ∙ ap (λ (b : Bool). replay_number (cond b (Stopped (bad_row t taken-steps)) (Refused Q))) (ne_eqb Q 14 e)

  checked : Q ≡ 0 → Passed model s taken-steps (values_on rows)
  checked z = quiet model s taken-steps (values_on rows) z

  -- done: kind 1, and the number of rows in the field of the steps
  parts-done : Q ≡ 0 → Parts r 1 0 (length taken-steps) 0
  unfolding replay_number
  parts-done z =
      let n = length taken-steps in
      let e : r ≡ 1 * 2 ^ 56 + 0 * 2 ^ 44 + n * 2 ^ 32 + 0 = ap (λ (o : ReplayEntryOutcome). o.answer) (made z) ∙ omega arith in
      subst⁻¹ (λ (x : ℕ). Parts x 1 0 n 0) e (takes-apart 1 0 n 0 (omega arith) (omega (arith, (checked z).short)) (omega arith))

  -- refused: kind 0, the number as the value, and for 14 the row in the field of the steps
  parts-stopped : Q ≡ 14 → Parts r 0 0 (bad_row t taken-steps) 14
  parts-stopped q =
      let k = bad_row t taken-steps in
      let e : r ≡ 0 * 2 ^ 56 + 0 * 2 ^ 44 + k * 2 ^ 32 + 14 = stopped-number q ∙ omega arith in
      subst⁻¹ (λ (x : ℕ). Parts x 0 0 k 14) e (takes-apart 0 0 k 14 (omega arith) (omega (arith, row-few model s log rows q)) (omega arith))

  parts-other : (Q ≡ 0 → ⊥) → (Q ≡ 14 → ⊥) → Parts r 0 0 0 Q
  parts-other z q =
      let e : r ≡ 0 * 2 ^ 56 + 0 * 2 ^ 44 + 0 * 2 ^ 32 + Q = other-number z q ∙ omega arith in
      subst⁻¹ (λ (x : ℕ). Parts x 0 0 0 Q) e (takes-apart 0 0 0 Q (omega arith) (omega arith) (omega (arith, replay-byte model s taken-steps (values_on rows))))

  -- which of them it is
  data Told : Type 0 where
    finished : Q ≡ 0 → Parts r 1 0 (length taken-steps) 0 → Told
    stopped : Q ≡ 14 → Parts r 0 0 (bad_row t taken-steps) 14 → Told
    refused_with : (Q ≡ 14 → ⊥) → Parts r 0 0 0 Q → Told

  told : Told
  told = split (ℕ_discrete Q 0) (ℕ_discrete Q 14)
    where
      split : Dec (Q ≡ 0) → Dec (Q ≡ 14) → Told
      split (yes z) q = finished z (parts-done z)
      split (no z) (yes q) = stopped q (parts-stopped q)
      split (no z) (no q) = refused_with q (parts-other z q)

  quiet-kind : kind r ≡ 1 → Q ≡ 0
  quiet-kind k = go told
    where
      go : Told → Q ≡ 0
      go (finished z p) = z
      go (stopped q p) = absurd (omega (arith, p.kind-is, k))
      go (refused_with q p) = absurd (omega (arith, p.kind-is, k))

  -- kind 0 is a refusal, kind 1 is done
  pub entry-replay-kinds : (kind r ≡ 0) ⊎ (kind r ≡ 1)
  entry-replay-kinds = go told
    where
      go : Told → (kind r ≡ 0) ⊎ (kind r ≡ 1)
      go (finished z p) = inr p.kind-is
      go (stopped q p) = inl p.kind-is
      go (refused_with q p) = inl p.kind-is

  -- a row for each step, and nothing else in the number
  pub entry-replay-each : kind r ≡ 1 → Parts r 1 0 (length taken-steps) 0
  entry-replay-each k = parts-done (quiet-kind k)

  -- any other refusal's number alone
  pub entry-replay-refused : kind r ≡ 0 → (value r ≡ 14 → ⊥) → Parts r 0 0 0 (value r)
  entry-replay-refused k f = go told
    where
      go : Told → Parts r 0 0 0 (value r)
      go (finished z p) = absurd (omega (arith, p.kind-is, k))
      go (stopped q p) = absurd (f p.value-is)
      go (refused_with q p) = subst⁻¹ (Parts r 0 0 0) p.value-is p

  -- 14's row stands in the field of the steps
  pub entry-replay-row : kind r ≡ 0 → value r ≡ 14 → StoppedAt t taken-steps (steps r)
  entry-replay-row k e = go told
    where
      go : Told → StoppedAt t taken-steps (steps r)
      go (finished z p) = absurd (omega (arith, p.kind-is, k))
      go (stopped q p) = subst⁻¹ (StoppedAt t taken-steps) p.steps-is (stopped-at t taken-steps (row-bad model s log rows q))
      go (refused_with q p) = absurd (q (sym p.value-is ∙ e))

  module _ (k : kind r ≡ 1) where
    abbrev zs : List ℤ
    zs = row_list t (cuts_of s) taken-steps

    written : l ≡ over (signed_bytes zs) rows
    written = ap (λ (o : ReplayEntryOutcome). o.rows) (made (quiet-kind k))

    -- value j of row i, which its four bytes give back
    pub entry-replay-value : HasRows t (cuts_of s) taken-steps (signed_on l)
    unfolding signed_bytes twos
    entry-replay-value i j h m =
        let p = checked (quiet-kind k) in
        let n = i * 3 + j in
        let e : get_or zs n (pos 0) ≡ get_or (row_values t (cuts_of s) taken-steps i) j (pos 0) = value-at t (cuts_of s) taken-steps i j h m in
        let b : nat_abs (get_or zs n (pos 0)) ≤ limits.no_way =
        subst⁻¹ (λ (z : ℤ). nat_abs z ≤ limits.no_way) e (said.sheet-rows-small model s taken-steps p.sheets p.fine i j h) in
        let c = twos-low (get_or zs n (pos 0)) (omega (arith, b)) in
        let g : get_or (map twos zs) n 0 ≡ twos (get_or zs n (pos 0)) = get_or-map twos zs n (pos 0) in
        let w : value_on l n ≡ twos (get_or zs n (pos 0)) =
        ap (λ (x : List ℕ). value_on x n) written
        ∙ value-back (map twos zs) rows n (omega (arith, length-map zs twos, rows-length t (cuts_of s) taken-steps)) (omega (arith, g, c))
        ∙ g in
        ap signed w ∙ signed_back (get_or zs n (pos 0)) (omega (arith, b)) ∙ e

    -- what the rows say
    pub entry-replay-right : RowsRight t (cuts_of s) taken-steps (signed_on l)
    entry-replay-right = let p = checked (quiet-kind k) in said.sheet-rows-right model s taken-steps p.sheets p.fine (signed_on l) entry-replay-value

    pub entry-replay-plan : IsPlan t (steps_of taken-steps) → GoalReached t (cuts_of s) taken-steps (signed_on l)
    entry-replay-plan p = entry-replay-right.goal-reached (plan-goal t taken-steps p)

    -- bytes past the last row stay untouched
    pub entry-replay-past-untouched : drop (steps r * 12) l ≡ drop (steps r * 12) rows
    unfolding signed_bytes
    entry-replay-past-untouched =
        past (steps r * 12) (signed_bytes zs) rows written
        (omega (arith, bytes-length (map twos zs), length-map zs twos, rows-length t (cuts_of s) taken-steps, (entry-replay-each k).steps-is))
