-- A replay on byte lists is the replay of the first values of the log, its rows put as bytes. They are more than a log may have, or all of them: with more than
-- a log may have 15 is given whatever they are.
use Prim.Native.Nat.{ℕ, min, ◌+◌, ◌*◌, ◌/◌, ◌≤◌, ◌<◌}
use native.Mathlib.Omega.{arith}
use native.Mathlib.Decide.{ℕ_discrete, dec_lt}
use mathlib.Core.Path.{◌≡◌, refl, sym, ap, ◌∙◌, subst}
use mathlib.Core.Logic.{◌⊎◌, inl, inr, ⊎_elim}
use mathlib.Core.Bool.{Bool, true, false, cond}
use mathlib.Core.List.{List, [], ◌∷◌, ◌++◌, map}
use lib.Dec.{eqb, ltb}
use lib.IntN.{ℤ}
use lib.ListN.{length, take, drop, length-append}
use lib.Seq.{take_at}
use borrow.Author.Tests.{eq-eqb, ne_eqb, lt-ltb}
use Rattle.task.specs.Loops.{tab, over}
use Rattle.task.specs.Task.{Task}
use Rattle.task.proofs.LoopLaws.{tab-length}
use Rattle.task.specs.Sizes.{limits}
use Rattle.fields.specs.Judging.{Check, check, refusal, each, ◌then◌}
use Rattle.fields.specs.Places.{puts}
use Rattle.fields.proofs.JudgingLaws.{applies, refusal-append}
use Rattle.sheets.specs.LentTables.{too_few}
use Rattle.sheets.specs.Holding.{task_on}
use Rattle.cut_sheets.specs.CutSheet.{cut_sheet_checks, cuts_of}
use Rattle.values.specs.Values.{bytes_at, value_on, values_on, twos, signed_bytes}
use Rattle.values.proofs.ValueLaws.{signed-over, nothing_put}
use Rattle.std.specs.Prelude.{Err}
use Rattle.replay.specs.declared.ReplayRefusal.{ReplayRefusal}
use Rattle.replay.specs.declared.ReplayRefusal.TheVariants.{Judged, Step}
use Rattle.replay.specs.Replay as replay
use Rattle.replay.specs.Replay.{told_replay, Replayed, Rows, Stopped, Refused, bad_row, row_list, log_checks, replay_checks, row_count, row_named, refused, replay_outcome, replaying, Replays}
use Rattle.replay.proofs.LogLaws.{bad-first}
use Rattle.replay.proofs.RowLaws.{rows-length}
use Rattle.replay_laws.proofs.Refusals.{quiet, stopped-short}
use Rattle.values.proofs.PlacesLaws.{part-long, missing-same}
use Rattle.historian.specs.ReplayEntry.{replay_number, replay_entry_checks, replay_entry_outcome, replay_entry, EntryReplays}
use Rattle.historian.proofs.WholeLaws.{whole-places, CanPut}

-- ---- what a log comes to
bad-row-within : (t : Task) (log : List ℕ) → bad_row t log ≤ length log
bad-row-within t log = split (ℕ_discrete (bad_row t log) 0)
  where
    split : Dec (bad_row t log ≡ 0) → bad_row t log ≤ length log
    split (yes z) = omega (arith, z)
    split (no z) = let f = bad-first t log z in omega (arith, f.counted, f.there)

-- a log that is too long gets 15 wherever the sheets are good, and neither its rows nor the places are looked at
too_long : (t : Task) (log : List ℕ) (cs : List Check) → limits.log < length log → 15 ≡ refusal (log_checks t log ++ cs)
unfolding log_checks
too_long t log cs h = applies 15 (ltb limits.log (length log)) _ (lt-ltb limits.log (length log) h) (λ z. omega arith)

-- a refusal has no rows, and names one of the log
pub no-count : (r : ReplayRefusal) → row_count (told_replay (Err r)) ≡ 0
unfolding row_count
no-count (Judged r) = refl
no-count (Step row) = refl

module _ (t : Task) (log : List ℕ) (n : ℕ) where
  no_rows : row_count (refused t log n) ≡ 0
  unfolding refused row_count
  no_rows = split (eqb n 14)
    where
      split : (b : Bool) → row_count (cond b (Stopped (bad_row t log)) (Refused n)) ≡ 0
      split true = refl
      split false = refl

  names-row : row_named (refused t log n) ≤ length log
  unfolding refused row_named
  names-row = split (eqb n 14)
    where
      split : (b : Bool) → row_named (cond b (Stopped (bad_row t log)) (Refused n)) ≤ length log
      split true = bad-row-within t log
      split false = omega arith

-- ---- what a replay leaves
module _ (model s log : List ℕ) (list : List ℤ) where
  abbrev N : ℕ
  N = refusal (replay_checks model s log list)

  abbrev figures : List ℤ
  figures = row_list (task_on model) (cuts_of s) log

  room_for : N ≡ 0 → length log * 3 ≤ length list
  room_for z = (quiet model s log list z).places

  module _ {a : Replayed} {list' : List ℤ} (e : Replays model s log list a list') where
    made : N ≡ 0 → replay_outcome a list' ≡ replay_outcome (Rows (length log)) (over figures list)
    unfolding replaying
    made z = e ∙ simp (eq-eqb N 0 z)

    not_made : (N ≡ 0 → ⊥) → replay_outcome a list' ≡ replay_outcome (refused (task_on model) log N) list
    unfolding replaying
    not_made z = e ∙ simp (ne_eqb N 0 z)

    -- what the code that goes on has to know
    record Known : Type 0 where
      fits : row_count a * 3 ≤ length list
      within : row_count a * 3 ≤ length list'
      named : row_named a ≤ length log

    known : Known
    unfolding row_count row_named over
    known = split (ℕ_discrete N 0)
      where
        split : Dec (N ≡ 0) → Known
        split (yes z) =
            let m = ap (λ (o : replay.ReplayOutcome). o.answer) (made z) in
            let c : row_count a ≡ length log = ap row_count m in
            let d : row_named a ≡ 0 = ap row_named m in
            let w = ap (λ (o : replay.ReplayOutcome). length o.rows) (made z) in
            record {
              fits = omega (arith, c, room_for z);
              within = omega (arith, c, w, length-append figures (drop (length figures) list), rows-length (task_on model) (cuts_of s) log);
              named = omega (arith, d);
            }
        split (no z) =
            let m = ap (λ (o : replay.ReplayOutcome). o.answer) (not_made z) in
            let c : row_count a ≡ 0 = ap row_count m ∙ no_rows (task_on model) log N in
            record { fits = omega (arith, c); within = omega (arith, c); named = subst (λ (x : Replayed). row_named x ≤ length log) (sym m) (names-row (task_on model) log N) }

-- ---- n values of the log are got: all of them, or one more than a log may have
module _ (model s log : List ℕ) (n : ℕ) (enough : n ≡ min (length log / 4) (limits.log + 1)) where
  abbrev t : Task
  t = task_on model

  abbrev all : List ℕ
  all = values_on log

  abbrev got : List ℕ
  got = tab n (value_on log)

  -- they are the whole log, or both are too long
  record Whole : Type 0 where
    same : got ≡ all
    few : length all ≤ limits.log

  record Long : Type 0 where
    got-long : limits.log < length got
    all-long : limits.log < length all

  whole-or-long : Whole ⊎ Long
  unfolding values_on
  whole-or-long = split (dec_lt limits.log (length log / 4))
    where
      there : length (tab (length log / 4) (value_on log)) ≡ length log / 4
      there = tab-length (length log / 4) (value_on log)

      split : Dec (limits.log < length log / 4) → Whole ⊎ Long
      split (yes h) =
          inr (record { got-long = omega (arith, tab-length n (value_on log)); all-long = omega (arith, there) })
      split (no h) =
          let e : n ≡ length log / 4 = omega (arith) in
          inl (record { same = ap (λ (k : ℕ). tab k (value_on log)) e; few = omega (arith, there) })

  -- ---- 8 is judged on whole places
  module _ (rows : List ℕ) (list : List ℤ) (lent : length list ≡ min (length rows / 12) limits.log * 3) where
    abbrev M : ℕ
    M = refusal (replay_entry_checks model s log rows)

    abbrev TailSame : Type 0
    TailSame = refusal (log_checks t all ++ (too_few (length all * 3) (values_on rows) ∷ [])) ≡ refusal (log_checks t got ++ (too_few (length got * 3) list ∷ []))

    tail-same : TailSame
    tail-same = ⊎_elim whole long whole-or-long
      where
        whole : Whole → TailSame
        whole w =
            ap (λ (b : Bool). refusal (log_checks t all ++ (check 8 b ∷ [])))
            (missing-same (length rows / 12) limits.log (length all) (length (values_on rows)) (length list) w.few (whole-places rows) lent)
            ∙ ap (λ (l : List ℕ). refusal (log_checks t l ++ (too_few (length l * 3) list ∷ []))) (sym w.same)

        long : Long → TailSame
        long w = sym (too_long t all _ w.all-long) ∙ too_long t got _ w.got-long

    checks-same : M ≡ N model s got list
    unfolding replay_checks
    checks-same =
        refusal-append (cut_sheet_checks model s) _ ∙ ap (λ (x : ℕ). refusal (cut_sheet_checks model s) then x) tail-same ∙ sym (refusal-append (cut_sheet_checks model s) _)

    -- a replay that is done had the whole log, and a refusal tells the same of it
    done-whole : N model s got list ≡ 0 → got ≡ all
    done-whole z =
        ⊎_elim (λ (w : Whole). w.same) (λ (w : Long). absurd (omega (arith, w.got-long, (quiet model s got list z).short))) whole-or-long

    refused-same : refused t got (N model s got list) ≡ refused t all (N model s got list)
    unfolding refused
    refused-same =
        ⊎_elim (λ (w : Whole). ap (λ (l : List ℕ). refused t l (N model s got list)) w.same)
        (λ (w : Long). simp (ne_eqb (N model s got list) 14 (λ z. omega (arith, w.got-long, stopped-short model s got list z)))) whole-or-long

    module _ {a : Replayed} {list' : List ℤ} (e : Replays model s got list a list') where
      -- the entry's outcome
      told : (ys : List ℤ) {r : ℕ} {rows' : List ℕ} → r ≡ replay_number a → rows' ≡ puts 0 (each (row_count a * 3) (bytes_at (map twos (list' ++ ys)))) rows → EntryReplays model s log rows r rows'
      unfolding replay_entry row_count
      told ys {r} {rows'} p q = split (ℕ_discrete (N model s got list) 0)
        where
          split : Dec (N model s got list ≡ 0) → EntryReplays model s log rows r rows'
          split (yes z) =
              let m = ap (λ (o : replay.ReplayOutcome). o.answer) (made model s got list e z) in
              let k : row_count a * 3 ≡ length (figures model s got list) = ap (λ (x : Replayed). row_count x * 3) m ∙ sym (rows-length t (cuts_of s) got) in
              let b : row_count a * 3 * 4 ≤ length rows = omega (arith, (known model s got list e).fits) in
              let y = q ∙ signed-over (figures model s got list) list ys rows (row_count a * 3) (ap (λ (o : replay.ReplayOutcome). o.rows) (made model s got list e z)) k b in
              let x = p ∙ ap replay_number m in
              simp (eq-eqb M 0 (checks-same ∙ z))
              (rw (x, y) (ap (λ (l : List ℕ). replay_entry_outcome (replay_number (Rows (length l))) (over (signed_bytes (row_list t (cuts_of s) l)) rows)) (done-whole z)))
          split (no z) =
              let m = ap (λ (o : replay.ReplayOutcome). o.answer) (not_made model s got list e z) in
              let c : row_count a ≡ 0 = ap row_count m ∙ no_rows t got (N model s got list) in
              let y : rows' ≡ rows = q ∙ ap (λ (k : ℕ). puts 0 (each (k * 3) (bytes_at (map twos (list' ++ ys)))) rows) c ∙ nothing_put (map twos (list' ++ ys)) rows in
              let x = p ∙ ap replay_number (m ∙ refused-same) in
              simp (ne_eqb M 0 (λ v. z (sym checks-same ∙ v))) (rw (x, y) (ap (λ (k : ℕ). replay_entry_outcome (replay_number (refused t all k)) rows) (sym checks-same)))

-- ---- the same with the first values of two lists to work in
module _ (log steps rows : List ℕ) (list : List ℤ) {n m : ℕ} (ls : length steps ≡ limits.log + 1) (ll : length list ≡ limits.log * 3)
    (p : n ≡ min (length log / 4) (limits.log + 1)) (q : m ≡ min (length rows / 12) limits.log) {steps' : List ℕ} (got-is : steps' ≡ over (tab n (value_on log)) steps) where
  front : take n steps' ≡ tab n (value_on log)
  unfolding over
  front = ap (take n) got-is ∙ take_at (tab n (value_on log)) _ n (tab-length n (value_on log))

  lent : length (take (m * 3) list) ≡ min (length rows / 12) limits.log * 3
  lent = part-long (length rows / 12) limits.log list ll q

  module _ (model s : List ℕ) {a : Replayed} {list' : List ℤ} (e : Replays model s (take n steps') (take (m * 3) list) a list') where
    replays : Replays model s (tab n (value_on log)) (take (m * 3) list) a list'
    replays = subst (λ (l : List ℕ). Replays model s l (take (m * 3) list) a list') front e

    facts : Known model s (tab n (value_on log)) (take (m * 3) list) replays
    facts = known model s (tab n (value_on log)) (take (m * 3) list) replays

    pub rows_few : row_count a ≤ limits.log
    rows_few = omega (arith, facts.fits, lent)

    pub row-few : row_named a ≤ limits.log + 1
    row-few = omega (arith, facts.named, tab-length n (value_on log))

    pub rows-go : {k : ℕ} → k ≡ row_count a * 3 → CanPut k (list' ++ drop (m * 3) list) rows
    rows-go z = record { room = omega (arith, facts.fits, lent); given = omega (arith, facts.within, length-append list' (drop (m * 3) list)) }

    pub replayed-in : {k r : ℕ} {rows' : List ℕ} → k ≡ row_count a * 3 → r ≡ replay_number a
        → rows' ≡ puts 0 (each k (bytes_at (map twos (list' ++ drop (m * 3) list)))) rows → EntryReplays model s log rows r rows'
    replayed-in z x y =
        told model s log n p rows (take (m * 3) list) lent replays (drop (m * 3) list) x
        (y ∙ ap (λ (k : ℕ). puts 0 (each k (bytes_at (map twos (list' ++ drop (m * 3) list)))) rows) z)

    -- a refusal puts nothing
    pub refused-in : {r : ℕ} → row_count a ≡ 0 → r ≡ replay_number a → EntryReplays model s log rows r rows
    refused-in z x = replayed-in (ap (λ (k : ℕ). k * 3) (sym z)) x (sym (nothing_put (map twos (list' ++ drop (m * 3) list)) rows))
