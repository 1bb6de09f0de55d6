-- What code finds along a log is what 02 says of it: the row that stops it, and the estimates.
use Prim.Native.Nat.{ℕ, zero, suc, ◌+◌, ◌*◌, ◌/◌, ◌≤◌, ◌<◌}
use native.Mathlib.Omega.{arith}
use mathlib.Core.Path.{◌≡◌, refl, sym, ap, ◌∙◌}
use mathlib.Core.Bool.{Bool, true, false, not, ◌&&◌}
use mathlib.Core.List.{List, []}
use mathlib.Core.Option
use mathlib.Core.Option.{Option, none, some}
use lib.Dec.{ltb}
use lib.ListN.{length, get_or}
use borrow.Author.Tests.{ltb-true, not-false}
use Rattle.task.specs.Loops.{or_else, when, first}
use Rattle.task.specs.Sizes.{limits, tenth}
use Rattle.task.specs.Task.{Task, State, Accepted, column, step, column_count, step_count, is_state, start, can_take}
use Rattle.task.proofs.LoopLaws.{and_left, and_right, first-none, first_some, when-some, when-none, first-empty, or-none}
use Rattle.blocks.specs.Blocks.{accepted, blocks_of}
use Rattle.blocks.specs.Masks.{Told, Stands}
use Rattle.blocks.specs.Flat.{cut_at, cuts_in, goes_on, followed}
use Rattle.distances.specs.Distances.{estimate}
use Rattle.settling.specs.Coded.{coded_over}
use Rattle.settling.proofs.CostLaws.{cost-found}
use Rattle.standing.specs.Standing.{takes_by}
use Rattle.standing.proofs.StandLaws.{takes-is, stands-taken, apart-only, twice}
use Rattle.along.specs.Along.{here_after, goes_by, stop_at, stop_row, sends_on, block_by, cost_by}
use Rattle.replay.specs.Replay.{step_at, before, bad_at, bad_row}

and-when : (a : Bool) {b c : Bool} → (a ≡ true → b ≡ c) → (a && b) ≡ (a && c)
and-when true f = f refl
and-when false f = refl

module _ (t : Task) {columns steps : ℕ} {needs lands goals : List ℕ} (wide : column_count t ≡ columns) (long : step_count t ≡ steps) (told : Told t needs lands goals)
    (log here : List ℕ) (begin : Stands t (start t) here) where
  -- a row that code stops at is a bad one, where the state stands before it
  goes-is : (i : ℕ) → Stands t (before t log i) (here_after columns lands log here i)
      → not (goes_by columns steps needs (here_after columns lands log here i) (get_or log i 0)) ≡ bad_at t log i
  unfolding goes_by bad_at step_at
  goes-is i s =
      ap not
      (ap (λ (n : ℕ). ltb (get_or log i 0) n && takes_by columns needs (here_after columns lands log here i) (get_or log i 0)) (sym long)
      ∙ and-when (ltb (get_or log i 0) (step_count t)) (λ h. takes-is t columns 0 needs lands goals [] told wide (before t log i) (here_after columns lands log here i) s (step (get_or log i 0)) (ltb-true _ _ h)))

  -- a step that does not stop it is taken
  next : (i : ℕ) → Stands t (before t log i) (here_after columns lands log here i) → stop_at columns steps needs lands log here i ≡ none
      → Stands t (before t log (suc i)) (here_after columns lands log here (suc i))
  unfolding here_after before stop_at bad_at step_at
  next i s n =
      let g : not (ltb (get_or log i 0) (step_count t) && can_take t (step (get_or log i 0)) (before t log i)) ≡ false = sym (goes-is i s) ∙ when-none _ _ n in
      let k = not-false _ g in
      stands-taken t columns 0 needs lands goals [] told wide (before t log i) (here_after columns lands log here i) s (step (get_or log i 0)) (ltb-true _ _ (and_left (ltb (get_or log i 0) (step_count t)) _ k)) (and_right (ltb (get_or log i 0) (step_count t)) _ k)

  -- as long as nothing stops it, the state stands as the definition says
  stands_at : (i : ℕ) → first i (stop_at columns steps needs lands log here) ≡ none → Stands t (before t log i) (here_after columns lands log here i)
  unfolding first
  stands_at zero h = unfold here_after before in begin
  stands_at (suc i) h = let n = or-none (first i (stop_at columns steps needs lands log here)) _ h in next i (stands_at i n.0) n.1

  same_first : (n : ℕ) → first n (stop_at columns steps needs lands log here) ≡ first n (λ i. when (bad_at t log i) (i + 1))
  unfolding first
  same_first zero = refl
  same_first (suc n) = go (first n (stop_at columns steps needs lands log here)) refl (same_first n)
    where
      go : (o : Option ℕ) → first n (stop_at columns steps needs lands log here) ≡ o → first n (stop_at columns steps needs lands log here) ≡ first n (λ i. when (bad_at t log i) (i + 1))
          → or_else (first n (stop_at columns steps needs lands log here)) (stop_at columns steps needs lands log here n) ≡ or_else (first n (λ i. when (bad_at t log i) (i + 1))) (when (bad_at t log n) (n + 1))
      go (some a) e ih = rw (← ih, e) refl
      go none e ih = rw (← ih, e) (unfold stop_at in ap (λ (b : Bool). when b (n + 1)) (goes-is n (stands_at n e)))

  -- the row that stops code is the first bad one
  pub stop_is : stop_row columns steps needs lands log here ≡ bad_row t log
  unfolding stop_row bad_row
  stop_is = ap (λ (o : Option ℕ). Option.get_or o 0) (same_first (length log))

  -- where there is none, the state stands along the whole log
  pub along : bad_row t log ≡ 0 → (i : ℕ) → i ≤ length log → Stands t (before t log i) (here_after columns lands log here i)
  unfolding stop_row stop_at
  along b i h = stands_at i (first-empty i stop (λ j l. first-none (length log) stop none_found j (omega arith)))
    where
      stop : ℕ → Option ℕ
      stop = stop_at columns steps needs lands log here

      go : (o : Option ℕ) → first (length log) stop ≡ o → Option.get_or o 0 ≡ 0 → o ≡ none
      go none e z = refl
      go (some a) e z =
          let r = first_some (length log) stop e in
          let q = when-some (not (goes_by columns steps needs (here_after columns lands log here r.place) (get_or log r.place 0))) (r.place + 1) r.here in
          absurd (omega (arith, q.1))

      none_found : first (length log) stop ≡ none
      none_found = go (first (length log) stop) refl (stop_is ∙ b)

-- ---- the block of a state that stands here
module _ (t : Task) (cuts : List ℕ) (x : State) (here : List ℕ) (stands : Stands t x here) where
  block-is : (n : ℕ) → ((i : ℕ) → i < n → get_or cuts (i * 3 + 1) 0 < column_count t) → block_by cuts here n ≡ followed cuts x n
  unfolding block_by followed goes_on cut_at sends_on Stands
  block-is zero h = refl
  block-is (suc n) h = rw (block-is n (λ i l. h i (omega arith)), stands (column (get_or cuts (n * 3 + 1) 0)) (h n (omega arith)), apart-only, twice) refl

  -- and its cost in the table is its estimate
  pub cost-is : Accepted t → (count : ℕ) → accepted t (cuts_in count cuts) ≡ true → count < limits.blocks → ((i : ℕ) → i < count → get_or cuts (i * 3 + 1) 0 < column_count t)
      → (old : List ℕ) {dist : List ℕ} → dist ≡ coded_over t (blocks_of t (cuts_in count cuts)) (count + 1) old → is_state t x ≡ true
      → cost_by count cuts dist here ≡ Option.get_or (estimate t (cuts_in count cuts) x) limits.no_way
  unfolding cost_by
  cost-is v count ok few there old {dist} d is = ap (λ (a : ℕ). get_or dist a 0 / tenth) (block-is count there) ∙ cost-found t v cuts count ok few old dist d x is
