-- What an iterator's `all` answers over a range, in the definitions' words.
use Prim.Native.Nat.{ℕ, ◌<◌}
use native.Mathlib.Omega.{arith}
use native.Mathlib.Nat.{zero-add}
use mathlib.Core.Path.{◌≡◌, refl, sym}
use mathlib.Core.Bool.{Bool, true, false}
use mathlib.Core.List.{List}
use denote.Param.Members.{Mut}
use lib.ListN.{length}
use Rattle.std.specs.Prelude.{Option}
use Rattle.std.specs.declared.ops.Range.{Range}
use Rattle.std.specs.Bool.{MatchBool}
use Rattle.std.specs.Fn.{Called}
use Rattle.std.specs.Iterator.{YieldsThen}
use Rattle.std.specs.List.{range_with_len, FoldsTo, AllWithin, HoldsAt}
use Rattle.std.specs.Option.{MatchOption}
use Rattle.std.proofs.iter.Yields.{nat_range_steps}
use Rattle.std.proofs.lemmas.Iterator.{YieldsList-from_range, cases_from_all}
use Rattle.std.proofs.lemmas.List.FromFn.{length-range_with_len, get_or-range_with_len}
use Rattle.task.specs.Loops.{all}
use Rattle.task.proofs.LoopLaws.{all-intro, all-fails}

module _ {F : Type 0} {g : Mut F (ℕ × Unit {0}) Bool} {n : ℕ} {u : Range ℕ} {f : F} where
  -- each number below n passes, or one does not
  pub all-ran : {r : Bool} (p : ℕ → Bool)
      → (xs : List ℕ) × (o : Option ℕ) × (j : F) × YieldsThen nat_range_steps (record { start = 0; end = n }) xs o u × FoldsTo (λ p x q. Called g p (x, tt) true q) f xs j
      × MatchOption o (r ≡ true) (λ x. (r ≡ false) × ((h : F) × Called g j (x, tt) false h))
      → ((x : ℕ) (q : F) → Called g f (x, tt) true q → (q ≡ f) × (p x ≡ true))
      → ((x : ℕ) (q : F) → Called g f (x, tt) false q → p x ≡ false)
      → r ≡ all n p
  all-ran {r} p ran passes fails = by-case r (cases_from_all u f r (λ x. p x ≡ true) (λ x. p x ≡ false) ran (YieldsList-from_range 0 n n refl (omega arith)) passes fails)
    where
      by-case : (b : Bool) → MatchBool b (AllWithin (λ x. p x ≡ true) (range_with_len 0 n) 0 (length (range_with_len 0 n))) ((k : ℕ) × (k < length (range_with_len 0 n)) × HoldsAt (λ x. p x ≡ false) (range_with_len 0 n) k) → b ≡ all n p
      by-case true h = sym (all-intro n p (λ j k. rw (get_or-range_with_len 0 n j 0 k, zero-add) at (h j 0 (omega arith) (rw length-range_with_len k))))
      by-case false h = let k : h.0 < n = rw length-range_with_len at h.1 in sym (all-fails n p h.0 k (rw (get_or-range_with_len 0 n h.0 0 k, zero-add) at (h.2 0)))
