-- An answer of the reader is known by what it is told as: what a shape is known by is its two counts.
use Rattle.std.proofs.Common.{ℕ, ◌≡◌, ◌≤◌, ap, subst, Result, Ok, Err}
use Rattle.std.specs.Coded.{×_prop, le_prop}
use Rattle.task.specs.Sizes.{limits}
use Rattle.task.specs.declared.Shape.{Shape}
use Rattle.fields.specs.declared.refusal.Refusal.{Refusal}
use Rattle.fields.specs.Refusals.{Answered, Done, Refused, told_number}
use Rattle.fields.proofs.RefusalLaws.{same_number}
use Rattle.reading.specs.Reading.{Counts, counts, told_counts}

pub same_shape : (a b : Shape) → a.columns ≡ b.columns → a.steps ≡ b.steps → a ≡ b
same_shape a b p q =
    subst (λ (n : ℕ). Same n b.steps) p (subst (λ (m : ℕ). Same a.columns m) q own) b.within
  where
    Same : ℕ → ℕ → Type 0
    Same n m = (h : (n ≤ limits.columns) × (m ≤ limits.steps)) → a ≡ record { columns = n; steps = m; within = h }

    own : Same a.columns a.steps
    own h = ap (λ (w : (a.columns ≤ limits.columns) × (a.steps ≤ limits.steps)). record { columns = a.columns; steps = a.steps; within = w }) (×_prop le_prop le_prop a.within h)

counts_told : Answered Counts → Counts
counts_told (Done c) = c
counts_told (Refused n) = counts 0 0

pub same_read : (r r' : Result Shape Refusal) → told_counts r ≡ told_counts r' → r ≡ r'
unfolding counts_told
same_read (Ok a) (Ok b) e = ap Ok (same_shape a b (ap (λ (t : Answered Counts). (counts_told t).columns) e) (ap (λ (t : Answered Counts). (counts_told t).steps) e))
same_read (Ok a) (Err r) e = cc
same_read (Err r) (Ok b) e = cc
same_read (Err r) (Err r') e = ap Err (same_number r r' (ap told_number e))
