-- Loops over the numbers below n, in the order in which code goes through them, and lists that are written over.
use Rattle.std.specs.Prelude.{Bool, true, false, ◌&&◌, List, [], ◌∷◌, ◌++◌, ℕ, zero, suc, ◌*◌, length, drop}
use Rattle.std.proofs.Math.Option.{Option, none, some}

-- every number below n passes
unfoldable pub all : ℕ → (ℕ → Bool) → Bool
all zero p = true
all (suc n) p = all n p && p n

abbrev pub or_else : {A : Type 0} → Option A → Option A → Option A
or_else none b = b
or_else (some a) b = some a

abbrev pub when : {A : Type 0} → Bool → A → Option A
when true a = some a
when false a = none

-- what is found first at 0, 1, .. below n
unfoldable pub first : {A : Type 0} → ℕ → (ℕ → Option A) → Option A
first zero f = none
first (suc n) f = or_else (first n f) (f n)

-- f 0, f 1, .. below n
unfoldable pub tab : {A : Type 0} → ℕ → (ℕ → A) → List A
tab zero f = []
tab (suc n) f = tab n f ++ (f n ∷ [])

-- f 0 times f 1 and so on, below n
unfoldable pub prod : ℕ → (ℕ → ℕ) → ℕ
prod zero f = 1
prod (suc n) f = prod n f * f n

-- a list whose first places are taken by new entries: places past the last one used stay untouched
unfoldable pub over : {A : Type 0} → List A → List A → List A
over new old = new ++ drop (length new) old
