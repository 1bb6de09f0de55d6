-- There are at most as many blocks as states: each block holds a state, and no state is in two.
use mathlib.Core.Path.{◌≡◌, refl, sym, ap, ap₂, ◌∙◌}
use mathlib.Core.Logic.{⊎_elim, ◌≢◌}
use mathlib.Core.Bool.{Bool, true, false, ◌&&◌, not}
use mathlib.Core.List.{List, [], ◌∷◌, ◌++◌}
use Prim.Native.Nat.{ℕ, zero, suc, ◌+◌, ◌*◌, ◌≤◌, ◌<◌, zero-le, suc-le-suc}
use native.Mathlib.Nat.{not-suc-le-zero, le_of_suc-le-suc, mul-pos, add-mul, mul-add}
use native.Mathlib.Omega.{arith}
use lib.ListN.{length, get_or, set}
use borrow.Author.Tests.{lt-ltb}
use Rattle.task.specs.declared.Column.{Column}
use Rattle.task.specs.Loops.{prod}
use Rattle.task.specs.Task.{Task, Accepted, column, position, block, column_count, size_of, state_count}
use Rattle.task.proofs.LoopLaws.{below_suc, and_left, and_right}
use Rattle.blocks.specs.declared.Cut.{Cut}
use Rattle.blocks.specs.Blocks.{PositionSet, Sets, Blocks, holds, common, without, set_at, block_at, cut_block, whole, cuts_ok, cut_ok, cut_all, accepted, blocks_of}
use Rattle.blocks.proofs.SetLaws.{holds-common, holds-without, holds-every, some-held}
use Rattle.blocks.proofs.LeadLaws.{Shaped}
use Rattle.blocks.proofs.PartLaws.{Parts, CutFits, fits, cut_parts, old_block, old_set, rest_block, new_block, long, cut-is, with-same, with-other}
use Rattle.blocks.proofs.CutLaws.{whole_parts, whole_set, accepted-parts}

abbrev one : Bool → ℕ
one true = 1
one false = 0

-- how many below n pass
count : ℕ → (ℕ → Bool) → ℕ
count zero p = 0
count (suc n) p = count n p + one (p n)

one_split : (a w : Bool) → one a ≡ one (a && not w) + one (a && w)
one_split true true = refl
one_split true false = refl
one_split false w = refl

count-split : (n : ℕ) (p w : ℕ → Bool) → count n p ≡ count n (λ i. p i && not (w i)) + count n (λ i. p i && w i)
unfolding count
count-split zero p w = refl
count-split (suc n) p w = omega (arith, count-split n p w, one_split (p n) (w n))

count-ext : (n : ℕ) (p q : ℕ → Bool) → ((i : ℕ) → i < n → p i ≡ q i) → count n p ≡ count n q
unfolding count
count-ext zero p q f = refl
count-ext (suc n) p q f = ap₂ (λ (a b : ℕ). a + b) (count-ext n p q (λ i h. f i (omega arith))) (ap one (f n (omega arith)))

count-all : (n : ℕ) (p : ℕ → Bool) → ((i : ℕ) → i < n → p i ≡ true) → count n p ≡ n
unfolding count
count-all zero p f = refl
count-all (suc n) p f = let e : one (p n) ≡ 1 = ap one (f n (omega arith)) in omega (arith, count-all n p (λ i h. f i (omega arith)))

count-some : (n : ℕ) (p : ℕ → Bool) (i : ℕ) → i < n → p i ≡ true → 1 ≤ count n p
unfolding count
count-some zero p i h t = absurd (not-suc-le-zero h)
count-some (suc n) p i h t =
    ⊎_elim (λ (e : i ≡ n). let k : one (p n) ≡ 1 = ap one (ap p (sym e) ∙ t) in omega arith) (λ (k : i < n). omega (arith, count-some n p i k t)) (below_suc h)

prod-ext : (n : ℕ) (f g : ℕ → ℕ) → ((i : ℕ) → i < n → f i ≡ g i) → prod n f ≡ prod n g
unfolding prod
prod-ext zero f g e = refl
prod-ext (suc n) f g e = ap₂ (λ (a b : ℕ). a * b) (prod-ext n f g (λ i h. e i (omega arith))) (e n (omega arith))

prod-split : (n j : ℕ) (f g h : ℕ → ℕ) → j < n → f j ≡ g j + h j → ((i : ℕ) → i < n → i ≢ j → f i ≡ g i) → ((i : ℕ) → i < n → i ≢ j → f i ≡ h i) → prod n f ≡ prod n g + prod n h
unfolding prod
prod-split zero j f g h l e eg eh = absurd (not-suc-le-zero l)
prod-split (suc n) j f g h l e eg eh =
    ⊎_elim
    (λ (q : j ≡ n).
    let pg : prod n f ≡ prod n g = prod-ext n f g (λ i k. eg i (omega arith) (λ z. omega arith)) in
    let ph : prod n f ≡ prod n h = prod-ext n f h (λ i k. eh i (omega arith) (λ z. omega arith)) in
    let e' : f n ≡ g n + h n = rw q at e in
    ap (λ (k : ℕ). prod n f * k) e' ∙ mul-add (prod n f) (g n) (h n) ∙ ap₂ (λ (a b : ℕ). a * g n + b * h n) pg ph)
    (λ (k : j < n).
    let ih = prod-split n j f g h k e (λ i l'. eg i (omega arith)) (λ i l'. eh i (omega arith)) in
    let en : f n ≡ g n = eg n (omega arith) (λ z. omega arith) in
    let hn : f n ≡ h n = eh n (omega arith) (λ z. omega arith) in
    ap (λ (a : ℕ). a * f n) ih ∙ add-mul (prod n g) (prod n h) (f n) ∙ ap₂ (λ (a b : ℕ). prod n g * a + prod n h * b) en hn)
    (below_suc l)

prod-pos : (n : ℕ) (f : ℕ → ℕ) → ((i : ℕ) → i < n → 1 ≤ f i) → 1 ≤ prod n f
unfolding prod
prod-pos zero f h = suc-le-suc zero-le
prod-pos (suc n) f h = mul-pos (prod-pos n f (λ i k. h i (omega arith))) (h n (omega arith))

-- how many positions of a column lie in a set
held : ℕ → PositionSet → ℕ
held size a = count size (λ p. holds a (position p))

module _ (t : Task) where
  -- how many states a block holds, and some blocks together
  weigh : Sets → ℕ
  weigh b = prod (column_count t) (λ j. held (size_of t (column j)) (set_at b (column j)))

  total : Blocks → ℕ
  total [] = 0
  total (b ∷ bs) = weigh b + total bs

  total-append : (bs : Blocks) (b : Sets) → total (bs ++ (b ∷ [])) ≡ total bs + weigh b
  unfolding total
  total-append [] b = omega arith
  total-append (c ∷ bs) b = omega (arith, total-append bs b)

  total-set : (bs : Blocks) (k : ℕ) (b : Sets) → k < length bs → total (set bs k b) + weigh (get_or bs k []) ≡ total bs + weigh b
  unfolding total
  total-set [] k b h = absurd (not-suc-le-zero h)
  total-set (c ∷ bs) zero b h = omega arith
  total-set (c ∷ bs) (suc k) b h = omega (arith, total-set bs k b (le_of_suc-le-suc h))

  weigh-pos : (b : Sets) → Shaped t b → 1 ≤ weigh b
  unfolding weigh held
  weigh-pos b g =
      prod-pos (column_count t) _ (λ j h.
      let r = some-held (set_at b (column j)) (g.full (column j) h) in
      count-some (size_of t (column j)) (λ p. holds (set_at b (column j)) (position p)) r.0.0 (g.inside (column j) h r.0 r.1) r.1)

  total-long : (bs : Blocks) → ((a : ℕ) → a < length bs → 1 ≤ weigh (get_or bs a [])) → length bs ≤ total bs
  unfolding total
  total-long [] f = zero-le
  total-long (b ∷ bs) f = omega (arith, f 0 (suc-le-suc zero-le), total-long bs (λ a h. f (suc a) (suc-le-suc h)))

  weigh-cut : (bs : Blocks) (c : Cut) → Parts t bs → CutFits t bs c → weigh (old_block bs c) ≡ weigh (rest_block bs c) + weigh (new_block bs c)
  unfolding weigh held rest_block new_block old_set
  weigh-cut bs c g f =
      let j : Column = c.column in
      let n : ℕ = size_of t j in
      let b : Sets = old_block bs c in
      let o : PositionSet = old_set bs c in
      let w : PositionSet = c.wanted in
      let l : j.0 < length b = long t bs c g f in
      prod-split (column_count t) j.0 _ _ _ f.there
      (count-split n (λ p. holds o (position p)) (λ p. holds w (position p))
      ∙ ap₂ (λ (x y : ℕ). x + y)
      (count-ext n _ _ (λ p k. sym (ap (λ (s : PositionSet). holds s (position p)) (with-same b j (without o w) l) ∙ holds-without o w (position p))))
      (count-ext n _ _ (λ p k. sym (ap (λ (s : PositionSet). holds s (position p)) (with-same b j (common o w) l) ∙ holds-common o w (position p)))))
      (λ i k e. ap (λ (s : PositionSet). held (size_of t (column i)) s) (sym (with-other b j (column i) (without o w) e)))
      (λ i k e. ap (λ (s : PositionSet). held (size_of t (column i)) s) (sym (with-other b j (column i) (common o w) e)))

  cut-total : (bs : Blocks) (c : Cut) → Parts t bs → CutFits t bs c → total (cut_block bs c) ≡ total bs
  unfolding old_block block_at
  cut-total bs c g f =
      rw cut-is
      (omega (arith, total-append (set bs c.block.0 (rest_block bs c)) (new_block bs c), total-set bs c.block.0 (rest_block bs c) f.made, weigh-cut bs c g f))

  cuts-total : (cs : List Cut) (bs : Blocks) → Parts t bs → cuts_ok t bs cs ≡ true → total (cut_all bs cs) ≡ total bs
  unfolding cuts_ok cut_all
  cuts-total [] bs g h = refl
  cuts-total (c ∷ cs) bs g h =
      let f = fits t bs c (and_left _ (cuts_ok t (cut_block bs c) cs) h) in
      cuts-total cs (cut_block bs c) (cut_parts t bs c g f) (and_right (cut_ok t bs c) _ h) ∙ cut-total bs c g f

  whole-weigh : Accepted t → weigh (whole t) ≡ state_count t
  unfolding weigh held state_count
  whole-weigh v =
      prod-ext (column_count t) _ _ (λ j h.
      count-all (size_of t (column j)) _ (λ p k.
      ap (λ (s : PositionSet). holds s (position p)) (whole_set t v (column j) h) ∙ holds-every (size_of t (column j)) (position p) ∙ lt-ltb p (size_of t (column j)) k))

  -- at most as many blocks as states
  pub few : Accepted t → (cs : List Cut) → accepted t cs ≡ true → length (blocks_of t cs) ≤ state_count t
  unfolding accepted blocks_of total block_at
  few v cs h =
      let g = accepted-parts t v cs h in
      let e = cuts-total cs (whole t ∷ []) (whole_parts t v) h in
      omega (arith, e, whole-weigh v, total-long (blocks_of t cs) (λ a k. weigh-pos (get_or (blocks_of t cs) a []) (g.shaped (block a) k)))
