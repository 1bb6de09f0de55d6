-- A pass that lowers values, turn by turn, and the passes over all steps.
use mathlib.Core.Path.{◌≡◌, refl, sym, ◌∙◌, ap}
use mathlib.Core.Bool.{Bool, true, false, not, ◌&&◌, false≢true, and-false}
use mathlib.Core.Logic.{◌⊎◌, inl, inr, ⊎_elim}
use mathlib.Core.List.{List}
use Prim.Native.Nat.{ℕ, ◌+◌, ◌-◌, ◌*◌, ◌/◌, ◌%◌, ◌<◌, ◌≤◌, min}
use native.Mathlib.Decide.{dec_lt}
use native.Mathlib.Omega.{arith}
use borrow.Author.Count.{below_more}
use borrow.Author.Tests.{eq-eqb, ne_eqb, lt-ltb, le-ltb}
use lib.Dec.{eqb}
use lib.ListN.{length, get_or, set}
use lib.Seq.{get_or-set_same, get_or-set_other}
use Rattle.task.specs.Sizes.{most_cost}
use Rattle.task.proofs.LoopLaws.{and_left, and_right, and_both, true-or-false}
use Rattle.blocks.specs.Masks.{lands_in, leads_by}
use Rattle.masks.specs.declared.Tables.{Tables}
use Rattle.cutting.specs.declared.Blocks.{Blocks}
use Rattle.arcs.specs.declared.Arcs.{Arcs}
use Rattle.arcs.specs.Arcs.{Arc, fits_in, cost_in}
use Rattle.arcs.specs.Words.{bit_at, in_word, open_in, Opened, told, told_in, word}
use Rattle.arcs.proofs.ArcLaws.{arc-told}
use Rattle.settling.specs.Turns.{weight, Relaxed, Lowered, Settled, Open, Turned}

module _ (f : ℕ → Bool) (k : ℕ) (D : List ℕ) where
  module _ {i : ℕ} {D' : List ℕ} (s : Lowered f k i D D') where
    pub lowered-skip : (f i ≡ true → get_or D' i 0 ≤ k) → Lowered f k (i + 1) D D'
    lowered-skip h =
        record {
          each = below_more _ i s.each (inl (s.rest i (omega arith), (λ e. let r = s.rest i (omega arith) in let v = h e in omega arith)));
          rest = λ a l. s.rest a (omega arith);
        }

    pub lowered-more : (v : ℕ) → i < length D' → f i ≡ true → v ≡ min k (get_or D' i 0) → Lowered f k (i + 1) D (set D' i v)
    lowered-more v l e m =
        let same = get_or-set_same D' i v 0 l in
        let r = s.rest i (omega arith) in
        record {
          each =
              below_more _ i
              (λ a b. rw (get_or-set_other D' i a v 0 (λ q. omega arith)) (s.each a b))
              (elim (dec_lt k (get_or D' i 0)) [
                | yes h ↦ inr (omega arith, omega arith, e)
                | no h ↦ inl (omega arith, (λ t. omega arith))
              ]);
          rest = λ a b. get_or-set_other D' i a v 0 (λ q. omega arith) ∙ s.rest a (omega arith);
        }

    pub lowered-end : {n : ℕ} → i ≡ n → Lowered f k n D D'
    lowered-end e = rw (← e) s

-- a test that fails everywhere
pub lowered-no : (f : ℕ → Bool) (k n : ℕ) (D : List ℕ) → ((a : ℕ) → f a ≡ false) → Lowered f k n D D
lowered-no f k n D h = record { each = λ a l. inl (refl, (λ e. absurd (false≢true (sym (h a) ∙ e)))); rest = λ a l. refl }

pub lowered-same : (f g : ℕ → Bool) (k n : ℕ) (D D' : List ℕ) → ((a : ℕ) → a < n → f a ≡ g a) → Lowered f k n D D' → Lowered g k n D D'
lowered-same f g k n D D' e l =
    record {
      each = λ a h. ⊎_elim (λ v. inl (v.0, (λ t. v.1 (e a h ∙ t)))) (λ v. inr (v.0, v.1, sym (e a h) ∙ v.2)) (l.each a h);
      rest = l.rest;
    }

-- a pass over the open blocks alone, where every other block has no greater value
pub lowered_open : (f g has : ℕ → Bool) (k n m : ℕ) (D D' : List ℕ) → n ≤ m → ((a : ℕ) → a < m → f a ≡ (has a && g a)) → ((a : ℕ) → n ≤ a → has a ≡ false)
    → ((a : ℕ) → a < n → has a ≡ false → get_or D a 0 ≤ k) → Lowered f k m D D' → Lowered g k n D D'
lowered_open f g has k n m D D' h e out low l =
    record {
      each = λ a b. ⊎_elim
          (λ v. inl (v.0, (λ t. ⊎_elim (λ (o : has a ≡ true). v.1 (e a (omega arith) ∙ and_both o t)) (λ (o : has a ≡ false). low a b o) (true-or-false (has a)))))
          (λ v. inr (v.0, v.1, and_right (has a) (g a) (sym (e a (omega arith)) ∙ v.2)))
          (l.each a (omega arith));
      rest = λ a b. elim (dec_lt a m) [
        | yes q ↦ ⊎_elim (λ v. v.0) (λ v. absurd (false≢true (sym (out a b) ∙ and_left (has a) (g a) (sym (e a q) ∙ v.2)))) (l.each a q)
        | no q ↦ l.rest a (omega arith)
      ];
    }

-- ---- the open blocks
pub open_made : (count used : ℕ) (D : List ℕ) (F : List Bool) (b : ℕ) (O : List ℕ) → Opened used (open_in count F) O → Settled count D F b → Open count used D b O
unfolding open_in
open_made count used D F b O o s =
    record {
      has = open_in count F;
      words_of = o;
      outside = λ a h. rw (le-ltb a count h);
      low = λ a h e. s.low a h (not-false (get_or F a false) (sym (ap (λ t. t && not (get_or F a false)) (lt-ltb a count h)) ∙ e));
    }
  where
    not-false : (t : Bool) → not t ≡ false → t ≡ true
    not-false true e = refl
    not-false false e = absurd (false≢true (sym e))

-- ---- a pass with a test that has a part which is the same everywhere
module _ (columns few : ℕ) (narrow lands sets able meets left : List ℕ) (s b k n : ℕ) (D : List ℕ) where
  pub no-landing : fits_in columns lands sets s b ≡ false → Lowered (told_in columns few narrow lands sets able meets left s b) k n D D
  unfolding told_in
  no-landing e = lowered-no _ k n D (λ a. rw e)

  pub lands-there : {D' : List ℕ} → fits_in columns lands sets s b ≡ true → Lowered (told few narrow lands able meets left s) k n D D' → Lowered (told_in columns few narrow lands sets able meets left s b) k n D D'
  unfolding told_in
  lands-there {D'} e = lowered-same _ _ k n D D' (λ a h. rw e)

-- ---- a word of blocks
module _ (w v : ℕ) where
  pub in-word : (i : ℕ) → i < word → in_word w v (w * word + i) ≡ bit_at v i
  unfolding in_word
  in-word i h =
      let q : (w * word + i) / word ≡ w = omega arith in
      let r : (w * word + i) % word ≡ i = omega arith in
      rw (q, r, eq-eqb w w refl)

  out-of-word : (a : ℕ) → (a / word ≡ w → ⊥) → in_word w v a ≡ false
  unfolding in_word
  out-of-word a n = rw (ne_eqb (a / word) w n)

module _ (w v k : ℕ) (D : List ℕ) where
  pub word-start : Lowered (in_word w v) k (w * word) D D
  word-start = record { each = λ a h. inl (refl, (λ t. absurd (false≢true (sym (out-of-word w v a (λ q. omega arith)) ∙ t)))); rest = λ a h. refl }

  pub word_none : (n : ℕ) → v ≡ 0 → Lowered (in_word w v) k n D D
  unfolding in_word bit_at
  word_none n e = lowered-no _ k n D (λ a. rw (e, and-false (eqb (a / word) w)))

  -- a pass over the words before w, and then over w
  pub word_more : (f : ℕ → Bool) (D' D'' : List ℕ) → Lowered f k (w * word) D D'
      → Lowered (in_word w v) k (w * word + word) D' D'' → ((i : ℕ) → i < word → f (w * word + i) ≡ bit_at v i)
      → Lowered f k ((w + 1) * word) D D''
  word_more f D' D'' p l e =
      record {
        each = λ a h. elim (dec_lt a (w * word)) [ yes q ↦ early a q | no q ↦ late a (omega arith) (omega arith) ];
        rest = λ a h. l.rest a (omega arith) ∙ p.rest a (omega arith);
      }
    where
      early : (a : ℕ) → a < w * word → ((get_or D'' a 0 ≡ get_or D a 0) × (f a ≡ true → get_or D a 0 ≤ k)) ⊎ ((get_or D'' a 0 ≡ k) × (k < get_or D a 0) × (f a ≡ true))
      early a q =
          ⊎_elim
          (λ x. ⊎_elim (λ y. inl (x.0 ∙ y.0, y.1)) (λ y. inr (x.0 ∙ y.0, y.1, y.2)) (p.each a q))
          (λ x. absurd (false≢true (sym (out-of-word w v a (λ z. omega arith)) ∙ x.2)))
          (l.each a (omega arith))

      same : (a : ℕ) → w * word ≤ a → a < w * word + word → f a ≡ in_word w v a
      same a h q =
          let z : w * word + (a - w * word) ≡ a = omega arith in
          sym (ap f z) ∙ e (a - w * word) (omega arith) ∙ sym (in-word w v (a - w * word) (omega arith)) ∙ ap (in_word w v) z

      late : (a : ℕ) → w * word ≤ a → a < w * word + word → ((get_or D'' a 0 ≡ get_or D a 0) × (f a ≡ true → get_or D a 0 ≤ k))
          ⊎ ((get_or D'' a 0 ≡ k) × (k < get_or D a 0) × (f a ≡ true))
      late a h q =
          let r = p.rest a h in
          ⊎_elim
          (λ x. inl (x.0 ∙ r, (λ t. let u = x.1 (sym (same a h q) ∙ t) in omega arith)))
          (λ x. inr (x.0, (let u = x.1 in omega arith), same a h q ∙ x.2))
          (l.each a q)

-- the steps below s were tried: as Relaxed, with a test for an arc
pub record Part (n : ℕ) (lead : ℕ → ℕ → Bool) (cost : ℕ → ℕ) (D D' : List ℕ) (b s : ℕ) : Type 0 where
  pub each : (a : ℕ) → a < n → (get_or D' a 0 ≡ get_or D a 0) ⊎ ((x : ℕ) × (x < s) × (lead x a ≡ true) × (get_or D' a 0 ≡ get_or D b 0 + weight cost x) × (get_or D b 0 + weight cost x < get_or D a 0))
  pub tried : (a x : ℕ) → a < n → x < s → lead x a ≡ true → get_or D' a 0 ≤ get_or D b 0 + weight cost x
  pub cheap : (x : ℕ) → x < s → cost x ≤ most_cost
  pub rest : (a : ℕ) → n ≤ a → get_or D' a 0 ≡ get_or D a 0

module _ (n : ℕ) (lead : ℕ → ℕ → Bool) (cost : ℕ → ℕ) (b : ℕ) (D : List ℕ) where
  -- no value is greater than before
  pub part-down : {s : ℕ} {D' : List ℕ} → Part n lead cost D D' b s → (a : ℕ) → a < n → get_or D' a 0 ≤ get_or D a 0
  part-down p a h = ⊎_elim (λ e. omega arith) (λ v. omega arith) (p.each a h)

  module _ {s : ℕ} {D' D'' : List ℕ} (p : Part n lead cost D D' b s) (w : Lowered (lead s) (get_or D b 0 + weight cost s) n D' D'') where
    pub part-more : cost s ≤ most_cost → Part n lead cost D D'' b (s + 1)
    part-more low =
        record {
          each = λ a h.
              ⊎_elim
              (λ k. ⊎_elim (λ e. inl (k.0 ∙ e)) (λ v. inr (v.0, omega arith, v.2, k.0 ∙ v.3, v.4)) (p.each a h))
              (λ k. let d = part-down p a h in inr (s, omega arith, k.2, k.0, omega arith))
              (w.each a h);
          tried = λ a x h l.
              below_more (λ y. lead y a ≡ true → get_or D'' a 0 ≤ get_or D b 0 + weight cost y) s
              (λ y v e. let t = p.tried a y h v e in ⊎_elim (λ k. omega arith) (λ k. omega arith) (w.each a h))
              (λ e. ⊎_elim (λ k. let v = k.1 e in omega arith) (λ k. omega arith) (w.each a h))
              x l;
          cheap = below_more (λ x. cost x ≤ most_cost) s p.cheap low;
          rest = λ a h. w.rest a h ∙ p.rest a h;
        }

module _ (columns n m : ℕ) (needs lands sets : List ℕ) (cost : ℕ → ℕ) (b : ℕ) (D : List ℕ) where
  pub part_end : {s : ℕ} {D' : List ℕ} → b < n → s ≡ m → Part n (λ x a. leads_by columns needs lands sets x a b) cost D D' b s → Relaxed n (Arc columns n m needs lands sets) cost D D' b
  part_end hb e p =
      record {
        each = λ a h.
            ⊎_elim inl
            (λ v. inr (record { s = v.0; leads = record { out = h; by = omega arith; into = hb; leads = v.2 }; now-is = v.3; less = v.4 }))
            (p.each a h);
        tried = λ a s l. let z = l.by in p.tried a s l.out (omega arith) l.leads;
        cheap = λ a s c l. let z = l.by in p.cheap s (omega arith);
        rest = p.rest;
      }

-- step s is tried: a pass over the open blocks gives a value to each of which it leads to the settled block
module _ (t : Tables) (bs : Blocks) (arcs : Arcs) (b s : ℕ) (D D' D'' : List ℕ) where
  pub tried-more : Turned t bs arcs D b → s < t.shape.steps → cost_in t.costs s ≤ most_cost
      → Part bs.count (λ x a. leads_by t.shape.columns t.rows (lands_in t.rows) bs.sets x a b) (cost_in t.costs) D D' b s
      → Lowered (told_in t.shape.columns arcs.few arcs.narrow (lands_in t.rows) bs.sets arcs.able arcs.meets arcs.left s b)
      (get_or D b 0 + weight (cost_in t.costs) s) (arcs.used * word) D' D''
      → Part bs.count (λ x a. leads_by t.shape.columns t.rows (lands_in t.rows) bs.sets x a b) (cost_in t.costs) D D'' b (s + 1)
  tried-more p more low part w =
      let o = p.opened in
      part-more _ _ _ _ _ part
      (lowered_open _ _ o.has _ _ (arcs.used * word) _ _ (omega (arith, p.used))
      (λ a h. arc-told t.shape.columns t.shape.steps arcs.used arcs.few t.rows (lands_in t.rows) bs.sets b
      arcs.able arcs.meets arcs.left arcs.narrow o.has p.able p.met o.words_of p.narrow s a more (omega (arith, h)))
      o.outside
      (λ a h e. let d = part-down _ _ _ _ _ part a h in let u = o.low a h e in omega (arith, d, u))
      w)
      low
