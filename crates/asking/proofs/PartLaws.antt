-- A loop over the whole parts of n bytes, counted: where its iterator stands after k of them.
use Prim.Native.Nat.{ℕ, ◌+◌, ◌*◌, ◌-◌, ◌/◌, ◌≤◌, ◌<◌}
use native.Mathlib.Omega.{arith}
use native.Mathlib.Decide.{dec_lt}
use native.Mathlib.Nat.{mul-le-mul, le_refl}
use mathlib.Core.Path.{◌≡◌, sym, ap, ap₂, ◌∙◌}
use mathlib.Core.List.{List, ◌++◌}
use lib.ListN.{length, take, drop}
use lib.Seq.{take-append_seam, drop-append_seam}
use Rattle.std.specs.Prelude.{Some, None}
use Rattle.std.proofs.Common.{length-drop, length-append}
use Rattle.std.proofs.lemmas.List.{drop-drop}
use Rattle.std.proofs.lemmas.Nat.{div-mul-add}
use Rattle.std.specs.Iterator.Adapters.{enumerate_source, enumerate_count, enumerate_steps}
use Rattle.std.specs.Slice.Iter.{chunks_exact_rest, chunks_exact_size, chunks_exact_steps}
use Rattle.std.specs.declared.iter.Enumerate.{Enumerate}
use Rattle.std.specs.declared.slice.ChunksExact.{ChunksExact}
use denote.Ref.{Bor}

module _ (n : ℕ) (xs : List ℕ) where
  pub record Stands (s : Enumerate (ChunksExact ℕ)) (k : ℕ) : Type 0 where
    pub count : enumerate_count s ≡ k
    pub size : chunks_exact_size (enumerate_source s) ≡ n
    pub rest : chunks_exact_rest (enumerate_source s) ≡ drop (k * n) xs
    pub within : k * n ≤ length xs

  -- the part that is next, with its number
  pub record Turn (i : ℕ) (part : List ℕ) (t : Enumerate (ChunksExact ℕ)) (k : ℕ) : Type 0 where
    pub here : i ≡ k
    pub is : part ≡ take n (drop (k * n) xs)
    pub long : length part ≡ n
    pub next : Stands t (k + 1)

  module _ {s t : Enumerate (ChunksExact ℕ)} {k : ℕ} (h : Stands s k) where
    pub turn : {i : ℕ} (b : Bor (List ℕ)) → enumerate_steps chunks_exact_steps s (Some (i, b)) t → Turn i b.now t k
    turn b e =
        let r = chunks_exact_rest (enumerate_source t) in
        let q : b.now ++ r ≡ drop (k * n) xs = sym e.0.1.0 ∙ h.rest in
        let l : length b.now ≡ n = e.0.1.1 ∙ h.size in
        let m : length b.now + length r ≡ length xs - k * n = sym (length-append b.now r) ∙ ap length q ∙ length-drop (k * n) xs in
        record {
          here = e.1 ∙ h.count;
          is = sym (take-append_seam b.now r) ∙ ap₂ take l q;
          long = l;
          next = record {
            count = omega (arith, e.2, h.count);
            size = e.0.0 ∙ h.size;
            rest = sym (drop-append_seam b.now r) ∙ ap₂ drop l q ∙ drop-drop n (k * n) xs ∙ ap (λ (i : ℕ). drop i xs) (omega arith);
            within = omega (arith, m, h.within, l);
          };
        }

    pub end : enumerate_steps chunks_exact_steps s None t → k ≡ length xs / n
    end e =
        let l : length xs - k * n < n = omega (arith, e.0.1.0, h.size, ap length h.rest, length-drop (k * n) xs) in
        sym (div-mul-add k n (length xs - k * n) l) ∙ ap (λ (m : ℕ). m / n) (omega (arith, h.within))

-- a part within the bytes is one of the whole ones
pub below : (n k m : ℕ) → 0 < n → (k + 1) * n ≤ m → k < m / n
below n k m pos h = split (dec_lt k (m / n))
  where
    split : Dec (k < m / n) → k < m / n
    split (yes l) = l
    split (no l) = let f : m / n * n ≤ k * n = mul-le-mul (omega arith) (le_refl n) in absurd (omega (arith, f))
