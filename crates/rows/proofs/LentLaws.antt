-- A local array of n numbers is lent as a `&mut [u32]`, comes back, is lent as a `&[u32]`, and comes back as room, in the program logic: for a walk by hand.
use Prim.Native.Nat.{ℕ}
use mathlib.Core.Path.{refl, sym, subst}
use mathlib.Core.List.{List, [], ◌∷◌}
use lib.ListN.{length}
use seplogic.Ra.Ura.{Ura}
use base.Fraction.{full_share}
use mir.Syntax.{Ty, erased, w32, ty_int, ty_array}
use mir.Val.{Val}
use base.Logic.{SProp, ent, sep, ex}
use base.Fml.{Lft, GName, Fml, fsep, fat, feq, fhide, flent}
use types.Logic.{Logic, sem}
use denote.Shadow.{pure_i}
use types.Kit.{‵, later, ◌⊛◌, await, ◌$◌, ◌∵◌, !, qed, by, move, drop, use1, rewrite, split, fsplit, fjoin, fpick, fpack, feq_l, feq_i, updating, now, done}
use types.SemTy.{cells, Arr}
use types.Share.{arr_parts, parts}
use denote.Memory.{cell_at, part_at, mem, shares, part_of}
use denote.Array.{Array, array_val}
use denote.ArrayMemory.{Array-apart, Array-whole}
use denote.Builtin.{u32}
use denote.Slice.{slice_val, MutSlice, ShrSlice, Room, elements_shared, shr_slice_at}
use borrow.Rule.Slice.Shared.{parts-cells}
use denote.Lend.{Held, lends_slice}
use denote.Copied.{uint_Copied, each_lends}
use denote.Lends.{lent_cut}

-- the type of the array
abbrev pub array_ty : ℕ → Ty
array_ty n = ty_array (ty_int w32) n

module _ {M : Type 1} {𝓤 : Ura M} (𝓛 : Logic 𝓤) (n b : ℕ) (κ : Lft) (xs : List ℕ) where
  open 𝓛 use {H, A}

  abbrev ⟦◌⟧ : Fml → SProp 𝓤
  ⟦ P ⟧ = sem 𝓛 P

  -- what a borrower has of k places, and what the lender keeps
  abbrev pub MutOf : ℕ → GName → Fml
  MutOf k γ = (MutSlice erased κ u32).own_val (record { ref_ptr = (b, 0); ghost_name = γ; now = xs }) (slice_val (b, 0) k ∷ [])

  abbrev pub ShrOf : ℕ → Fml
  ShrOf k = (ShrSlice erased κ u32).own_val (record { ref_ptr = (b, 0); now = xs }) (slice_val (b, 0) k ∷ [])

  abbrev pub Elems : ℕ → Fml
  Elems k = (arr_parts (shares u32) k).part full_share xs b 0

  abbrev LentMut : ℕ → SProp 𝓤
  LentMut k = H.⇛ (ex 𝓤 (λ (γ : GName). sep 𝓤 ⟦ MutOf k γ ⟧ (A.lent κ (Held u32 k b 0 γ))))

  abbrev LentShr : ℕ → SProp 𝓤
  LentShr k = H.⇛ (sep 𝓤 ⟦ ShrOf k ⟧ (A.lent κ (Elems k)))

  module _ (room : Room u32 n) where
    pub lend-mut : (v : Val) → ent 𝓤 (sep 𝓤 (H.at full_share (array_ty n) b 0 v) ⟦ (Array u32 n).own_val xs (v ∷ []) ⟧) (LentMut n)
    unfolding part_of
    lend-mut v =
        qed 𝓛 (‵ (fat full_share (array_ty n) b 0 v) ∷ ‵ ((Array u32 n).own_val xs (v ∷ [])) ∷ []) ∵
        use1 𝓛 (‵ (cell_at full_share (array_ty n ∷ []) (v ∷ []) b 0)) (𝓛.laws.at_raw full_share (array_ty n) b 0 v) $ fjoin ! $
        fpack ! (List Val) (λ vs. fsep (cell_at full_share (array_ty n ∷ []) vs b 0) ((Array u32 n).own_val xs vs)) (v ∷ []) $
        use1 𝓛 (‵ (Elems n)) (Array-apart 𝓛 u32 full_share tt n xs b 0) $ fsplit ! $ feq_l ! (λ l.
        rewrite ! 0 (λ (F : Fml). ‵ F) (parts-cells u32 full_share xs b 0) refl $
        by ! (subst (λ (k : ℕ). ent 𝓤 ⟦ cells (mem u32) xs b 0 ⟧ (LentMut k)) l (lends_slice 𝓛 u32 erased κ xs b 0 (subst (Room u32) (sym l) room))))

    -- numbers can be copied, so they are lent with no token of a lifetime
    lends-free : Room u32 (length xs) → ent 𝓤 ⟦ Elems (length xs) ⟧ (LentShr (length xs))
    lends-free g =
        let E : Fml = parts (mem u32) (shares u32) full_share xs b 0 in
        let F : Fml = feq ℕ (length xs) (length xs) in
        qed 𝓛 (‵ (Elems (length xs)) ∷ []) ∵ updating ! $
        use1 𝓛 (later (‵ (fhide (elements_shared u32 xs b 0 κ)) ⊛ (‵ F ⊛ ‵ (flent κ (Elems (length xs))))))
        (lent_cut 𝓛 (Elems (length xs)) E F (elements_shared u32 xs b 0)
        (qed 𝓛 (‵ (Elems (length xs)) ∷ []) {P = sep 𝓤 ⟦ E ⟧ ⟦ F ⟧} (fsplit ! $ move ! (1 ∷ 0 ∷ []) $ done !))
        (qed 𝓛 (‵ E ∷ ‵ F ∷ []) {P = ⟦ Elems (length xs) ⟧} (move ! (1 ∷ 0 ∷ []) $ fjoin ! $ done !))
        (qed 𝓛 (‵ F ∷ []) {P = sep 𝓤 ⟦ F ⟧ ⟦ F ⟧} (feq_l ! (λ e. feq_i ! ℕ (length xs) (length xs) refl $ feq_i ! ℕ (length xs) (length xs) refl $ done !)))
        (each_lends 𝓛 u32 (uint_Copied 𝓛 w32) full_share xs b 0) κ) $
        await ! tt $ split ! $ move ! (1 ∷ []) $ split ! $ drop ! $ move ! (1 ∷ 0 ∷ []) $ now ! $
        pure_i ! (shr_slice_at u32 (record { ref_ptr = (b, 0); now = xs }) (slice_val (b, 0) (length xs) ∷ [])) (tt, (tt, tt)) (refl, g) $ fjoin ! $ done !

    pub lend-shr : ent 𝓤 ⟦ (Arr (mem u32) n).own_at xs b 0 ⟧ (LentShr n)
    lend-shr =
        qed 𝓛 (‵ ((Arr (mem u32) n).own_at xs b 0) ∷ []) ∵ fsplit ! $ feq_l ! (λ l. rewrite ! 0 (λ (F : Fml). ‵ F) (sym (parts-cells u32 full_share xs b 0)) refl $
        feq_i ! ℕ (length xs) (length xs) refl $ fjoin ! $
        by ! (subst (λ (k : ℕ). ent 𝓤 ⟦ Elems (length xs) ⟧ (LentShr k)) l (lends-free (subst (Room u32) (sym l) room))))

  -- the elements are room for the array
  pub elems-room : ent 𝓤 ⟦ Elems n ⟧ (H.room (array_ty n) b 0)
  unfolding part_of
  elems-room =
      qed 𝓛 (‵ (Elems n) ∷ []) ∵ use1 𝓛 (‵ (part_at (Array u32 n) full_share xs b 0)) (Array-whole 𝓛 u32 full_share n xs b 0) $
      fpick ! (λ vs. fsplit ! $ move ! (1 ∷ []) $ fpick ! (λ us. fsplit ! $ fsplit ! $ feq_l ! (λ e. drop ! $ drop ! $
      rewrite ! 0 (λ (ws : List Val). ‵ (cell_at full_share (array_ty n ∷ []) ws b 0)) e refl $
      use1 𝓛 (‵ (fat full_share (array_ty n) b 0 (array_val us))) (𝓛.laws.raw_at full_share (array_ty n) b 0 (array_val us)) $ by ! (𝓛.laws.at_room (array_ty n) b 0 (array_val us)))))
