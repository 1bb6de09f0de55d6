-- What a refusal's number says of it.
use Rattle.std.proofs.lemmas.Result.{err_from_is_err_and}
use Rattle.std.proofs.Common.{IsErrAnd, ℕ, ◌≡◌, ◌<◌, cond, eqb, refl, sym, ap, ◌∙◌, Result, Ok, Err, arith}
use Rattle.fields.specs.declared.refusal.Refusal.{Refusal}
use Rattle.fields.specs.declared.refusal.Refusal.TheVariants.{Incomplete, Form, Counts, Size, Position, Rest, Room, Places, Cut, Model, States, Log}
use Rattle.fields.specs.Refusals.{number, refusal_number, Answered, Done, Refused, told, told_as, told_number}

-- no refusal has the number 0, which is an answer without one
pub number_pos : (r : Refusal) → 0 < number r
number_pos Incomplete = omega arith
number_pos Form = omega arith
number_pos Counts = omega arith
number_pos Size = omega arith
number_pos Position = omega arith
number_pos Rest = omega arith
number_pos Room = omega arith
number_pos Places = omega arith
number_pos Cut = omega arith
number_pos Model = omega arith
number_pos States = omega arith
number_pos Log = omega arith

pub number-ne0 : (r : Refusal) → number r ≡ 0 → ⊥
number-ne0 r e = omega (arith, number_pos r)

-- numbers tell refusals apart
refusal_of : ℕ → Refusal
refusal_of n =
    cond (eqb n 1) Incomplete
    (cond (eqb n 2) Form
    (cond (eqb n 3) Counts
    (cond (eqb n 4) Size
    (cond (eqb n 5) Position
    (cond (eqb n 6) Rest
    (cond (eqb n 7) Room
    (cond (eqb n 8) Places
    (cond (eqb n 9) Cut
    (cond (eqb n 10) Model
    (cond (eqb n 11) States Log))))))))))

of_number : (r : Refusal) → refusal_of (number r) ≡ r
unfolding refusal_of
of_number Incomplete = refl
of_number Form = refl
of_number Counts = refl
of_number Size = refl
of_number Position = refl
of_number Rest = refl
of_number Room = refl
of_number Places = refl
of_number Cut = refl
of_number Model = refl
of_number States = refl
of_number Log = refl

pub same_number : (a b : Refusal) → number a ≡ number b → a ≡ b
same_number a b e = sym (of_number a) ∙ ap refusal_of e ∙ of_number b

-- what a `?` hands on
pub handed_on : {A : Type 0} (r : Result A Refusal) {e : Refusal} → IsErrAnd r (λ x. x ≡ e) → r ≡ Err e
handed_on r h = let p = err_from_is_err_and r h in p.1 ∙ ap Err p.2

pub number-handed : {A : Type 0} (r : Result A Refusal) (e : Refusal) → IsErrAnd r (λ x. x ≡ e) → refusal_number r ≡ number e
number-handed r e h = ap refusal_number (handed_on r h)

module _ {A : Type 0} where
  pub number-told : (r : Result A Refusal) → refusal_number r ≡ told_number (told r)
  number-told (Ok a) = refl
  number-told (Err r) = refl

  pub number-told_as : {B : Type 0} (f : A → B) (r : Result A Refusal) → refusal_number r ≡ told_number (told_as f r)
  number-told_as f (Ok a) = refl
  number-told_as f (Err r) = refl

  answer_of : Answered A → Result A Refusal
  answer_of (Done a) = Ok a
  answer_of (Refused n) = Err (refusal_of n)

  of_told : (r : Result A Refusal) → answer_of (told r) ≡ r
  unfolding answer_of
  of_told (Ok a) = refl
  of_told (Err r) = ap Err (of_number r)

  -- an answer is known by what it is told as
  pub same_told : (a b : Result A Refusal) → told a ≡ told b → a ≡ b
  same_told a b e = sym (of_told a) ∙ ap answer_of e ∙ of_told b
