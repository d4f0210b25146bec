-- What an accepted command means: nothing refuses it.
use Rattle.std.proofs.Common.{◌≡◌, ℕ, List, [], ◌∷◌, length, arith, Bool, false, Option, None, Some, Ok, refl, sym, ap, inl, inr}
use Rattle.std.specs.List.{AllByRecursion, slice_get}
use Rattle.std.proofs.lemmas.Bool.{cases_Bool, ltb-true, not-false}
use Rattle.std.proofs.lemmas.Option.{slice_get_cases}
use Rattle.ic_laws.specs.Command.{Field}
use Rattle.ic_laws.specs.CoreBook.{CoreBook, Sheet}
use Rattle.ic_laws.specs.CoreStep.{Outcome, lacks_sheet, unless_refused}
use Rattle.ic_laws.specs.Refusal.{Refusal, first_refusal}

-- an accepted command leaves what it says
pub record Accepted (refusal : Option Refusal) (book after : CoreBook) : Type 0 where
  pub unrefused : refusal ≡ None
  pub left : after ≡ book

pub accepted : (refusal : Option Refusal) (left after : CoreBook) (said fields : List Field) → unless_refused refusal left said ≡ Ok (after, fields) → Accepted refusal left after
accepted (Some r) left after said fields e = absurd cc
accepted None left after said fields e =
    let both : (left, said) ≡ (after, fields) = ok_same (left, said) (after, fields) e in record { unrefused = refl; left = sym (ap (λ (p : CoreBook × List Field). p.0) both) }
  where
    ok_same : (a b : CoreBook × List Field) → (let o : Outcome = Ok a in o ≡ Ok b) → a ≡ b
    ok_same a b e = cc

-- where nothing refuses, no cause holds
pub none_holds : (causes : List (Bool × Refusal)) → first_refusal causes ≡ None → AllByRecursion (λ (cause : Bool × Refusal). cause.0 ≡ false) causes
none_holds [] e = tt
none_holds (cause ∷ causes) e =
    elim (cases_Bool cause.0) [
      | inl t ↦ absurd (let no : Some cause.1 ≡ None = rw t at e in cc)
      | inr f ↦ (f, none_holds causes (rw f at e))
    ]

-- and where no cause holds, nothing refuses
pub none_refuses : (causes : List (Bool × Refusal)) → AllByRecursion (λ (cause : Bool × Refusal). cause.0 ≡ false) causes → first_refusal causes ≡ None
none_refuses [] h = refl
none_refuses (cause ∷ causes) h = rw h.0 (none_refuses causes h.1)

-- a sheet stands at the index
pub sheet_at : (book : CoreBook) (index : ℕ) → lacks_sheet book index ≡ false → (sheet : Sheet) × (slice_get book.sheets index ≡ Some sheet)
sheet_at book index e =
    let within = ltb-true index (length book.sheets) (not-false _ e) in
    elim (slice_get_cases book.sheets index).1 [
      | inl there ↦ (there.0, there.2)
      | inr none ↦ absurd (omega (arith, within, none.0))
    ]
