use Rattle.std.proofs.Common.{◌≡◌, ◌∷◌, ◌==◌, ◌||◌, ℕ, List, true, false, None, chars, ap, refl, sym, inl, inr, ◌∙◌, option_and_then}
use Rattle.std.specs.List.{list_all}
use Rattle.std.proofs.lemmas.Bool.{cases_Bool}
use Rattle.std.proofs.lemmas.Bool.Decides.{eqb_tells}
use Rattle.ic_laws.specs.Name.{needs_quotes}
use Rattle.ic_laws.specs.Scan.{is_digit, is_plain, past_run, run_of}
use Rattle.ic_laws.specs.SheetText.{before_bang, sheet_at, written_name}
use Rattle.ic_laws.proofs.tokens.SheetTexts.{dollar_not_plain, no_sheet_at_other, plain_no_quote, plain_read, written_other}
use Rattle.ic_refs.proofs.sheet.find_sheet.Goals as goal

number_quotes : (c : ℕ) (cs : List ℕ) → is_digit c ≡ true → needs_quotes (c ∷ cs) ≡ true
number_quotes c cs digit = elim (cases_Bool (list_all is_plain (c ∷ cs))) [ inl e ↦ rw (e, digit) refl | inr e ↦ rw e refl ]

no_sheet_at_number : (c : ℕ) (cs : List ℕ) → is_digit c ≡ true → is_plain c ≡ true → sheet_at (c ∷ cs) ≡ None
no_sheet_at_number c cs digit plain =
    let run : run_of is_plain (c ∷ cs) ≡ c ∷ run_of is_plain cs = rw plain refl in
    let none : written_name (c ∷ cs) ≡ None = written_other c cs (plain_no_quote c plain) ∙ ap (λ r. plain_read r (past_run is_plain (c ∷ cs))) run ∙ rw (number_quotes c (run_of is_plain cs) digit) refl in
    ap (option_and_then (λ (f : List ℕ × List ℕ). before_bang f.0 f.1)) none

no_sheet_before : (c : ℕ) (cs : List ℕ) → (c ≡ 39 → ⊥) → (c == 36 || is_digit c) ≡ true → sheet_at (c ∷ cs) ≡ None
no_sheet_before c cs no_quote h =
    let quote : (c == 39) ≡ false = elim (eqb_tells c 39) [ inl e ↦ absurd (no_quote e.1) | inr e ↦ e.0 ] in
    elim (cases_Bool (is_plain c)) [
      | inl p ↦ no_sheet_at_number c cs (elim (eqb_tells c 36) [ inl e ↦ absurd (let no : true ≡ false = sym p ∙ ap is_plain e.1 ∙ dollar_not_plain in cc) | inr e ↦ rw e.0 at h ]) p
      | inr p ↦ no_sheet_at_other (c ∷ cs) quote p
    ]

pub returns-then-begins_no_name : goal.returns-then-begins_no_name
returns-then-begins_no_name c =
    sym (ap sheet_at c.in_ok-c.ensures.parts ∙ no_sheet_before c.in_ok-c.c (chars c.in_ok-c.after.now) c.if-c-eq39.false (sym c.begins_no_name.ensures ∙ c.if-begins_no_name.true))
