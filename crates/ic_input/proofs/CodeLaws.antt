-- The parts of a code that numbers are shown by are told by its text.
use Rattle.std.proofs.Common.{◌≡◌, ℕ, List, [], ◌∷◌, ◌++◌, Bool, true, false, not, ◌==◌, Option, Some, None, codes, refl, sym, ap, subst, ◌∙◌, inl, inr}
use Rattle.std.proofs.lemmas.Bool.{cases_Bool, and_parts, true≢false, eqb-true}
use Rattle.std.specs.List.{list_all}
use Rattle.ic_laws.specs.Scan.{past_run, run_of}
use Rattle.ic_laws.specs.Scene.{past_front}
use Rattle.ic_laws.proofs.RunLemmas.{run_and_rest}
use Rattle.ic_tables.specs.Formats.{may_stand_in_symbol}
use Rattle.ic_input.specs.Code.{CodeParts, IsNumberCode, code_text, digits_code, is_no_hash, is_supported, is_symbol, number_code, past_decimals, past_digits_code, stands_beside, supported}
use Rattle.ic_input.proofs.RunSteps.{all_weaker, can_stand, run_until, symbol_all}
use Rattle.ic_input.specs.Convention.{is_nothing}

-- what is left of a text after a front
front_taken : (front text rest : List ℕ) → past_front front text ≡ Some rest → text ≡ front ++ rest
front_taken [] text rest h = cc
front_taken (c ∷ cs) [] rest h = absurd (cc)
front_taken (c ∷ cs) (d ∷ ds) rest h =
    elim (cases_Bool (c == d)) [
      | inl e ↦
          let same : c ≡ d = eqb-true c d e in
          let more = front_taken cs ds rest (rw e at h) in
          rw (same, more) refl
      | inr e ↦ let no : None ≡ Some rest = rw e at h in absurd (cc)
    ]

-- each part of a code is where its text has it
supported_as : (before after : List ℕ) (decimals : Bool) (c : CodeParts) → supported before decimals after ≡ Some c → (c ≡ record { before = before; after = after; decimals = decimals }) × (is_supported c ≡ true)
supported_as before after decimals c h =
    elim (cases_Bool (stands_beside is_symbol before after)) [
      | inl e ↦
          let some : Some (record { before = before; after = after; decimals = decimals }) ≡ Some c = rw e at h in
          let same : c ≡ record { before = before; after = after; decimals = decimals } = cc in
          (same, rw same e)
      | inr e ↦ let no : None ≡ Some c = rw e at h in absurd (cc)
    ]

-- the text before, the digits and what stands after them are the whole text
after_digits : (text before rest after : List ℕ) (decimals : Option (List ℕ)) (c : CodeParts) → text ≡ before ++ (codes "#,##0" ++ rest) → past_front (codes ".00") rest ≡ decimals → past_decimals before rest decimals ≡ Some c → IsNumberCode text c
after_digits text before rest after (Some end) c e d h =
    let is = supported_as before end true c h in
    let tail = front_taken (codes ".00") rest end d in
    (e ∙ ap (λ r. before ++ (codes "#,##0" ++ r)) tail ∙ sym (ap code_text is.0), is.1)
after_digits text before rest after None c e d h = let is = supported_as before rest false c h in (e ∙ sym (ap code_text is.0), is.1)

after_before : (text before rest : List ℕ) (digits : Option (List ℕ)) (c : CodeParts) → text ≡ before ++ rest → past_front (codes "#,##0") rest ≡ digits → past_digits_code before digits ≡ Some c → IsNumberCode text c
after_before text before rest None c e d h = absurd (cc)
after_before text before rest (Some tail) c e d h =
    after_digits text before tail tail _ c (e ∙ ap (λ r. before ++ r) (front_taken (codes "#,##0") rest tail d)) refl h

-- what the function answers is in the relation
pub code_sound : (text : List ℕ) (c : CodeParts) → number_code text ≡ Some c → IsNumberCode text c
unfolding number_code
code_sound text c h = after_before text (run_of is_no_hash text) (past_run is_no_hash text) _ c (run_and_rest is_no_hash text) refl h

-- before the digits stands no #
no_hash_before : (before after : List ℕ) → stands_beside is_symbol before after ≡ true → list_all is_no_hash before ≡ true
no_hash_before [] after h = refl
no_hash_before (c ∷ cs) after h =
    let both = and_parts (is_nothing after) (is_symbol (c ∷ cs)) h in
    all_weaker may_stand_in_symbol is_no_hash (λ d e. ap not (can_stand d e).hash) (c ∷ cs) (symbol_all (c ∷ cs) both.1)

-- what stands after the digits doesn't begin with the decimals
no_point_after : (before after : List ℕ) → stands_beside is_symbol before after ≡ true → past_front (codes ".00") after ≡ None
no_point_after before [] h = refl
no_point_after (d ∷ ds) (c ∷ cs) h = absurd (true≢false (sym h))
no_point_after [] (c ∷ cs) h =
    elim (cases_Bool (46 == c)) [
      | inr apart ↦ rw apart refl
      | inl is ↦
          let refused : stands_beside is_symbol [] (c ∷ cs) ≡ false = subst (λ d. stands_beside is_symbol [] (d ∷ cs) ≡ false) (eqb-true 46 c is) refl in
          absurd (true≢false (sym h ∙ refused))
    ]

complete_for : (before after : List ℕ) (decimals : Bool) → stands_beside is_symbol before after ≡ true → number_code (before ++ (digits_code decimals ++ after)) ≡ Some (record { before = before; after = after; decimals = decimals })
unfolding number_code
complete_for before after true h =
    let r = run_until is_no_hash before (codes "#,##0.00" ++ after) (no_hash_before before after h) refl in
    rw (r.0, r.1, h) refl
complete_for before after false h =
    let r = run_until is_no_hash before (codes "#,##0" ++ after) (no_hash_before before after h) refl in
    rw (r.0, r.1, no_point_after before after h, h) refl

-- and what is in the relation it answers
pub code_complete : (text : List ℕ) (c : CodeParts) → IsNumberCode text c → number_code text ≡ Some c
code_complete text c h = rw h.0 (complete_for c.before c.after c.decimals h.1)

-- where it answers nothing, no parts are in the relation
pub code_none : (text : List ℕ) → number_code text ≡ None → (c : CodeParts) → ¬ (IsNumberCode text c)
code_none text e c h = let some = code_complete text c h in cc
