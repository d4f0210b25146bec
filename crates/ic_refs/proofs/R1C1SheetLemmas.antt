-- The sheet's name in front of the R1C1 form, and its sheet.
use Rattle.std.proofs.Common.{◌≡◌, ℕ, ◌+◌, List, [], ◌∷◌, ◌++◌, true, false, Option, Some, None, Result, Ok, Err, IfOk, take, drop, refl, sym, subst, ◌∙◌, ap, inl, inr, arith, suc}
use Rattle.std.specs.List.{before_first, after_first, list_any, position_or_len}
use Rattle.std.proofs.lemmas.Bool.{cases_Bool}
use Rattle.ic_laws.specs.Scan.{run_of, past_run}
use Rattle.ic_laws.specs.Position.{is_row, is_column}
use Rattle.ic_refs.specs.declared.error.ReferenceError.{ReferenceError}
use Rattle.ic_refs.specs.declared.error.ReferenceError.TheVariants as errors
use Rattle.ic_refs.specs.declared.reference.CellReferenceIndex.{CellReferenceIndex}
use Rattle.ic_refs.specs.declared.reference.ParsedReference.{ParsedReference}
use Rattle.ic_refs.specs.Formula.{UnlessMemory, ◌>>=◌}
use Rattle.ic_laws.specs.SheetText.{is_bang}
use Rattle.ic_refs.specs.R1C1.{is_no_bang, unquoted_name, refers, ParsesR1C1}
use Rattle.ic_laws.proofs.RunLemmas.{run_before_rest}
use Rattle.ic_refs.proofs.R1C1InsideLemmas.{LiesInOrder, refers_inside}

-- a text with no bang, and one that has one
pub any_none : (text : List ℕ) → past_run is_no_bang text ≡ [] → list_any is_bang text ≡ false
any_none [] e = refl
any_none (c ∷ cs) e =
    elim (cases_Bool (is_bang c)) [
      | inl t ↦ let k = rw t at e in absurd (cc)
      | inr f ↦ let k = rw f at e in rw f (any_none cs k)
    ]

any_some : (text after : List ℕ) (c : ℕ) → past_run is_no_bang text ≡ c ∷ after → list_any is_bang text ≡ true
any_some [] after c e = absurd (cc)
any_some (b ∷ cs) after c e =
    elim (cases_Bool (is_bang b)) [
      | inl t ↦ rw t refl
      | inr f ↦ let k = rw f at e in rw f (any_some cs after c k)
    ]

pub one_more : (k : ℕ) → 1 + k ≡ suc k
one_more k = omega arith

two_more : (k : ℕ) → 1 + k + 1 ≡ suc (k + 1)
two_more k = omega arith

-- what stands before the first bang
pub before_is : (text : List ℕ) → before_first is_bang text ≡ run_of is_no_bang text
before_is [] = refl
before_is (c ∷ cs) =
    elim (cases_Bool (is_bang c)) [
      | inl t ↦ rw t refl
      | inr f ↦ rw f (ap (λ n. take n (c ∷ cs)) (one_more (position_or_len is_bang cs)) ∙ ap (λ v. c ∷ v) (before_is cs))
    ]

-- the rest
pub after_is : (text after : List ℕ) (c : ℕ) → past_run is_no_bang text ≡ c ∷ after → after_first is_bang text ≡ after
after_is [] after c e = absurd (cc)
after_is (b ∷ cs) after c e =
    elim (cases_Bool (is_bang b)) [
      | inl t ↦ let k : b ∷ cs ≡ c ∷ after = rw t at e in rw t (let same : cs ≡ after = cc in same)
      | inr f ↦ let k = rw f at e in rw f (ap (λ n. drop n (b ∷ cs)) (two_more (position_or_len is_bang cs)) ∙ after_is cs after c k)
    ]

pub unquoted_none : (text rest : List ℕ) → rest ≡ past_run is_no_bang text → rest ≡ [] → unquoted_name text ≡ Ok (None, text)
unquoted_none text rest e h = rw (any_none text (sym e ∙ h)) refl

pub unquoted_some : (text rest front after : List ℕ) (c : ℕ) → rest ≡ past_run is_no_bang text → rest ≡ c ∷ after → text ≡ front ++ rest → unquoted_name text ≡ Ok (Some front, after)
unquoted_some text rest front after c e h w =
    rw (any_some text after c (sym e ∙ h))
    (ap (λ n. Ok (Some n, after_first is_bang text)) (before_is text ∙ sym (run_before_rest is_no_bang text front rest e w))
    ∙ ap (λ n. Ok (Some front, n)) (after_is text after c (sym e ∙ h)))

-- The sheet

unless_memory : (P : Result ParsedReference ReferenceError → Type 0) (r : Result ParsedReference ReferenceError) → P r → UnlessMemory r P
unless_memory P (Ok x) h = h
unless_memory P (Err errors.OutOfMemory) h = tt
unless_memory P (Err e) h = h

-- without a name it is that of the cell
pub on_own_sheet : (Answers : List ℕ → Option ℕ → Type 0) (cell : CellReferenceIndex) (split : Result (Option (List ℕ) × List ℕ) ReferenceError) (text : List ℕ) (r : Result ParsedReference ReferenceError) → split ≡ Ok (None, text) → r ≡ refers cell text cell.sheet → UnlessMemory r (ParsesR1C1 Answers cell split)
on_own_sheet Answers cell split text r e h =
    unless_memory (ParsesR1C1 Answers cell split) r (subst (λ s. ParsesR1C1 Answers cell s r) (sym e) (Ok cell.sheet, refl, h))

-- with one it is the sheet that was answered
pub on_sheet : (Answers : List ℕ → Option ℕ → Type 0) (cell : CellReferenceIndex) (name text : List ℕ) (sheet : ℕ) (r : Result ParsedReference ReferenceError) → Answers name (Some sheet) → r ≡ refers cell text sheet → UnlessMemory r (ParsesR1C1 Answers cell (Ok (Some name, text)))
on_sheet Answers cell name text sheet r a h = unless_memory (ParsesR1C1 Answers cell (Ok (Some name, text))) r (Ok sheet, (Some sheet, a, refl), h)

-- What it refers to lies in the sheet, its corners in order.
lies_for : (cell : CellReferenceIndex) (text : List ℕ) (sheet : Result ℕ ReferenceError) (r : Result ParsedReference ReferenceError) → is_row cell.row ≡ true → is_column cell.column ≡ true → r ≡ (sheet >>= refers cell text) → IfOk r LiesInOrder
lies_for cell text (Ok sheet) r row column e = subst (λ r. IfOk r LiesInOrder) (sym e) (refers_inside cell text sheet row column)
lies_for cell text (Err x) r row column e = subst (λ r. IfOk r LiesInOrder) (sym e) tt

lies_parsed : (Answers : List ℕ → Option ℕ → Type 0) (cell : CellReferenceIndex) (split : Result (Option (List ℕ) × List ℕ) ReferenceError) (r : Result ParsedReference ReferenceError) → is_row cell.row ≡ true → is_column cell.column ≡ true → ParsesR1C1 Answers cell split r → IfOk r LiesInOrder
lies_parsed Answers cell (Ok split) r row column p = lies_for cell split.1 p.0 r row column p.2
lies_parsed Answers cell (Err e) r row column p = subst (λ r. IfOk r LiesInOrder) (sym p) tt

pub lies_in_order : (Answers : List ℕ → Option ℕ → Type 0) (cell : CellReferenceIndex) (split : Result (Option (List ℕ) × List ℕ) ReferenceError) (r : Result ParsedReference ReferenceError) → is_row cell.row ≡ true → is_column cell.column ≡ true → UnlessMemory r (ParsesR1C1 Answers cell split) → IfOk r LiesInOrder
lies_in_order Answers cell split (Ok found) row column p = lies_parsed Answers cell split (Ok found) row column p
lies_in_order Answers cell split (Err e) row column p = tt
