-- What a whole text refers to in the A1 form: what is answered is spelled so and lies in the sheet, and what is spelled
-- is answered.
use Rattle.std.proofs.Common.{◌≡◌, ◌⊎◌, ℕ, ℤ, pos, List, [], ◌∷◌, ◌++◌, true, false, Option, Some, None, Result, Ok, Err, IfOk, reverse, refl, sym, subst, ◌∙◌, ap, inl, inr, leb}
use Rattle.std.specs.List.{list_all}
use Rattle.std.proofs.lemmas.Bool.{and_from, and_parts, cases_Bool, le-leb}
use Rattle.std.proofs.lemmas.List.Folds.{list_all-append}
use Rattle.std.proofs.lemmas.List.{append-nil, reverse-append, reverse-reverse}
use Rattle.ic_laws.specs.Position.{is_column, is_inside, is_part_inside, is_row, place_at}
use Rattle.ic_laws.specs.Scan.{first_is, is_blank, past_run, run_of}
use Rattle.ic_laws.proofs.RunLemmas.{run_and_rest}
use Rattle.ic_laws.specs.declared.reference.Position.{Position}
use Rattle.ic_laws.specs.declared.reference.RefPart.{RefPart}
use Rattle.ic_laws.specs.declared.reference.Place.{Place}
use Rattle.ic_laws.specs.declared.reference.Place.TheVariants as places
use Rattle.ic_laws.specs.declared.reference.RefToken.{RefToken}
use Rattle.ic_refs.specs.declared.error.ReferenceError.{ReferenceError}
use Rattle.ic_refs.specs.declared.error.ReferenceError.TheVariants as errors
use Rattle.ic_refs.specs.declared.reference.ParsedReference.{ParsedReference}
use Rattle.ic_refs.specs.A1.{SpellsCell, SpellsColumn, SpellsPlace, SpellsRow, a1_place_at}
use Rattle.ic_refs.specs.Formula.{IsSheetOf, ParsesFormula, UnlessMemory, found_or, formula_token, not_a_reference, place_on, trimmed, whole_of}
use Rattle.ic_refs.specs.FormulaForm.{IsTrimmedOf, SpellsFormula, TellsFormula}
use Rattle.ic_refs.specs.Longest.{FindsLongest, IsLongest}
use Rattle.ic_refs.specs.Referred.{LiesInSheet}
use Rattle.ic_laws.specs.SheetText.{SpellsSheet, sheet_at}
use Rattle.ic_refs.specs.Sheet.{SpellsReference, reference_at}
use Rattle.ic_refs.proofs.A1ReferenceLemmas.{finds_a1_reference}
use Rattle.ic_refs.proofs.A1NumberLemmas.{column_as_number, row_as_number}
use Rattle.ic_refs.proofs.A1PlaceLemmas.{place_at-exact}
use Rattle.ic_refs.proofs.MarkLemmas.{place_is_text, place_no_sheet}
use Rattle.ic_refs.proofs.ReferenceLemmas.{read_with_sheet}
use Rattle.ic_laws.proofs.tokens.Characters.{past_run_all}
use Rattle.ic_laws.proofs.tokens.SheetTexts.{sheet_complete}
use Rattle.ic_refs.proofs.FormulaTrimLemmas.{blanks_reverse}
use Rattle.ic_laws.proofs.tokens.Lexing.{all_past as past_all}

-- Blanks at both ends

run_blank : (text : List ℕ) → list_all is_blank (run_of is_blank text) ≡ true
run_blank [] = refl
run_blank (c ∷ cs) =
    elim (cases_Bool (is_blank c)) [
      | inl t ↦ rw t (and_from (is_blank c) (list_all is_blank (run_of is_blank cs)) t (run_blank cs))
      | inr f ↦ rw f refl
    ]

past_begins : (text : List ℕ) → first_is is_blank (past_run is_blank text) ≡ false
past_begins [] = refl
past_begins (c ∷ cs) =
    elim (cases_Bool (is_blank c)) [
      | inl t ↦ rw t (past_begins cs)
      | inr f ↦ rw f f
    ]

-- the first of a front is the first of all
front_first : (front rest : List ℕ) → first_is is_blank (front ++ rest) ≡ false → first_is is_blank front ≡ false
front_first [] rest h = refl
front_first (c ∷ cs) rest h = h

trimmed_is : (text : List ℕ) → IsTrimmedOf text (trimmed text)
trimmed_is text =
    let left = past_run is_blank text in
    let after = reverse (run_of is_blank (reverse left)) in
    let back : left ≡ trimmed text ++ after =
    sym (reverse-reverse left) ∙ ap reverse (run_and_rest is_blank (reverse left)) ∙ reverse-append (run_of is_blank (reverse left)) (past_run is_blank (reverse left)) in
    record {
      before = run_of is_blank text;
      after = after;
      whole = run_and_rest is_blank text ∙ ap (λ t. run_of is_blank text ++ t) back;
      blank_before = run_blank text;
      blank_after = blanks_reverse (run_of is_blank (reverse left)) (run_blank (reverse left));
      begins = front_first (trimmed text) after (sym (ap (first_is is_blank) back) ∙ past_begins text);
      ends = ap (first_is is_blank) (reverse-reverse (past_run is_blank (reverse left))) ∙ past_begins (reverse left);
    }

-- blanks alone leave nothing
trimmed_core : (before core after : List ℕ) → list_all is_blank before ≡ true → list_all is_blank after ≡ true → first_is is_blank core ≡ false → first_is is_blank (reverse core) ≡ false
    → trimmed (before ++ (core ++ after)) ≡ core
trimmed_core before [] after b a f e =
    let none : past_run is_blank (before ++ after) ≡ [] = past_all (before ++ after) (list_all-append is_blank before after ∙ and_from (list_all is_blank before) (list_all is_blank after) b a) in
    ap (λ t. reverse (past_run is_blank (reverse t))) none
trimmed_core before (c ∷ cs) after b a f e =
    let core = c ∷ cs in
    let left : past_run is_blank (before ++ (core ++ after)) ≡ core ++ after = past_run_all is_blank before (core ++ after) b f in
    ap (λ t. reverse (past_run is_blank (reverse t))) left
    ∙ ap (λ t. reverse (past_run is_blank t)) (reverse-append core after)
    ∙ ap reverse (past_run_all is_blank (reverse after) (reverse core) (blanks_reverse after a) e)
    ∙ reverse-reverse core

trimmed_only : (text core : List ℕ) → IsTrimmedOf text core → trimmed text ≡ core
trimmed_only text core t = ap trimmed t.whole ∙ trimmed_core t.before core t.after t.blank_before t.blank_after t.begins t.ends

-- Whole references

pub whole_some : {T : Type 0} (o : Option (T × List ℕ)) (value : T) → whole_of o ≡ Some value → o ≡ Some (value, [])
whole_some None value e = absurd (cc)
whole_some (Some (x, [])) value e = let same : x ≡ value = cc in ap (λ x. Some (x, [])) same
whole_some (Some (x, c ∷ rest)) value e = absurd (cc)

abbrev read_a1 : List ℕ → Option (RefToken × List ℕ)
read_a1 text = reference_at (a1_place_at (pos 0) (pos 0)) text

abbrev SpellsA1Text : List ℕ → RefToken → Type 0
SpellsA1Text text token = SpellsReference (SpellsPlace (pos 0) (pos 0)) text token

whole_sound : (text : List ℕ) (token : RefToken) → whole_of (read_a1 text) ≡ Some token → SpellsA1Text text token
whole_sound text token e =
    let l : IsLongest (SpellsReference (SpellsPlace (pos 0) (pos 0))) text token [] =
    subst (FindsLongest (SpellsReference (SpellsPlace (pos 0) (pos 0))) text) (whole_some (read_a1 text) token e) (finds_a1_reference (pos 0) (pos 0) text) in
    subst (λ t. SpellsA1Text t token) (sym (l.whole ∙ append-nil l.front)) l.spelled

place_whole : (text : List ℕ) (place : Place) → SpellsPlace (pos 0) (pos 0) text place → a1_place_at (pos 0) (pos 0) text ≡ Some (place, [])
place_whole text place s =
    ap (a1_place_at (pos 0) (pos 0)) (sym (append-nil text)) ∙ place_at-exact (pos 0) (pos 0) text [] place s (record { no_letter = refl; no_digit = refl; no_colon = refl })

read_bare : (text : List ℕ) (place : Place) → sheet_at text ≡ None → a1_place_at (pos 0) (pos 0) text ≡ Some (place, []) → read_a1 text ≡ Some (record { sheet = None; place = place }, [])
read_bare text place n h = rw (n, h) refl

whole_complete_by : (text sheet_text place_text : List ℕ) (sheet : Option (List ℕ)) (place : Place) → text ≡ sheet_text ++ place_text → SpellsSheet sheet_text sheet → SpellsPlace (pos 0) (pos 0) place_text place
    → read_a1 text ≡ Some (record { sheet = sheet; place = place }, [])
whole_complete_by text sheet_text place_text None place w s p =
    let bare : text ≡ place_text = w ∙ ap (λ t. t ++ place_text) s in
    let none : sheet_at text ≡ None = ap sheet_at (bare ∙ sym (append-nil place_text)) ∙ place_no_sheet place_text [] (place_is_text (pos 0) (pos 0) place_text place p) refl in
    read_bare text place none (ap (a1_place_at (pos 0) (pos 0)) bare ∙ place_whole place_text place p)
whole_complete_by text sheet_text place_text (Some name) place w s p =
    read_with_sheet (a1_place_at (pos 0) (pos 0)) text name place_text [] place (ap sheet_at w ∙ sheet_complete sheet_text name place_text s) (place_whole place_text place p)

whole_complete : (text : List ℕ) (token : RefToken) → SpellsA1Text text token → whole_of (read_a1 text) ≡ Some token
whole_complete text token s = ap whole_of (whole_complete_by text s.sheet_text s.place_text token.sheet token.place s.whole s.sheet s.place)

-- What is spelled lies in the sheet

row_inside : (row : ℤ) (text : List ℕ) (position : Position) → SpellsRow row text position → is_row (place_at position row) ≡ true
row_inside row text position s =
    let n = row_as_number row text position s in ap is_row n.place ∙ and_from (leb 1 _) (leb _ 1048576) (le-leb _ _ n.positive) (le-leb _ _ n.within)

column_inside : (column : ℤ) (text : List ℕ) (position : Position) → SpellsColumn column text position → is_column (place_at position column) ≡ true
column_inside column text position s =
    let n = column_as_number column text position s in ap is_column n.place ∙ and_from (leb 1 _) (leb _ 16384) (le-leb _ _ n.positive) (le-leb _ _ n.within)

part_inside : (row column : ℤ) (part : RefPart) → is_row (place_at part.row row) ≡ true → is_column (place_at part.column column) ≡ true → is_part_inside part row column ≡ true
part_inside row column part r c = and_from (is_row (place_at part.row row)) (is_column (place_at part.column column)) r c

cell_inside : (row column : ℤ) (text : List ℕ) (part : RefPart) → SpellsCell row column text part → is_part_inside part row column ≡ true
cell_inside row column text part s = part_inside row column part (row_inside row s.row_text part.row s.row) (column_inside column s.column_text part.column s.column)

pub place_inside : (row column : ℤ) (text : List ℕ) (place : Place) → SpellsPlace row column text place → is_inside place row column ≡ true
place_inside row column text (places.Cell part) s = cell_inside row column text part s
place_inside row column text (places.Range first last) s =
    let both = and_from (is_part_inside first row column) (is_part_inside last row column) in
    elim s.3 [
      | inl p ↦ both (cell_inside row column s.0 first p.0) (cell_inside row column s.1 last p.1)
      | inr p ↦ elim p [
        | inl q ↦ both
            (part_inside row column first (ap (λ p. is_row (place_at p row)) q.0.0) (column_inside column s.0 first.column q.1))
            (part_inside row column last (ap (λ p. is_row (place_at p row)) q.0.1) (column_inside column s.1 last.column q.2))
        | inr q ↦ both
            (part_inside row column first (row_inside row s.0 first.row q.1) (ap (λ p. is_column (place_at p column)) q.0.0))
            (part_inside row column last (row_inside row s.1 last.row q.2) (ap (λ p. is_column (place_at p column)) q.0.1))
      ]
    ]

placed_inside : (place : Place) (sheet : ℕ) → is_inside place (pos 0) (pos 0) ≡ true → LiesInSheet (place_on place sheet)
placed_inside (places.Cell part) sheet h = h
placed_inside (places.Range first last) sheet h =
    let p = and_parts (is_part_inside first (pos 0) (pos 0)) (is_part_inside last (pos 0) (pos 0)) h in (p.0, p.1, refl)

-- The whole

tells_found : (Answers : List ℕ → Option ℕ → Type 0) (context : Option ℕ) (text : List ℕ) (e : ReferenceError) (o : Option RefToken) (found : ParsedReference) → whole_of (read_a1 (trimmed text)) ≡ o
    → ParsesFormula Answers context (found_or e o) (Ok found) → TellsFormula Answers context text (Ok found)
tells_found Answers context text e None found k h = absurd (cc)
tells_found Answers context text e (Some token) found k (Err x, is, h) = absurd (cc)
tells_found Answers context text e (Some token) found k (Ok sheet, is, h) =
    let same : found ≡ place_on token.place sheet = cc in (
      token,
      sheet,
      (trimmed text, trimmed_is text, whole_sound (trimmed text) token k),
      is,
      same,
      λ other s.
          let again : whole_of (read_a1 (trimmed text)) ≡ Some other = ap (λ t. whole_of (read_a1 t)) (trimmed_only text s.0 s.1) ∙ whole_complete s.0 other s.2 in
          let it : ◌≡◌ {A = Option RefToken} (Some other) (Some token) = sym again ∙ k in cc,
    )

tells_error : (Answers : List ℕ → Option ℕ → Type 0) (context : Option ℕ) (text : List ℕ) (o : Option RefToken) (e : ReferenceError) → whole_of (read_a1 (trimmed text)) ≡ o
    → ParsesFormula Answers context (found_or (not_a_reference (trimmed text)) o) (Err e)
    → ((e ≡ not_a_reference (trimmed text)) × ((token : RefToken) → SpellsFormula text token → ⊥)) ⊎ ((token : RefToken) × SpellsFormula text token × IsSheetOf Answers context token.sheet (Err e))
tells_error Answers context text None e k h =
    let same : e ≡ not_a_reference (trimmed text) = cc in
    inl (
      same,
      λ token s.
          let again : whole_of (read_a1 (trimmed text)) ≡ Some token = ap (λ t. whole_of (read_a1 t)) (trimmed_only text s.0 s.1) ∙ whole_complete s.0 token s.2 in
          let it : ◌≡◌ {A = Option RefToken} (Some token) None = sym again ∙ k in cc,
    )
tells_error Answers context text (Some token) e k (Ok sheet, is, h) = absurd (cc)
tells_error Answers context text (Some token) e k (Err x, is, h) =
    let same : x ≡ e = cc in
    inr (token, (trimmed text, trimmed_is text, whole_sound (trimmed text) token k), subst (λ x. IsSheetOf Answers context token.sheet (Err x)) same is)

pub tells : (Answers : List ℕ → Option ℕ → Type 0) (context : Option ℕ) (text : List ℕ) (r : Result ParsedReference ReferenceError) → UnlessMemory r (ParsesFormula Answers context (formula_token text))
    → TellsFormula Answers context text r
tells Answers context text (Ok found) h = tells_found Answers context text (not_a_reference (trimmed text)) (whole_of (read_a1 (trimmed text))) found refl h
tells Answers context text (Err errors.OutOfMemory) h = tt
tells Answers context text (Err e) h = tells_error Answers context text (whole_of (read_a1 (trimmed text))) e refl h

-- what is answered lies in the sheet
pub lies_inside : (Answers : List ℕ → Option ℕ → Type 0) (context : Option ℕ) (text : List ℕ) (r : Result ParsedReference ReferenceError) → TellsFormula Answers context text r → IfOk r LiesInSheet
lies_inside Answers context text (Ok found) (token, sheet, s, is, e, only) =
    subst LiesInSheet (sym e) (placed_inside token.place sheet (place_inside (pos 0) (pos 0) s.2.place_text token.place s.2.place))
lies_inside Answers context text (Err e) t = tt
