-- Cells that texts name are those that the machine finds.
use Rattle.std.proofs.Common.{◌≡◌, ℕ, ℤ, pos, ◌<◌, ◌≤◌, ◌^◌, List, [], ◌∷◌, drop, cond, Bool, true, false, ◌==◌, Option, Some, None, option_map, Result, Ok, Err, OkIff, IsAscii, IsUtf8, chars, refl, sym, ap, subst, ◌∙◌, if◌then◌else◌, arith, inl, inr}
use Rattle.std.specs.Prelude.{flat_map, is_none, option_and_then, option_to_list}
use Rattle.std.specs.List.{slice_get}
use Rattle.std.specs.Option.{option_map_or}
use Rattle.std.specs.Result.{result_ok}
use Rattle.std.specs.Str.{all_ascii_digits}
use Rattle.std.specs.Str.Parse.{IsNumeral, ParsesUnsigned, digits_value, without_leading_plus}
use Rattle.std.proofs.lemmas.Bool.{cases_Bool, leb-true}
use Rattle.std.proofs.lemmas.Bool.Decides.{eqb_tells, leb_tells, nat_tests}
use Rattle.std.proofs.lemmas.Str.{chars-IsAscii, encodes-IsAscii, encodes-chars}
use Rattle.std.proofs.lemmas.Str.Ascii.{IsAscii-cons, IsAscii-nil}
use Rattle.ic_laws.specs.Command.{number_said}
use Rattle.ic_laws.specs.Position.{is_row}
use Rattle.std.proofs.lemmas.Option.{slice_get-map}
use Rattle.std.proofs.Common.{append-nil}
use Rattle.ic_laws.specs.CoreBook.{CoreBook, Sheet as CoreSheet}
use Rattle.ic_laws.specs.CoreStep.{index_of_name}
use Rattle.ic_laws.specs.Name.{agrees}
use Rattle.ic_laws.specs.Scan.{past_run, run_of}
use Rattle.ic_input.specs.Convention.{plus}
use Rattle.ic_machine.specs.Book as machine
use Rattle.ic_machine.specs.Book.{Stepped, unless_refused}
use Rattle.ic_machine.specs.Parsed.{Parsed, column_or_none, is_no_bang, parsed_place, parsed_reference, parsed_row, row_if, without_plus}
use Rattle.ic_machine.specs.Refusal.{BadReference}
use Rattle.ic_machine.specs.Reply.{Field}
use Rattle.ic_machine.specs.subjects.Reading.{value_at, value_by_ref_step, value_fields, value_of_parsed, value_step}
use Rattle.ic_laws.specs.Position.{column_count, letters_number}
use Rattle.ic_laws.specs.Scan.{is_upper}
use Rattle.ic_refs.specs.Column.{column_number, is_ascii}
use Rattle.ic_refs.specs.declared.error.ColumnError.TheVariants as columns
use Rattle.jiff_core.proofs.SignedLemmas.{fits_between}
use Rattle.std.specs.List.{list_all}
use Rattle.std.specs.Prelude.{nat_le}
use Rattle.std.proofs.Common.{w32}
use mir.Val.{SFits}
use Rattle.ic_laws.specs.Scan as scan
use Rattle.ic_definitions.proofs.NamesFacts.{item_at_position}
use Rattle.ic_sheets.specs.Sheet.{Sheet, sheet_core}
use Rattle.ic_refs.specs.declared.reference.CellReferenceIndex.{CellReferenceIndex}
use Rattle.ic_machine.specs.subjects.Extending.{parse_step, parsed_fields}
use Rattle.ic_parts.specs.Book.{Book, IsValidBook, ModelState, core_of}
use Rattle.ic_parts.specs.Does.{DoesStep, Wanted}
use Rattle.ic_parts.specs.References.{parsed_of, reference_fields}
use Rattle.ic_parts.specs.declared.error.BookError.TheVariants as errors
use Rattle.ic_parts.specs.Whole.{whole_of, whole_sheet}
use Rattle.ic_parts.proofs.ModelLemmas.{position-map}
use Rattle.ic_parts.proofs.ReadLemmas.{sheet_found}
use Rattle.ic_parts.proofs.WholeLemmas.{whole_core}
use Rattle.ic_laws.proofs.AmountLemmas.{numerals}
use Rattle.ic_laws.proofs.General.{digits_ascii, no_number}

-- digits and a plus are ASCII ----

said_ascii : (cs : List ℕ) → all_ascii_digits (without_plus cs) ≡ true → IsAscii cs
said_ascii [] h = IsAscii-nil
said_ascii (c ∷ cs) h =
    elim (eqb_tells c plus) [
      | inl p ↦ IsAscii-cons c cs (omega (arith, p.1)) (digits_ascii cs (sym (ap (λ b. all_ascii_digits (if b then cs else c ∷ cs)) p.0) ∙ h))
      | inr p ↦ digits_ascii (c ∷ cs) (sym (ap (λ b. all_ascii_digits (if b then cs else c ∷ cs)) p.0) ∙ h)
    ]

-- a row is the same by its bytes
row_by_bytes : (bytes : List ℕ) → IsUtf8 bytes → parsed_row (chars bytes) ≡ parsed_row bytes
row_by_bytes bytes u =
    elim (cases_Bool (all_ascii_digits (without_plus bytes))) [
      | inl e ↦ ap parsed_row (chars-IsAscii bytes (said_ascii bytes e))
      | inr e ↦ elim (cases_Bool (all_ascii_digits (without_plus (chars bytes)))) [
        | inl f ↦
            let same : chars bytes ≡ bytes = sym (encodes-IsAscii (chars bytes) (said_ascii (chars bytes) f)) ∙ encodes-chars bytes u in
            ap parsed_row same
        | inr f ↦ ap (option_and_then row_if) (no_number (without_plus (chars bytes)) f) ∙ sym (ap (option_and_then row_if) (no_number (without_plus bytes) e))
      ]
    ]

-- what is read of digits ----

past_last : (n : ℕ) → 2 ^ 32 ≤ n → row_if n ≡ None
past_last n h = let no : is_row (pos n) ≡ false = grind (arith, nat_tests) in rw no refl

read_row : {E : Type 0} (ds : List ℕ) (r : Result ℕ E) → OkIff r (IsNumeral 10 ds × (digits_value 10 ds < 2 ^ 32)) (digits_value 10 ds) → option_and_then row_if (result_ok r) ≡ option_and_then row_if (number_said ds)
read_row [] (Ok x) h = absurd (omega (arith, h.0.0.0))
read_row [] (Err e) h = refl
read_row (c ∷ cs) (Ok x) h = let all : all_ascii_digits (c ∷ cs) ≡ true = numerals.from (c ∷ cs) h.0.0.1 in rw (all, h.1) refl
read_row (c ∷ cs) (Err e) h =
    elim (cases_Bool (all_ascii_digits (c ∷ cs))) [
      | inl d ↦ elim (leb_tells (2 ^ 32) (digits_value 10 (c ∷ cs))) [
        | inl p ↦ rw d (sym (past_last (digits_value 10 (c ∷ cs)) p.1))
        | inr p ↦ absurd (h ((omega arith, numerals.to (c ∷ cs) d), omega (arith, p.1)))
      ]
      | inr d ↦ rw d refl
    ]

same_rest : (bytes : List ℕ) → without_leading_plus bytes ≡ without_plus bytes
same_rest [] = refl
same_rest (c ∷ cs) = elim (c == plus) as (λ b. drop (cond b 1 0) (c ∷ cs) ≡ (if b then cs else c ∷ cs)) [ true ↦ refl | false ↦ refl ]

pub row_read : {E : Type 0} (bytes : List ℕ) → IsUtf8 bytes → (r : Result ℕ E) → ParsesUnsigned 32 10 bytes r → option_and_then row_if (result_ok r) ≡ parsed_row (chars bytes)
row_read bytes u r parsed =
    read_row (without_plus bytes) r (subst (λ ds. OkIff r (IsNumeral 10 ds × (digits_value 10 ds < 2 ^ 32)) (digits_value 10 ds)) (same_rest bytes) parsed)
    ∙ sym (row_by_bytes bytes u)

-- the value of a cell that a text names ----

-- it is one of the sheet that was found
its_sheet : (n : ℕ) (text : List ℕ) (p : Parsed) → parsed_place n text ≡ Some p → n ≡ p.sheet
its_sheet n [] p e = cc
its_sheet n (mark ∷ text) p e = by_column (column_or_none (column_number (run_of scan.is_ascii_letter text))) e
  where
    by_row : (column : ℤ) (o : Option ℤ) → option_map (λ row. let made : Parsed = record { sheet = n; row = row; column = column } in made) o ≡ Some p → n ≡ p.sheet
    by_row column None e = cc
    by_row column (Some row) e = let same : record { sheet = n; row = row; column = column } ≡ p = cc in ap (λ (p : Parsed). p.sheet) same

    by_column : (o : Option ℤ) → option_and_then (λ column. option_map (λ row. let made : Parsed = record { sheet = n; row = row; column = column } in made) (parsed_row (past_run scan.is_ascii_letter text))) o ≡ Some p → n ≡ p.sheet
    by_column None e = cc
    by_column (Some column) e = by_row column (parsed_row (past_run scan.is_ascii_letter text)) e

-- its row and its column fit
row_fits : (text : List ℕ) (row : ℤ) → parsed_row text ≡ Some row → SFits w32 row
row_fits text row e = by_number (number_said (without_plus text)) e
  where
    of_row : (n : ℕ) (b : Bool) → is_row (pos n) ≡ b → (if b then Some (pos n) else None) ≡ Some row → SFits w32 row
    of_row n true is e =
        let few : n < 2 ^ 31 = grind (arith, nat_tests) in
        let same : pos n ≡ row = cc in
        subst (SFits w32) same (fits_between w32 (pos n) (omega (arith, few), omega arith))
    of_row n false is e = cc

    by_number : (o : Option ℕ) → option_and_then row_if o ≡ Some row → SFits w32 row
    by_number None e = cc
    by_number (Some n) e = of_row n (is_row (pos n)) refl e

column_fits : (letters : List ℕ) (column : ℤ) → column_or_none (column_number letters) ≡ Some column → SFits w32 column
column_fits [] column e = cc
column_fits (c ∷ cs) column e = by_parts (list_all is_ascii (c ∷ cs)) (list_all is_upper (c ∷ cs)) (nat_le (letters_number (c ∷ cs)) column_count) refl e
  where
    by_parts : (a u few : Bool) → nat_le (letters_number (c ∷ cs)) column_count ≡ few
        → column_or_none (if a then (if u then (if few then Ok (pos (letters_number (c ∷ cs))) else Err columns.NotValid) else Err columns.NotLetters) else Err columns.NotAscii) ≡ Some column → SFits w32 column
    by_parts false u few is e = cc
    by_parts true false few is e = cc
    by_parts true true false is e = cc
    by_parts true true true is e =
        let same : pos (letters_number (c ∷ cs)) ≡ column = cc in
        subst (SFits w32) same (fits_between w32 (pos (letters_number (c ∷ cs))) (omega (arith, leb-true _ _ is), omega arith))

abbrev AreFitting : Parsed → Type 0
AreFitting p = SFits w32 p.row × SFits w32 p.column

its_place : (n : ℕ) (text : List ℕ) (p : Parsed) → parsed_place n text ≡ Some p → AreFitting p
its_place n [] p e = cc
its_place n (mark ∷ text) p e = by_column (column_or_none (column_number (run_of scan.is_ascii_letter text))) refl e
  where
    by_row : (column : ℤ) → SFits w32 column → (o : Option ℤ) → parsed_row (past_run scan.is_ascii_letter text) ≡ o
        → option_map (λ row. let made : Parsed = record { sheet = n; row = row; column = column } in made) o ≡ Some p → AreFitting p
    by_row column fits None is e = cc
    by_row column fits (Some row) is e =
        let same : record { sheet = n; row = row; column = column } ≡ p = cc in
        subst AreFitting same (row_fits (past_run scan.is_ascii_letter text) row is, fits)

    by_column : (o : Option ℤ) → column_or_none (column_number (run_of scan.is_ascii_letter text)) ≡ o
        → option_and_then (λ column. option_map (λ row. let made : Parsed = record { sheet = n; row = row; column = column } in made) (parsed_row (past_run scan.is_ascii_letter text))) o ≡ Some p → AreFitting p
    by_column None is e = cc
    by_column (Some column) is e = by_row column (column_fits (run_of scan.is_ascii_letter text) column is) (parsed_row (past_run scan.is_ascii_letter text)) refl e

pub named_place : (book : Book) (text : List ℕ) (p : Parsed) → parsed_reference (core_of book) text ≡ Some p → AreFitting p
named_place book text p e = by_index (index_of_name (core_of book) (run_of is_no_bang text)) e
  where
    by_index : (o : Option ℕ) → option_and_then (λ n. parsed_place n (past_run is_no_bang text)) o ≡ Some p → AreFitting p
    by_index None e = cc
    by_index (Some n) e = its_place n (past_run is_no_bang text) p e

sheet_named : (book : Book) (text : List ℕ) (p : Parsed) → parsed_reference (core_of book) text ≡ Some p → (s : Sheet) × (slice_get book.sheets p.sheet ≡ Some s)
sheet_named book text p e = by_index (index_of_name (core_of book) (run_of is_no_bang text)) refl e
  where
    by_index : (o : Option ℕ) → index_of_name (core_of book) (run_of is_no_bang text) ≡ o → option_and_then (λ n. parsed_place n (past_run is_no_bang text)) o ≡ Some p → (s : Sheet) × (slice_get book.sheets p.sheet ≡ Some s)
    by_index None is e = cc
    by_index (Some n) is e =
        let item = item_at_position (λ (s : Sheet). agrees s.name (run_of is_no_bang text)) book.sheets n (sym (position-map sheet_core (λ (s : CoreSheet). agrees s.name (run_of is_no_bang text)) book.sheets) ∙ is) in
        (item.0, subst (λ k. slice_get book.sheets k ≡ Some item.0) (its_sheet n (past_run is_no_bang text) p e) item.1)

module _ (now : ModelState) (text : List ℕ) where
  abbrev whole : machine.Book
  whole = whole_of now.book

  abbrev told_of : Option Parsed → Stepped machine.Book
  told_of o = unless_refused ((is_none o, BadReference) ∷ []) whole (option_map_or (value_of_parsed whole) o [])

  pub by_ref_is : (o : Option Parsed) → parsed_reference (core_of now.book) text ≡ o → value_by_ref_step text whole ≡ told_of o
  unfolding value_by_ref_step
  by_ref_is o e = ap (λ (c : CoreBook). told_of (parsed_reference c text)) (whole_core now.book) ∙ ap told_of e

  pub by_ref_found : (p : Parsed) → parsed_reference (core_of now.book) text ≡ Some p → value_step p.sheet (p.row, p.column) whole ≡ value_by_ref_step text whole
  unfolding value_step
  by_ref_found p e =
      let found = sheet_named now.book text p e in
      let seen = whole_sheet now.book.strings found.0 in
      sheet_found now p.sheet (λ sheet. unless_refused [] whole (value_fields (value_at whole sheet (p.row, p.column)))) found.0 found.1
      ∙ ap (λ (fs : List Field). let done : Stepped machine.Book = Ok (whole, fs) in done)
      (sym (ap (λ o. flat_map (λ (sheet : machine.Sheet). value_fields (value_at whole sheet (p.row, p.column))) (option_to_list o)) (slice_get-map (whole_sheet now.book.strings) now.book.sheets p.sheet ∙ ap (option_map (whole_sheet now.book.strings)) found.1)
      ∙ append-nil (value_fields (value_at whole seen (p.row, p.column)))))
      ∙ sym (by_ref_is (Some p) e)

  pub by_ref_refused : IsValidBook now.book → parsed_reference (core_of now.book) text ≡ None → DoesStep Wanted (value_by_ref_step text whole) value_fields (Err errors.BadReference) now now
  by_ref_refused valid e = record { done = (by_ref_is None e, refl); before = valid; after = valid }

  -- a cell that a text names is told
  fields_of : (o : Option CellReferenceIndex) → option_map_or parsed_fields (option_map parsed_of o) [] ≡ reference_fields o
  fields_of None = refl
  fields_of (Some cell) = refl

  pub parse_is : (result : Option CellReferenceIndex) → option_map parsed_of result ≡ parsed_reference (core_of now.book) text → parse_step text whole ≡ Ok (whole, reference_fields result)
  unfolding parse_step
  parse_is result e =
      ap (λ (c : CoreBook). let made : Stepped machine.Book = unless_refused [] whole (option_map_or parsed_fields (parsed_reference c text) []) in made) (whole_core now.book)
      ∙ ap (λ (o : Option Parsed). let made : Stepped machine.Book = unless_refused [] whole (option_map_or parsed_fields o []) in made) (sym e)
      ∙ ap (λ (fs : List Field). let done : Stepped machine.Book = Ok (whole, fs) in done) (fields_of result)
