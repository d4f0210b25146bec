-- What cells show is what the machine shows of their contents.
use Rattle.std.proofs.Common.{◌≡◌, ◌∷◌, ℕ, ℤ, ◌<◌, List, [], true, false, ◌&&◌, Option, Some, None, option_map, length, refl, sym, ap, ap₂, subst, ◌∙◌, if◌then◌else◌}
use Rattle.std.specs.Prelude.{option_and_then, unwrap_or}
use Rattle.std.specs.FinMap as finite
use Rattle.std.specs.List.{slice_get}
use Rattle.std.specs.Option.{option_map_or}
use Rattle.ic_laws.specs.Amount.{amount_text}
use Rattle.ic_laws.specs.Character.{dot, equals}
use Rattle.ic_laws.specs.CoreBook.{CellPlace, CoreBook}
use Rattle.ic_laws.specs.FormulaReading.{shown_formula}
use Rattle.ic_laws.specs.Notations.{english}
use Rattle.ic_laws.specs.declared.tree.Formula.{Formula}
use Rattle.ic_laws.specs.declared.tree.Formula.TheVariants as kept
use Rattle.ic_tables.specs.Formats.{decimal_separator}
use Rattle.ic_tables.specs.Tables.{language_of, locale_of}
use Rattle.ic_tables.specs.declared.language.Language.{Language}
use Rattle.ic_tables.specs.declared.locale.Locale.{Locale}
use Rattle.ic_tables.specs.declared.locale.NamedLocale.{NamedLocale}
use Rattle.ic_cells.specs.Cell.{cell_formula_index, style_of, value_of}
use Rattle.ic_cells.specs.Value.{boolean_word, shown_text}
use Rattle.ic_cells.specs.declared.cell.Cell.{Cell}
use Rattle.ic_cells.specs.declared.cell.Cell.TheVariants as cells
use Rattle.ic_cells.specs.declared.value.CellValue.{CellValue}
use Rattle.ic_cells.specs.declared.value.CellValue.TheVariants as values
use Rattle.ic_cells.specs.declared.value.FormulaValue.TheVariants as formulas
use Rattle.ic_cells.specs.declared.value.SpillValue.TheVariants as spills
use Rattle.ic_input.specs.Code.{is_date_code}
use Rattle.ic_machine.proofs.contents.AlikeGrid.{get-seen}
use Rattle.ic_machine.specs.Book as machine
use Rattle.ic_machine.specs.Book.{content_at}
use Rattle.ic_machine.specs.Content as contents
use Rattle.ic_machine.specs.Content.{content_of}
use Rattle.ic_machine.specs.Format.{formatted}
use Rattle.ic_machine.specs.InForce.{InForce, all_there, by_notation, decimal_in, formatted_in, in_force, is_number, shown_number, typed_in}
use Rattle.ic_machine.specs.Reply.{Field, text_field}
use Rattle.ic_machine.specs.Valid.{IsStyleNumber}
use Rattle.ic_machine.specs.subjects.Reading.{format_of, formatted_content, formatted_value, formula_text, shown_content}
use Rattle.ic_sheets.specs.Sheet.{IsValidPool, Sheet}
use Rattle.ic_parts.specs.Book.{Book, IsValidBook, ModelState, core_of, notations_in, scene_in}
use Rattle.ic_parts.specs.Shown.{StandsIn, cell_formatted, code_at, content_formatted, content_shown, date_shown, localized, number_kept, number_or, value_shown}
use Rattle.ic_parts.specs.Whole.{whole_of, whole_sheet}
use Rattle.ic_parts.proofs.BookValid.{pools_valid}
use Rattle.ic_parts.proofs.CellReads.{value_same}
use Rattle.ic_parts.proofs.ModelLemmas.{got_formula}
use Rattle.ic_parts.proofs.StyleLemmas.{own_below}
use Rattle.ic_parts.proofs.WholeLemmas.{whole_core}
use Rattle.ic_parts.proofs.WholeWritten.{in_force_there, language_there, locale_there}
use Rattle.ic_parts.proofs.WrittenLemmas.{one_of_all}

-- the notation in force, by the entries of the tables ----

parts_in : (locale : Option NamedLocale) (language beside : Option Language) (f : InForce) → all_there locale language beside ≡ Some f → (l : NamedLocale) (g : Language) → locale ≡ Some l → language ≡ Some g
    → (f.locale ≡ l.locale) × (f.language ≡ g)
parts_in None language beside f e l g is_l is_g = cc
parts_in (Some k) None beside f e l g is_l is_g = cc
parts_in (Some k) (Some h) None f e l g is_l is_g = cc
parts_in (Some k) (Some h) (Some other) f e l g is_l is_g =
    let same : record { locale = k.locale; language = h; beside = other } ≡ f = cc in
    let its : k ≡ l = cc in
    let word : h ≡ g = cc in
    (sym (ap (λ (f : InForce). f.locale) same) ∙ ap (λ (n : NamedLocale). n.locale) its, sym (ap (λ (f : InForce). f.language) same) ∙ word)

module _ (book : Book) (valid : IsValidBook book) (l : NamedLocale) (language : Language) (locale_found : locale_of book.tables book.locale ≡ Some l) (language_found : language_of book.tables book.language ≡ Some language) where
  by_it : {A : Type 0} (otherwise : A) (make : Locale → Language → A) → by_notation otherwise (λ f. make f.locale f.language) (in_force (whole_of book)) ≡ make l.locale language
  by_it {A} otherwise make =
      let there = in_force_there book valid in
      let parts = parts_in (locale_of book.tables book.locale) (language_of book.tables book.language) (language_of book.tables english) there.0 there.1 l language locale_found language_found in
      ap (λ (o : Option InForce). by_notation otherwise (λ f. make f.locale f.language) o) there.1 ∙ ap₂ make parts.0 parts.1

  pub localized_is : (cell : Cell) → shown_text (decimal_separator l.locale) language (value_of book.strings language cell) ≡ localized book cell
  localized_is cell = sym (by_it [] (λ k g. shown_text (decimal_separator k) g (value_of book.strings g cell)))

  pub formatted_there : (code : List ℕ) (v : ℤ) → formatted l.locale code v ≡ formatted_in (whole_of book) code v
  formatted_there code v = sym (by_it [] (λ k g. formatted k code v))

  pub decimal_is : decimal_separator l.locale ≡ decimal_in (whole_of book)
  decimal_is = sym (by_it dot (λ k g. decimal_separator k))

  -- a value by a code
  abbrev number_of : CellValue → Option ℤ
  number_of (values.Number amount) = Some amount
  number_of v = None

  value_formatted : (code : List ℕ) (v : CellValue) → formatted_value (whole_of book) code v ≡ number_or (formatted_in (whole_of book) code) (shown_text (decimal_separator l.locale) language v) (number_of v)
  value_formatted code values.None = refl
  value_formatted code (values.String text) = refl
  value_formatted code (values.Number amount) = refl
  value_formatted code (values.Boolean truth) = by_it [] (λ k g. boolean_word g truth)

  number_same : (cell : Cell) → number_of (value_of book.strings language cell) ≡ number_kept cell
  number_same (cells.EmptyCell s) = refl
  number_same (cells.BooleanCell v s) = refl
  number_same (cells.NumberCell v s) = refl
  number_same (cells.ErrorCell e s) = refl
  number_same (cells.SharedString i s) = refl
  number_same (cells.CellFormula f s formulas.Unevaluated) = refl
  number_same (cells.CellFormula f s (formulas.Boolean b)) = refl
  number_same (cells.CellFormula f s (formulas.Number n)) = refl
  number_same (cells.CellFormula f s (formulas.Text t)) = refl
  number_same (cells.CellFormula f s (formulas.Error e note)) = refl
  number_same (cells.ArrayFormula kind f s r formulas.Unevaluated) = refl
  number_same (cells.ArrayFormula kind f s r (formulas.Boolean b)) = refl
  number_same (cells.ArrayFormula kind f s r (formulas.Number n)) = refl
  number_same (cells.ArrayFormula kind f s r (formulas.Text t)) = refl
  number_same (cells.ArrayFormula kind f s r (formulas.Error e note)) = refl
  number_same (cells.SpillCell s a (spills.Boolean b)) = refl
  number_same (cells.SpillCell s a (spills.Number n)) = refl
  number_same (cells.SpillCell s a (spills.Text t)) = refl
  number_same (cells.SpillCell s a (spills.Error e)) = refl

  code_same : (cell : Cell) → format_of (whole_of book) (content_of book.strings cell) ≡ code_at book (style_of cell)
  code_same (cells.EmptyCell s) = refl
  code_same (cells.BooleanCell v s) = refl
  code_same (cells.NumberCell v s) = refl
  code_same (cells.ErrorCell e s) = refl
  code_same (cells.SharedString i s) = refl
  code_same (cells.CellFormula f s v) = refl
  code_same (cells.ArrayFormula kind f s r v) = refl
  code_same (cells.SpillCell s a v) = refl

  formatted_is_it : (cell : Cell) → cell_formatted book cell ≡ formatted_content (whole_of book) (content_of book.strings cell)
  formatted_is_it cell =
      ap₂ (λ (text : List ℕ) (o : Option ℤ). number_or (formatted_in (whole_of book) (code_at book (style_of cell))) text o) (sym (localized_is cell)) (sym (number_same cell))
      ∙ sym (value_formatted (code_at book (style_of cell)) (value_of book.strings language cell))
      ∙ ap₂ (λ (code : List ℕ) (v : CellValue). formatted_value (whole_of book) code v) (sym (code_same cell))
      (sym (by_it values.None (λ k g. contents.value_of g (content_of book.strings cell)) ∙ value_same book.strings language cell))

  -- a cell without a formula
  shown_is_it : (s : Sheet) (place : CellPlace) (cell : Cell) → cell_formula_index cell ≡ None → value_shown book cell ≡ shown_content (whole_of book) (whole_sheet book.strings s) place (content_of book.strings cell)
  shown_is_it s place (cells.EmptyCell n) e = sym (localized_is (cells.EmptyCell n))
  shown_is_it s place (cells.BooleanCell v n) e = refl
  shown_is_it s place (cells.NumberCell v n) e = refl
  shown_is_it s place (cells.ErrorCell v n) e = refl
  shown_is_it s place (cells.SharedString i n) e = refl
  shown_is_it s place (cells.CellFormula f n v) e = cc
  shown_is_it s place (cells.ArrayFormula kind f n r v) e = cc
  shown_is_it s place (cells.SpillCell n a (spills.Boolean b)) e = refl
  shown_is_it s place (cells.SpillCell n a (spills.Number v)) e = refl
  shown_is_it s place (cells.SpillCell n a (spills.Text t)) e = refl
  shown_is_it s place (cells.SpillCell n a (spills.Error v)) e = refl

pub cell_formatted_is : (book : Book) → IsValidBook book → (cell : Cell) → cell_formatted book cell ≡ formatted_content (whole_of book) (content_of book.strings cell)
cell_formatted_is book valid cell =
    let l = locale_there book valid in
    let language = language_there book valid in
    formatted_is_it book valid l.0 language.0 l.1 language.1 cell

pub value_shown_is : (book : Book) → IsValidBook book → (s : Sheet) (place : CellPlace) (cell : Cell) → cell_formula_index cell ≡ None → value_shown book cell ≡ shown_content (whole_of book) (whole_sheet book.strings s) place (content_of book.strings cell)
value_shown_is book valid s place cell lacks =
    let l = locale_there book valid in
    let language = language_there book valid in
    shown_is_it book valid l.0 language.0 l.1 language.1 s place cell lacks

-- a number by its date, where that is typed as it ----

pub number_shown_by : (whole : machine.Book) (code : List ℕ) (v : ℤ) (o : Option (List ℕ)) → o ≡ date_shown whole code v → unwrap_or o (amount_text (decimal_in whole) v) ≡ shown_number whole code v
number_shown_by whole code v o e =
    ap (λ (o : Option (List ℕ)). unwrap_or o (amount_text (decimal_in whole) v)) e
    ∙ elim (is_date_code code && is_number v (typed_in whole (formatted_in whole code v))) as (λ b. unwrap_or (if b then Some (formatted_in whole code v) else None) (amount_text (decimal_in whole) v) ≡ (if b then formatted_in whole code v else amount_text (decimal_in whole) v)) [
      | true ↦ refl
      | false ↦ refl
    ]

-- what stands at a place ----

module _ (now : ModelState) (valid : IsValidBook now.book) (s : Sheet) (stands : StandsIn s now.book) (place : CellPlace) where
  abbrev whole : machine.Book
  whole = whole_of now.book

  abbrev seen : machine.Sheet
  seen = whole_sheet now.book.strings s

  module _ (o : Option Cell) (there : finite.get s.grid.cells place ≡ o) where
    content_there : content_at seen place.0 place.1 ≡ option_map (content_of now.book.strings) o
    content_there = get-seen (content_of now.book.strings) s.grid.cells place ∙ ap (option_map (content_of now.book.strings)) there

    pub shown_there : option_map_or (shown_content whole seen place) (option_map (content_of now.book.strings) o) [] ≡ content_shown now.book s place
    shown_there = ap (λ c. option_map_or (shown_content whole seen place) c []) (sym content_there)

    pub formatted_at : option_map_or (formatted_content whole) (option_map (content_of now.book.strings) o) [] ≡ content_formatted now.book s place
    formatted_at = ap (λ c. option_map_or (formatted_content whole) c []) (sym content_there)

  module _ (cell : Cell) (there : finite.get s.grid.cells place ≡ Some cell) where
    pub style_there : style_of cell < length now.book.styles
    style_there = subst (IsStyleNumber (length now.book.styles)) (ap (option_map style_of) there) (own_below now valid stands.0 s stands.1 place)

    -- its formula, and that it has none
    pub formula_shown : (f : Formula) → option_and_then (slice_get s.pool) (cell_formula_index cell) ≡ Some f
        → equals ∷ shown_formula (notations_in now.book) (core_of now.book) place.0 place.1 f ≡ shown_content whole seen place (content_of now.book.strings cell)
    formula_shown f e =
        ap (λ (c : CoreBook). equals ∷ shown_formula (notations_in now.book) c place.0 place.1 f) (sym (whole_core now.book)) ∙ by_cell cell e
      where
        held_text : (i : ℕ) → slice_get s.pool i ≡ Some f → formula_text whole place f ≡ formula_text whole place (unwrap_or (slice_get s.pool i) (kept.Raw []))
        held_text i e = sym (ap (λ (o : Option Formula). formula_text whole place (unwrap_or o (kept.Raw []))) e)

        by_cell : (x : Cell) → option_and_then (slice_get s.pool) (cell_formula_index x) ≡ Some f → formula_text whole place f ≡ shown_content whole seen place (content_of now.book.strings x)
        by_cell (cells.EmptyCell n) e = cc
        by_cell (cells.BooleanCell v n) e = cc
        by_cell (cells.NumberCell v n) e = cc
        by_cell (cells.ErrorCell v n) e = cc
        by_cell (cells.SharedString i n) e = cc
        by_cell (cells.CellFormula i n v) e = held_text i e
        by_cell (cells.ArrayFormula kind i n r v) e = held_text i e
        by_cell (cells.SpillCell n a v) e = cc

    pub formula_lacking : option_and_then (slice_get s.pool) (cell_formula_index cell) ≡ None → cell_formula_index cell ≡ None
    formula_lacking e = at (cell_formula_index cell) refl e
      where
        at : (o : Option ℕ) → cell_formula_index cell ≡ o → option_and_then (slice_get s.pool) o ≡ None → cell_formula_index cell ≡ None
        at None is e = is
        at (Some i) is e =
            let within = (one_of_all (IsValidPool (notations_in now.book) (scene_in now.book)) stands.0 now.book.sheets s stands.1 (pools_valid now.book valid)).indexes place cell i there is in
            let got = got_formula s.pool i within in
            cc

-- what is told of a sheet ----

abbrev pub content_told : machine.Book → CellPlace → machine.Sheet → List Field
content_told book place sheet = text_field (option_map_or (shown_content book sheet place) (content_at sheet place.0 place.1) [])

abbrev pub formatted_told : machine.Book → CellPlace → machine.Sheet → List Field
formatted_told book place sheet = text_field (option_map_or (formatted_content book) (content_at sheet place.0 place.1) [])
