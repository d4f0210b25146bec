-- A model that is made of the records of a workbook holds a valid book, and it is the book that the records stand for.
use Rattle.std.proofs.Common.{◌≡◌, ◌∙◌, ℕ, List, [], ◌∷◌, Bool, true, not, Option, Some, None, is_none, map, length, refl, sym, ap, ap₂, subst}
use Rattle.std.specs.Borrow.{Bor}
use Rattle.std.specs.FinMap as finite
use Rattle.std.specs.List.{AllByRecursion}
use Rattle.ic_laws.specs.Refusal.{InvalidLanguage, InvalidLocale, InvalidTimezone, first_refusal}
use Rattle.ic_tables.specs.Tables.{IsWellFormed, TableSet, language_of, lists_zone, locale_of}
use Rattle.ic_tables.specs.declared.language.Language.{Language}
use Rattle.ic_tables.specs.declared.locale.NamedLocale.{NamedLocale}
use Rattle.ic_cells.specs.declared.sheet.Worksheet.{Worksheet}
use Rattle.ic_cells.specs.declared.workbook.Workbook.{Workbook}
use Rattle.ic_grid.specs.Contents.{Contents}
use Rattle.ic_machine.proofs.contents.AlikeGrid.{get-seen, stands_seen}
use Rattle.ic_machine.specs.Book as machine
use Rattle.ic_machine.specs.Content.{Content}
use Rattle.ic_machine.specs.Valid as valid
use Rattle.ic_sheets.specs.Sheet.{Sheet, sheet_of}
use Rattle.ic_sheets.specs.declared.sheet.Sheet.{Sheet as HeldSheet}
use Rattle.ic_parts.specs.Book.{HasString, HasStrings, NotationState, whole_of, whole_sheet}
use Rattle.ic_workbooks.specs.Filled.{AreFilled, filled}
use Rattle.ic_workbooks.specs.HandedIn.{MeetsAll, Strings, book_of, definition_of, notation_refusal, scene_of}
use Rattle.ic_workbooks.specs.HandedIn as handed_in
use Rattle.ic_book.specs.Inside.{IsHeld, held}
use Rattle.ic_workbooks.specs.Numbered.{AreNumbered, renumbered}
use Rattle.ic_parts.specs.declared.about.About.{About}
use Rattle.ic_book.specs.declared.model.Model.TheInside.{Inside}
use Rattle.ic_workbooks.proofs.AcceptedWorkbook.{accepted_valid}
use Rattle.ic_workbooks.proofs.NumberedLemmas.{seen_told, string_there}

-- a model holds what the records of a workbook hold, in a language, with these numbers of shared strings
pub record HoldsRecords (w : Workbook) (language : List ℕ) (tables : TableSet) (numbers : List ℕ) (inside : Inside) : Type 0 where
  pub notation : inside.notation ≡ record { tables = tables; locale = w.settings.locale; language = language }
  pub sheets : AreFilled w tables numbers inside.contents.sheets
  pub definitions : inside.contents.definitions ≡ map (definition_of w tables) w.defined_names
  pub styles : inside.lists.styles ≡ w.styles
  pub strings : AreNumbered w.shared_strings numbers inside.lists.strings
  pub zone : Bor (List ℕ)
  pub about : inside.about ≡ record { name = w.name; zone = zone; theme = w.theme.name; metadata = w.metadata }
  pub in_zone : zone.now ≡ w.settings.tz

module _ (w : Workbook) (language : List ℕ) (tables : TableSet) (numbers : List ℕ) (inside : Inside) (holds : HoldsRecords w language tables numbers inside) (meets : MeetsAll w language tables) where
  abbrev kept : List (List ℕ)
  kept = inside.lists.strings

  abbrev made : Worksheet → HeldSheet
  made = filled tables (scene_of w) numbers

  -- each sheet is the one that its record stands for
  sheets_stand : (ws : List Worksheet) → AllByRecursion (handed_in.HasStrings (length w.shared_strings)) ws → map (whole_sheet kept) (map sheet_of (map made ws)) ≡ map (handed_in.sheet_of w tables) ws
  sheets_stand [] h = refl
  sheets_stand (s ∷ ws) h =
      ap₂ (λ (m : Contents Content) (rest : List machine.Sheet). let sheet : machine.Sheet = record (handed_in.sheet_of w tables s) { grid = record (handed_in.grid_of w tables s) { contents = m } } in sheet ∷ rest)
      (seen_told w.shared_strings numbers kept holds.strings s.cells h.0) (sheets_stand ws h.1)

  pub stands_for : whole_of (held inside) ≡ book_of w language tables
  stands_for = λ i. record {
    sheets = (ap (λ (ss : List HeldSheet). map (whole_sheet kept) (map sheet_of ss)) holds.sheets ∙ sheets_stand w.worksheets (meets Strings)) i;
    definitions = holds.definitions i;
    locale = ap (λ (n : NotationState). n.locale) holds.notation i;
    language = ap (λ (n : NotationState). n.language) holds.notation i;
    zone = (ap (λ (a : About). a.zone.now) holds.about ∙ holds.in_zone) i;
    styles = holds.styles i;
    theme = ap (λ (a : About). a.theme) holds.about i;
    name = ap (λ (a : About). a.name) holds.about i;
    metadata = ap (λ (a : About). a.metadata) holds.about i;
    tables = ap (λ (n : NotationState). n.tables) holds.notation i;
  }

  -- each shared string of a cell is there
  strings_stand : (ws : List Worksheet) → AllByRecursion (handed_in.HasStrings (length w.shared_strings)) ws → AllByRecursion (λ (sheet : Sheet). HasStrings (length kept) sheet.grid) (map sheet_of (map made ws))
  strings_stand [] h = tt
  strings_stand (s ∷ ws) h = (
    λ place cell e.
        let was = stands_seen (renumbered numbers) (finite.get s.cells place) cell (sym (get-seen (renumbered numbers) s.cells place) ∙ e) in
        subst (HasString (length kept)) was.2 (string_there w.shared_strings numbers kept holds.strings was.0 (h.0 place was.0 was.1)),
    strings_stand ws h.1,
  )

  pub records_held : IsWellFormed tables → notation_refusal w language tables ≡ None → IsHeld inside
  records_held well free = record {
    whole = subst valid.IsValidBook (sym stands_for) (accepted_valid w language tables well free meets);
    strings = subst (λ (ss : List HeldSheet). AllByRecursion (λ (sheet : Sheet). HasStrings (length kept) sheet.grid) (map sheet_of ss)) (sym holds.sheets) (strings_stand w.worksheets (meets Strings));
  }

-- what refuses a workbook, by what the tables have

module _ (w : Workbook) (language : List ℕ) (tables : TableSet) where
  module _ (l : NamedLocale) (has_locale : locale_of tables w.settings.locale ≡ Some l) where
    after_locale : notation_refusal w language tables ≡ first_refusal ((not (lists_zone tables w.settings.tz), InvalidTimezone) ∷ (is_none (language_of tables language), InvalidLanguage) ∷ [])
    after_locale = ap (λ (o : Option NamedLocale). first_refusal ((is_none o, InvalidLocale) ∷ (not (lists_zone tables w.settings.tz), InvalidTimezone) ∷ (is_none (language_of tables language), InvalidLanguage) ∷ [])) has_locale

    module _ (has_zone : lists_zone tables w.settings.tz ≡ true) where
      after_zone : notation_refusal w language tables ≡ first_refusal ((is_none (language_of tables language), InvalidLanguage) ∷ [])
      after_zone = after_locale ∙ ap (λ (b : Bool). first_refusal ((not b, InvalidTimezone) ∷ (is_none (language_of tables language), InvalidLanguage) ∷ [])) has_zone

      pub lacks_nothing : (g : Language) → language_of tables language ≡ Some g → notation_refusal w language tables ≡ None
      lacks_nothing g has_language = after_zone ∙ ap (λ (o : Option Language). first_refusal ((is_none o, InvalidLanguage) ∷ [])) has_language
