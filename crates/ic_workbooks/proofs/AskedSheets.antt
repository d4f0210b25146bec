-- The conditions from the fifth on, by what steps ask of the records and of the sheets that they make, and by the book that
-- the records stand for.
use Rattle.std.proofs.Common.{ℕ, List, [], ◌∷◌, Option, Some, None, map, length, refl, sym, subst}
use Rattle.std.specs.List.{AllByRecursion}
use Rattle.ic_tables.specs.Tables.{TableSet}
use Rattle.ic_cells.specs.Style.{AreStyles}
use Rattle.ic_cells.specs.declared.sheet.Worksheet.{Worksheet}
use Rattle.ic_cells.specs.declared.workbook.Workbook.{Workbook}
use Rattle.ic_grid.specs.Conditions.{AreArrays, AreInSheet, AreMerges}
use Rattle.ic_grid.specs.Conditions as grid
use Rattle.ic_grid.specs.Shape.{celled}
use Rattle.ic_machine.proofs.contents.AlikeGrid.{arrays_held, inside_held, merges_held}
use Rattle.ic_machine.proofs.contents.AlikeLemmas.{cells_are_contents}
use Rattle.ic_machine.specs.Book as machine
use Rattle.ic_machine.specs.Content.{content_of, held}
use Rattle.ic_machine.specs.Valid as valid
use Rattle.ic_sheets.specs.declared.sheet.Sheet.{Sheet as HeldSheet}
use Rattle.ic_workbooks.specs.Asked.{MeetsTo, TellsFirst}
use Rattle.ic_workbooks.specs.Filled.{AreFilled, HasBodyText, HasSheetTexts, IsMet, filled}
use Rattle.ic_workbooks.specs.HandedIn.{Arrays, Formulas, HasFormulas, HasStrings, Layout, Meets, Merges, Places, Strings, Styles, Texts, scene_of, sheet_of}
use Rattle.ic_workbooks.specs.Numbered.{renumbered}
use Rattle.ic_workbooks.specs.declared.asked.sheets.SheetCondition.{SheetCondition}
use Rattle.ic_workbooks.specs.declared.asked.sheets.SheetCondition.TheVariants as conditions
use Rattle.ic_parts.specs.declared.error.BookError.{BookError}
use Rattle.ic_workbooks.proofs.FirstLemmas.{met_next}
use Rattle.ic_workbooks.proofs.ReferLemmas.{formulas_numbered, formulas_seen}
use Rattle.ic_workbooks.proofs.SeenGrids.{arrays_seen, inside_seen, merges_seen, numbered_alike, styles_held, styles_seen}

-- ---- one by one

number_is : (count : ℕ) (o : Option ℕ) → grid.IsStyleNumber count o → valid.IsStyleNumber count o
number_is count None h = tt
number_is count (Some n) h = h

number_was : (count : ℕ) (o : Option ℕ) → valid.IsStyleNumber count o → grid.IsStyleNumber count o
number_was count None h = tt
number_was count (Some n) h = h

-- what an error of the steps on sheets tells of a workbook that meets what was asked before
abbrev pub SheetsTell : Workbook → List HeldSheet → BookError → Type 0
SheetsTell w sheets e = (tables : TableSet) → (numbers : List ℕ) → AreFilled w tables numbers sheets → ((language : List ℕ) → MeetsTo 5 w language tables) → TellsFirst w tables e

module _ {W S M : Type 0} (f : W → S) (g : W → M) (P : S → Type 0) (Q : M → Type 0) where
  -- what holds of each of these holds of each of those
  all_over : ((w : W) → P (f w) → Q (g w)) → (ws : List W) → AllByRecursion P (map f ws) → AllByRecursion Q (map g ws)
  all_over so [] h = tt
  all_over so (w ∷ ws) h = (so w h.0, all_over so ws h.1)

-- ---- a sheet

module _ (w : Workbook) (tables : TableSet) (numbers : List ℕ) where
  abbrev made : Worksheet → HeldSheet
  made = filled tables (scene_of w) numbers

  abbrev there : Worksheet → machine.Sheet
  there = sheet_of w tables

  abbrev texts : List (List ℕ)
  texts = w.shared_strings

  -- its cells lie in it
  places_there : (s : Worksheet) → IsMet conditions.Places w.styles (made s) → AreInSheet held (there s).grid.contents
  places_there s h =
      inside_seen (content_of texts) celled held (cells_are_contents texts) s.cells (inside_held (renumbered numbers) celled celled (numbered_alike numbers) s.cells h)

  places_back : (s : Worksheet) → AreInSheet held (there s).grid.contents → IsMet conditions.Places w.styles (made s)
  places_back s h =
      inside_seen (renumbered numbers) celled celled (numbered_alike numbers) s.cells (inside_held (content_of texts) celled held (cells_are_contents texts) s.cells h)

  -- its formulas
  formulas_there : (s : Worksheet) → IsMet conditions.Formulas w.styles (made s) → HasFormulas (there s)
  formulas_there s h = (formulas_seen texts (there s).pool s.cells (there s) refl refl).0 ((formulas_numbered numbers (there s).pool s.cells).0 h)

  formulas_back : (s : Worksheet) → HasFormulas (there s) → IsMet conditions.Formulas w.styles (made s)
  formulas_back s h = (formulas_numbered numbers (there s).pool s.cells).1 ((formulas_seen texts (there s).pool s.cells (there s) refl refl).1 h)

  -- its styles
  styles_there : (s : Worksheet) → IsMet conditions.Styles w.styles (made s) → valid.HasGridStyles (length w.styles) (there s).grid
  styles_there s h = record {
    contents = styles_seen (content_of texts) celled held (cells_are_contents texts) s.cells (length w.styles)
        (styles_held (renumbered numbers) celled celled (numbered_alike numbers) s.cells (length w.styles) h.contents);
    rows = λ row props at. number_is (length w.styles) props.style (h.rows row props at);
    columns = λ column props at. number_is (length w.styles) props.style (h.columns column props at);
  }

  styles_back : (s : Worksheet) → valid.HasGridStyles (length w.styles) (there s).grid → IsMet conditions.Styles w.styles (made s)
  styles_back s h = record {
    contents = styles_seen (renumbered numbers) celled celled (numbered_alike numbers) s.cells (length w.styles)
        (styles_held (content_of texts) celled held (cells_are_contents texts) s.cells (length w.styles) h.contents);
    rows = λ row props at. number_was (length w.styles) props.style (h.rows row props at);
    columns = λ column props at. number_was (length w.styles) props.style (h.columns column props at);
  }

  -- its arrays
  arrays_there : (s : Worksheet) → IsMet conditions.Arrays w.styles (made s) → AreArrays held (there s).grid.contents
  arrays_there s h =
      arrays_seen (content_of texts) celled held (cells_are_contents texts) s.cells (arrays_held (renumbered numbers) celled celled (numbered_alike numbers) s.cells h)

  arrays_back : (s : Worksheet) → AreArrays held (there s).grid.contents → IsMet conditions.Arrays w.styles (made s)
  arrays_back s h =
      arrays_seen (renumbered numbers) celled celled (numbered_alike numbers) s.cells (arrays_held (content_of texts) celled held (cells_are_contents texts) s.cells h)

  -- its merged cells
  merges_there : (s : Worksheet) → IsMet conditions.Merges w.styles (made s) → AreMerges held (there s).grid.contents s.merged_cells
  merges_there s h =
      merges_seen (content_of texts) celled held (cells_are_contents texts) s.cells s.merged_cells
      (merges_held (renumbered numbers) celled celled (numbered_alike numbers) s.cells s.merged_cells h)

  merges_back : (s : Worksheet) → AreMerges held (there s).grid.contents s.merged_cells → IsMet conditions.Merges w.styles (made s)
  merges_back s h =
      merges_seen (renumbered numbers) celled celled (numbered_alike numbers) s.cells s.merged_cells
      (merges_held (content_of texts) celled held (cells_are_contents texts) s.cells s.merged_cells h)

  -- its rows and columns
  layout_there : (s : Worksheet) → IsMet conditions.Layout w.styles (made s) → valid.HasLayout (there s)
  layout_there s h = record { frozen = h.frozen; lines = record { rows = h.lines.rows; columns = h.lines.columns } }

  layout_back : (s : Worksheet) → valid.HasLayout (there s) → IsMet conditions.Layout w.styles (made s)
  layout_back s h = record { frozen = h.frozen; lines = record { rows = h.lines.rows; columns = h.lines.columns } }

  -- ---- all sheets

  module _ (sheets : List HeldSheet) (are : AreFilled w tables numbers sheets) (language : List ℕ) where
    abbrev AllMet : SheetCondition → Type 0
    AllMet condition = AllByRecursion (IsMet condition w.styles) sheets

    of_made : (condition : SheetCondition) → AllMet condition → AllByRecursion (IsMet condition w.styles) (map made w.worksheets)
    of_made condition h = subst (AllByRecursion (IsMet condition w.styles)) are h

    to_made : (condition : SheetCondition) → AllByRecursion (IsMet condition w.styles) (map made w.worksheets) → AllMet condition
    to_made condition h = subst (AllByRecursion (IsMet condition w.styles)) (sym are) h

    places_met : AllMet conditions.Places → Meets w language tables Places
    places_met h = all_over made there (IsMet conditions.Places w.styles) (λ (s : machine.Sheet). AreInSheet held s.grid.contents) places_there w.worksheets (of_made conditions.Places h)

    pub places_asked : Meets w language tables Places → AllMet conditions.Places
    places_asked h = to_made conditions.Places (all_over there made (λ (s : machine.Sheet). AreInSheet held s.grid.contents) (IsMet conditions.Places w.styles) places_back w.worksheets h)

    formulas_met : AllMet conditions.Formulas → Meets w language tables Formulas
    formulas_met h = all_over made there (IsMet conditions.Formulas w.styles) HasFormulas formulas_there w.worksheets (of_made conditions.Formulas h)

    pub formulas_asked : Meets w language tables Formulas → AllMet conditions.Formulas
    formulas_asked h = to_made conditions.Formulas (all_over there made HasFormulas (IsMet conditions.Formulas w.styles) formulas_back w.worksheets h)

    styles_met : AreStyles w.styles → AllMet conditions.Styles → Meets w language tables Styles
    styles_met styles h = record {
      styles = styles;
      numbers = all_over made there (IsMet conditions.Styles w.styles) (λ (s : machine.Sheet). valid.HasGridStyles (length w.styles) s.grid) styles_there w.worksheets (of_made conditions.Styles h);
    }

    pub styles_asked : Meets w language tables Styles → AllMet conditions.Styles
    styles_asked h = to_made conditions.Styles (all_over there made (λ (s : machine.Sheet). valid.HasGridStyles (length w.styles) s.grid) (IsMet conditions.Styles w.styles) styles_back w.worksheets h.numbers)

    arrays_met : AllMet conditions.Arrays → Meets w language tables Arrays
    arrays_met h = all_over made there (IsMet conditions.Arrays w.styles) (λ (s : machine.Sheet). AreArrays held s.grid.contents) arrays_there w.worksheets (of_made conditions.Arrays h)

    pub arrays_asked : Meets w language tables Arrays → AllMet conditions.Arrays
    arrays_asked h = to_made conditions.Arrays (all_over there made (λ (s : machine.Sheet). AreArrays held s.grid.contents) (IsMet conditions.Arrays w.styles) arrays_back w.worksheets h)

    merges_met : AllMet conditions.Merges → Meets w language tables Merges
    merges_met h = all_over made there (IsMet conditions.Merges w.styles) (λ (s : machine.Sheet). AreMerges held s.grid.contents s.grid.merges) merges_there w.worksheets (of_made conditions.Merges h)

    pub merges_asked : Meets w language tables Merges → AllMet conditions.Merges
    merges_asked h = to_made conditions.Merges (all_over there made (λ (s : machine.Sheet). AreMerges held s.grid.contents s.grid.merges) (IsMet conditions.Merges w.styles) merges_back w.worksheets h)

    layout_met : AllMet conditions.Layout → Meets w language tables Layout
    layout_met h = all_over made there (IsMet conditions.Layout w.styles) valid.HasLayout layout_there w.worksheets (of_made conditions.Layout h)

    pub layout_asked : Meets w language tables Layout → AllMet conditions.Layout
    layout_asked h = to_made conditions.Layout (all_over there made valid.HasLayout (IsMet conditions.Layout w.styles) layout_back w.worksheets h)

    -- one condition after another

    pub to_places : MeetsTo 5 w language tables → AllMet conditions.Places → MeetsTo 6 w language tables
    to_places before h = met_next w tables language 5 6 Places refl refl before (places_met h)

    pub to_formulas : MeetsTo 6 w language tables → AllMet conditions.Formulas → MeetsTo 7 w language tables
    to_formulas before h = met_next w tables language 6 7 Formulas refl refl before (formulas_met h)

    pub to_strings : MeetsTo 7 w language tables → AllByRecursion (HasStrings (length w.shared_strings)) w.worksheets → MeetsTo 8 w language tables
    to_strings before h = met_next w tables language 7 8 Strings refl refl before h

    pub to_styles : MeetsTo 8 w language tables → AreStyles w.styles → AllMet conditions.Styles → MeetsTo 9 w language tables
    to_styles before styles h = met_next w tables language 8 9 Styles refl refl before (styles_met styles h)

    pub to_arrays : MeetsTo 9 w language tables → AllMet conditions.Arrays → MeetsTo 10 w language tables
    to_arrays before h = met_next w tables language 9 10 Arrays refl refl before (arrays_met h)

    pub to_merges : MeetsTo 10 w language tables → AllMet conditions.Merges → MeetsTo 11 w language tables
    to_merges before h = met_next w tables language 10 11 Merges refl refl before (merges_met h)

    pub to_layout : MeetsTo 11 w language tables → AllMet conditions.Layout → MeetsTo 12 w language tables
    to_layout before h = met_next w tables language 11 12 Layout refl refl before (layout_met h)

-- ---- texts

module _ (w : Workbook) (tables : TableSet) (language : List ℕ) where
  pub to_texts : MeetsTo 4 w language tables → AllByRecursion (HasSheetTexts tables (scene_of w)) w.worksheets → AllByRecursion (HasBodyText tables (scene_of w)) w.defined_names → MeetsTo 5 w language tables
  to_texts before sheets bodies = met_next w tables language 4 5 Texts refl refl before (record { sheets = sheets; bodies = bodies })
