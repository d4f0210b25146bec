use Rattle.std.proofs.Common.{List, IfErr, ap, map, refl, sym, subst, ◌∙◌}
use Rattle.std.specs.List.{AllByRecursion}
use Rattle.ic_tables.specs.Tables.{TableSet}
use Rattle.ic_cells.specs.declared.sheet.Worksheet.{Worksheet}
use Rattle.ic_cells.specs.declared.workbook.DefinedName.{DefinedName}
use Rattle.ic_cells.specs.declared.workbook.Workbook.{Workbook}
use Rattle.ic_sheets.specs.Records.{started}
use Rattle.ic_workbooks.specs.Asked.{Breaks, TellsFirst, unread}
use Rattle.ic_workbooks.specs.Filled.{FillsDefinitions, FillsSheets, HasBodyText, HasSheetTexts, contents_scene}
use Rattle.ic_workbooks.specs.HandedIn.{Texts}
use Rattle.ic_parts.specs.declared.contents.Contents.{Contents}
use Rattle.ic_workbooks.proofs.AskedSheets.{to_texts}
use Rattle.ic_parts.proofs.CellReads.{of_error}
use Rattle.ic_workbooks.proofs.FilledLemmas.{bodies_asked, bodies_read, defined_scene, definitions_are, filled_scene, sheets_are, sheets_asked, sheets_read}
use Rattle.ic_workbooks.proofs.FirstLemmas.{breaks_first}
use Rattle.ic_workbooks.proofs.NameIndexLemmas.{indexed_scene}
use Rattle.ic_workbooks.proofs.handed_in.contents_of.Goals as goal

pub returns-in_err-contents-clause-err : goal.returns-in_err-contents-clause-err
returns-in_err-contents-clause-err c =
    of_error (λ r. IfErr r (TellsFirst c.args.workbook.now c.args.tables.now)) c.from_residual.result c.from_residual.ensures
    (λ e same. subst (TellsFirst c.args.workbook.now c.args.tables.now) (sym same) (c.in_err-contents.ensures.err c.args.tables.now))

pub fill_sheets-requires-clause-started : goal.fill_sheets-requires-clause-started
fill_sheets-requires-clause-started c = c.in_ok-contents.ensures.sheets ∙ ap (map started) (sym c.as_slice-worksheets.ensures)

pub returns-in_err-fill_sheets-clause-err : goal.returns-in_err-fill_sheets-clause-err
returns-in_err-fill_sheets-clause-err c =
    let w : Workbook = c.args.workbook.now in
    let tables : TableSet = c.args.tables.now in
    let before : Contents = c.in_ok-contents.contents in
    of_error (λ r. IfErr r (TellsFirst w tables)) c.from_residual-in_err-fill_sheets.result c.from_residual-in_err-fill_sheets.ensures
    (λ e same.
    breaks_first w tables 4 5 Texts (AllByRecursion (HasSheetTexts tables (contents_scene before)) w.worksheets) refl refl
    (λ l m. sheets_asked w tables c.args.numbers.now before c.in_ok-contents.ensures.sheets c.in_ok-contents.ensures.definitions m.sheets) (λ l. c.in_ok-contents.ensures.met l tables) e
    (subst (λ (ws : List Worksheet). Breaks 5 (AllByRecursion (HasSheetTexts tables (contents_scene before)) ws) e) c.as_slice-worksheets.ensures
    (subst (Breaks 5 (AllByRecursion (HasSheetTexts tables (contents_scene before)) c.as_slice-worksheets.result.now)) (sym same) c.in_err-fill_sheets.ensures)))

pub fill_definitions-requires-clause-unread : goal.fill_definitions-requires-clause-unread
fill_definitions-requires-clause-unread c = c.in_ok-fill_sheets.ensures.definitions ∙ c.in_ok-contents.ensures.definitions ∙ ap (map unread) (sym c.as_slice-records.ensures)

pub fill_definitions-requires-clause-indexed : goal.fill_definitions-requires-clause-indexed
fill_definitions-requires-clause-indexed c =
    let w : Workbook = c.args.workbook.now in
    let tables : TableSet = c.args.tables.now in
    let c0 : Contents = c.in_ok-contents.contents in
    let c1 : Contents = c.fill_sheets.new.contents in
    let first : FillsSheets tables c.args.numbers.now w.worksheets c0 c1 = subst (λ (ws : List Worksheet). FillsSheets tables c.args.numbers.now ws c0 c1) c.as_slice-worksheets.ensures c.in_ok-fill_sheets.ensures in
    indexed_scene c.in_ok-contents.names c0 c1 c.in_ok-contents.ensures.indexed (filled_scene w tables c.args.numbers.now c0 c1 c.in_ok-contents.ensures.sheets first)

pub returns-in_err-fill_definitions-clause-err : goal.returns-in_err-fill_definitions-clause-err
returns-in_err-fill_definitions-clause-err c =
    let w : Workbook = c.args.workbook.now in
    let tables : TableSet = c.args.tables.now in
    let c0 : Contents = c.in_ok-contents.contents in
    let c1 : Contents = c.fill_sheets.new.contents in
    let first : FillsSheets tables c.args.numbers.now w.worksheets c0 c1 = subst (λ (ws : List Worksheet). FillsSheets tables c.args.numbers.now ws c0 c1) c.as_slice-worksheets.ensures c.in_ok-fill_sheets.ensures in
    of_error (λ r. IfErr r (TellsFirst w tables)) c.from_residual-in_err-fill_definitions.result c.from_residual-in_err-fill_definitions.ensures
    (λ e same.
    breaks_first w tables 4 5 Texts (AllByRecursion (HasBodyText tables (contents_scene c1)) w.defined_names) refl refl
    (λ l m. bodies_asked w tables c.args.numbers.now c0 c1 c.in_ok-contents.ensures.sheets c.in_ok-contents.ensures.definitions first m.bodies) (λ l. c.in_ok-contents.ensures.met l tables) e
    (subst (λ (ds : List DefinedName). Breaks 5 (AllByRecursion (HasBodyText tables (contents_scene c1)) ds) e) c.as_slice-records.ensures
    (subst (Breaks 5 (AllByRecursion (HasBodyText tables (contents_scene c1)) c.as_slice-records.result.now)) (sym same) c.in_err-fill_definitions.ensures)))

pub returns-clause-sheets : goal.returns-clause-sheets
returns-clause-sheets c =
    let w : Workbook = c.args.workbook.now in
    let tables : TableSet = c.args.tables.now in
    let c0 : Contents = c.in_ok-contents.contents in
    let c1 : Contents = c.fill_sheets.new.contents in
    let first : FillsSheets tables c.args.numbers.now w.worksheets c0 c1 = subst (λ (ws : List Worksheet). FillsSheets tables c.args.numbers.now ws c0 c1) c.as_slice-worksheets.ensures c.in_ok-fill_sheets.ensures in
    c.in_ok-fill_definitions.ensures.sheets ∙ sheets_are w tables c.args.numbers.now c0 c1 c.in_ok-contents.ensures.sheets c.in_ok-contents.ensures.definitions first

pub returns-clause-definitions : goal.returns-clause-definitions
returns-clause-definitions c =
    let w : Workbook = c.args.workbook.now in
    let tables : TableSet = c.args.tables.now in
    let c0 : Contents = c.in_ok-contents.contents in
    let c1 : Contents = c.fill_sheets.new.contents in
    let c2 : Contents = c.fill_definitions.new.contents in
    let first : FillsSheets tables c.args.numbers.now w.worksheets c0 c1 = subst (λ (ws : List Worksheet). FillsSheets tables c.args.numbers.now ws c0 c1) c.as_slice-worksheets.ensures c.in_ok-fill_sheets.ensures in
    let second : FillsDefinitions tables w.defined_names c1 c2 = subst (λ (ds : List DefinedName). FillsDefinitions tables ds c1 c2) c.as_slice-records.ensures c.in_ok-fill_definitions.ensures in
    definitions_are w tables c.args.numbers.now c0 c1 c.in_ok-contents.ensures.sheets c.in_ok-contents.ensures.definitions first c2 second

pub returns-clause-met : goal.returns-clause-met
returns-clause-met c = λ l.
    let w : Workbook = c.args.workbook.now in
    let tables : TableSet = c.args.tables.now in
    let c0 : Contents = c.in_ok-contents.contents in
    let c1 : Contents = c.fill_sheets.new.contents in
    let c2 : Contents = c.fill_definitions.new.contents in
    let first : FillsSheets tables c.args.numbers.now w.worksheets c0 c1 = subst (λ (ws : List Worksheet). FillsSheets tables c.args.numbers.now ws c0 c1) c.as_slice-worksheets.ensures c.in_ok-fill_sheets.ensures in
    let second : FillsDefinitions tables w.defined_names c1 c2 = subst (λ (ds : List DefinedName). FillsDefinitions tables ds c1 c2) c.as_slice-records.ensures c.in_ok-fill_definitions.ensures in
    to_texts w tables l (c.in_ok-contents.ensures.met l tables)
    (sheets_read w tables c.args.numbers.now c0 c1 c.in_ok-contents.ensures.sheets c.in_ok-contents.ensures.definitions first)
    (bodies_read w tables c.args.numbers.now c0 c1 c.in_ok-contents.ensures.sheets c.in_ok-contents.ensures.definitions first c2 second)

pub returns-clause-indexed : goal.returns-clause-indexed
returns-clause-indexed c =
    let w : Workbook = c.args.workbook.now in
    let tables : TableSet = c.args.tables.now in
    let c0 : Contents = c.in_ok-contents.contents in
    let c1 : Contents = c.fill_sheets.new.contents in
    let c2 : Contents = c.fill_definitions.new.contents in
    let first : FillsSheets tables c.args.numbers.now w.worksheets c0 c1 = subst (λ (ws : List Worksheet). FillsSheets tables c.args.numbers.now ws c0 c1) c.as_slice-worksheets.ensures c.in_ok-fill_sheets.ensures in
    let second : FillsDefinitions tables w.defined_names c1 c2 = subst (λ (ds : List DefinedName). FillsDefinitions tables ds c1 c2) c.as_slice-records.ensures c.in_ok-fill_definitions.ensures in
    indexed_scene c.in_ok-contents.names c1 c2 (indexed_scene c.in_ok-contents.names c0 c1 c.in_ok-contents.ensures.indexed (filled_scene w tables c.args.numbers.now c0 c1 c.in_ok-contents.ensures.sheets first))
    (defined_scene w tables c.args.numbers.now c1 c2 (first.definitions ∙ c.in_ok-contents.ensures.definitions) second)
