use Rattle.std.proofs.Common.{IfErr, refl, sym, subst}
use Rattle.ic_tables.specs.Tables.{TableSet}
use Rattle.ic_cells.specs.declared.workbook.Workbook.{Workbook}
use Rattle.ic_sheets.specs.Records.{HasIds}
use Rattle.ic_workbooks.specs.Asked.{AreDefined, Breaks, HasCount, HasNames, TellsFirst}
use Rattle.ic_workbooks.specs.HandedIn.{Definitions, SheetCount, SheetIds, SheetNames}
use Rattle.ic_parts.proofs.CellReads.{of_error}
use Rattle.ic_workbooks.proofs.FirstLemmas.{breaks_first, met_next, met_none}
use Rattle.ic_workbooks.proofs.MeetsLemmas.{count_asked, count_met, definitions_asked, definitions_met, ids_asked, ids_met, names_asked, names_met}
use Rattle.ic_workbooks.proofs.asked.ask_contents.Goals as goal

pub returns-in_err-ask_count-clause-err : goal.returns-in_err-ask_count-clause-err
returns-in_err-ask_count-clause-err c =
    let w : Workbook = c.args.workbook.now in
    of_error (λ r. IfErr r (λ e. (tables : TableSet) → TellsFirst w tables e)) c.from_residual.result c.from_residual.ensures
    (λ e same tables.
    breaks_first w tables 0 1 SheetCount (HasCount c.as_slice-worksheets.result.now) refl refl (λ l m. subst HasCount (sym c.as_slice-worksheets.ensures) (count_asked w l tables m)) (λ l. met_none w tables l) e
    (subst (Breaks 1 (HasCount c.as_slice-worksheets.result.now)) (sym same) c.in_err-ask_count.ensures))

pub returns-in_err-ask_names-clause-err : goal.returns-in_err-ask_names-clause-err
returns-in_err-ask_names-clause-err c =
    let w : Workbook = c.args.workbook.now in
    of_error (λ r. IfErr r (λ e. (tables : TableSet) → TellsFirst w tables e)) c.from_residual-in_err-ask_names.result c.from_residual-in_err-ask_names.ensures
    (λ e same tables.
    breaks_first w tables 1 2 SheetNames (HasNames c.as_slice-worksheets.result.now) refl refl (λ l m. subst HasNames (sym c.as_slice-worksheets.ensures) (names_asked w l tables m)) (λ l. met_next w tables l 0 1 SheetCount refl refl (met_none w tables l) (count_met w l tables (subst HasCount c.as_slice-worksheets.ensures c.in_ok-ask_count.ensures))) e
    (subst (Breaks 2 (HasNames c.as_slice-worksheets.result.now)) (sym same) c.in_err-ask_names.ensures))

pub returns-in_err-sheets-clause-err : goal.returns-in_err-sheets-clause-err
returns-in_err-sheets-clause-err c =
    let w : Workbook = c.args.workbook.now in
    of_error (λ r. IfErr r (λ e. (tables : TableSet) → TellsFirst w tables e)) c.from_residual-in_err-sheets.result c.from_residual-in_err-sheets.ensures
    (λ e same tables.
    breaks_first w tables 2 3 SheetIds (HasIds c.as_slice-worksheets.result.now) refl refl (λ l m. subst HasIds (sym c.as_slice-worksheets.ensures) (ids_asked w l tables m)) (λ l. met_next w tables l 1 2 SheetNames refl refl (met_next w tables l 0 1 SheetCount refl refl (met_none w tables l) (count_met w l tables (subst HasCount c.as_slice-worksheets.ensures c.in_ok-ask_count.ensures))) (names_met w l tables (subst HasNames c.as_slice-worksheets.ensures c.in_ok-ask_names.ensures))) e
    (subst (Breaks 3 (HasIds c.as_slice-worksheets.result.now)) (sym same) c.in_err-sheets.ensures))

pub returns-in_err-definitions-clause-err : goal.returns-in_err-definitions-clause-err
returns-in_err-definitions-clause-err c =
    let w : Workbook = c.args.workbook.now in
    of_error (λ r. IfErr r (λ e. (tables : TableSet) → TellsFirst w tables e)) c.from_residual-in_err-definitions.result c.from_residual-in_err-definitions.ensures
    (λ e same tables.
    breaks_first w tables 3 4 Definitions (AreDefined c.as_slice.result.now) refl refl (λ l m. subst AreDefined (sym c.as_slice.ensures) (definitions_asked w l tables m)) (λ l. met_next w tables l 2 3 SheetIds refl refl (met_next w tables l 1 2 SheetNames refl refl (met_next w tables l 0 1 SheetCount refl refl (met_none w tables l) (count_met w l tables (subst HasCount c.as_slice-worksheets.ensures c.in_ok-ask_count.ensures))) (names_met w l tables (subst HasNames c.as_slice-worksheets.ensures c.in_ok-ask_names.ensures))) (ids_met w l tables (subst HasIds c.as_slice-worksheets.ensures c.in_ok-sheets.ensures.0))) e
    (subst (Breaks 4 (AreDefined c.as_slice.result.now)) (sym same) c.in_err-definitions.ensures))

pub returns-clause-met : goal.returns-clause-met
returns-clause-met c = λ l tables.
    let w : Workbook = c.args.workbook.now in
    met_next w tables l 3 4 Definitions refl refl (met_next w tables l 2 3 SheetIds refl refl (met_next w tables l 1 2 SheetNames refl refl (met_next w tables l 0 1 SheetCount refl refl (met_none w tables l) (count_met w l tables (subst HasCount c.as_slice-worksheets.ensures c.in_ok-ask_count.ensures))) (names_met w l tables (subst HasNames c.as_slice-worksheets.ensures c.in_ok-ask_names.ensures))) (ids_met w l tables (subst HasIds c.as_slice-worksheets.ensures c.in_ok-sheets.ensures.0))) (definitions_met w l tables (subst AreDefined c.as_slice.ensures c.in_ok-definitions.ensures.0))

pub returns-clause-indexed : goal.returns-clause-indexed
returns-clause-indexed c = record { sheets = c.in_ok-sheets.ensures.2; names = c.in_ok-definitions.ensures.2; numbers = c.new.ensures _ }
