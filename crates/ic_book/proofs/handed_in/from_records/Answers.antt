use Rattle.std.proofs.Common.{ℕ, List, IfErr, ap, map, refl, sym, subst, ◌∙◌}
use Rattle.ic_tables.specs.Tables.{TableSet}
use Rattle.ic_cells.specs.declared.workbook.Workbook.{Workbook}
use Rattle.ic_sheets.specs.declared.sheet.Sheet.{Sheet as HeldSheet}
use Rattle.ic_workbooks.specs.Asked.{Breaks, HasCount, TellsFirst}
use Rattle.ic_parts.specs.Book.{NotationState}
use Rattle.ic_workbooks.specs.HandedIn.{MeetsAll, SheetCount, scene_of}
use Rattle.ic_workbooks.specs.Numbered.{AreNumbered}
use Rattle.ic_book.specs.declared.model.Model.TheInside.{Inside}
use Rattle.ic_parts.proofs.CellReads.{of_error}
use Rattle.ic_workbooks.proofs.FilledLemmas.{none_looks_up}
use Rattle.ic_workbooks.proofs.FirstLemmas.{breaks_first, met_all, met_none}
use Rattle.ic_book.proofs.HandedInValid.{HoldsRecords, records_held, stands_for}
use Rattle.ic_workbooks.proofs.MeetsLemmas.{count_asked}
use Rattle.ic_book.proofs.handed_in.from_records.Goals as goal

pub returns-in_err-alloc-clause-err : goal.returns-in_err-alloc-clause-err
returns-in_err-alloc-clause-err c =
    let w : Workbook = c.args.workbook.now in
    let tables : TableSet = c.args.tables.now in
    of_error (λ r. IfErr r (TellsFirst w tables)) c.from_residual.result c.from_residual.ensures
    (λ e same.
    breaks_first w tables 0 1 SheetCount (HasCount c.as_slice.result.now) refl refl (λ l m. subst HasCount (sym c.as_slice.ensures) (count_asked w l tables m)) (λ l. met_none w tables l) e
    (subst (Breaks 1 (HasCount c.as_slice.result.now)) (sym same) c.in_err-alloc.ensures))

pub returns-in_err-contents-clause-err : goal.returns-in_err-contents-clause-err
returns-in_err-contents-clause-err c =
    of_error (λ r. IfErr r (TellsFirst c.args.workbook.now c.args.tables.now)) c.from_residual-in_err-contents.result c.from_residual-in_err-contents.ensures
    (λ e same. subst (TellsFirst c.args.workbook.now c.args.tables.now) (sym same) c.in_err-contents.ensures.err)

pub returns-in_err-ask_sheets-clause-err : goal.returns-in_err-ask_sheets-clause-err
returns-in_err-ask_sheets-clause-err c =
    of_error (λ r. IfErr r (TellsFirst c.args.workbook.now c.args.tables.now)) c.from_residual-in_err-ask_sheets.result c.from_residual-in_err-ask_sheets.ensures
    (λ e same. subst (TellsFirst c.args.workbook.now c.args.tables.now) (sym same)
    (c.in_err-ask_sheets.ensures.err c.args.tables.now c.as_slice-numbers.result.now (c.as_slice-sheets.ensures.sheets ∙ c.in_ok-contents.ensures.sheets) c.in_ok-contents.ensures.met))

pub invariant_of-result : goal.invariant_of-result
invariant_of-result c =
    let w : Workbook = c.args.workbook.now in
    let tables : TableSet = c.args.tables.now in
    let numbers : List ℕ = c.as_slice-numbers.result.now in
    let strings : AreNumbered w.shared_strings numbers c.into_strings-strings.result =
    subst (λ (s : List (List ℕ)). AreNumbered w.shared_strings numbers s) (sym c.into_strings-strings.ensures)
    (subst (λ (ns : List ℕ). AreNumbered w.shared_strings ns c.in_ok-numbered.numbered.strings) (sym c.as_slice-numbers.ensures.value)
    (subst (λ (texts : List (List ℕ)). AreNumbered texts c.in_ok-numbered.numbered.numbers.items c.in_ok-numbered.numbered.strings) c.as_slice-texts.ensures c.in_ok-numbered.ensures)) in
    let inside : Inside = record { alloc = c.in_ok-alloc.alloc; notation = c.new.result; contents = c.in_ok-contents.contents; names = c.in_ok-contents.names; lists = record { styles = c.in_ok-styles.styles; strings = c.into_strings-strings.result }; about = c.in_ok-about.about } in
    let holds : HoldsRecords w c.args.language.now.code tables numbers inside = record {
      notation = c.new.ensures ∙ ap (λ (id : List ℕ). let state : NotationState = record { tables = tables; locale = id; language = c.args.language.now.code } in state) c.requires.locale;
      sheets = c.in_ok-contents.ensures.sheets;
      definitions = c.in_ok-contents.ensures.definitions;
      styles = c.in_ok-styles.ensures;
      strings = strings;
      zone = c.args.zone;
      about = c.in_ok-about.ensures;
      in_zone = c.requires.zone;
    } in
    let meets : MeetsAll w c.args.language.now.code tables =
    met_all w c.args.language.now.code tables
    (c.in_ok-ask_sheets.ensures.met tables numbers (c.as_slice-sheets.ensures.sheets ∙ c.in_ok-contents.ensures.sheets) c.in_ok-contents.ensures.met c.args.language.now.code) in
    record {
      book = records_held w c.args.language.now.code tables numbers inside holds meets c.requires.well_formed c.requires.free;
      names = c.in_ok-contents.ensures.indexed;
    }

pub returns-clause-ok : goal.returns-clause-ok
returns-clause-ok c =
    let w : Workbook = c.args.workbook.now in
    let tables : TableSet = c.args.tables.now in
    let numbers : List ℕ = c.as_slice-numbers.result.now in
    let strings : AreNumbered w.shared_strings numbers c.into_strings-strings.result =
    subst (λ (s : List (List ℕ)). AreNumbered w.shared_strings numbers s) (sym c.into_strings-strings.ensures)
    (subst (λ (ns : List ℕ). AreNumbered w.shared_strings ns c.in_ok-numbered.numbered.strings) (sym c.as_slice-numbers.ensures.value)
    (subst (λ (texts : List (List ℕ)). AreNumbered texts c.in_ok-numbered.numbered.numbers.items c.in_ok-numbered.numbered.strings) c.as_slice-texts.ensures c.in_ok-numbered.ensures)) in
    let inside : Inside = record { alloc = c.in_ok-alloc.alloc; notation = c.new.result; contents = c.in_ok-contents.contents; names = c.in_ok-contents.names; lists = record { styles = c.in_ok-styles.styles; strings = c.into_strings-strings.result }; about = c.in_ok-about.about } in
    let holds : HoldsRecords w c.args.language.now.code tables numbers inside = record {
      notation = c.new.ensures ∙ ap (λ (id : List ℕ). let state : NotationState = record { tables = tables; locale = id; language = c.args.language.now.code } in state) c.requires.locale;
      sheets = c.in_ok-contents.ensures.sheets;
      definitions = c.in_ok-contents.ensures.definitions;
      styles = c.in_ok-styles.ensures;
      strings = strings;
      zone = c.args.zone;
      about = c.in_ok-about.ensures;
      in_zone = c.requires.zone;
    } in
    let meets : MeetsAll w c.args.language.now.code tables =
    met_all w c.args.language.now.code tables
    (c.in_ok-ask_sheets.ensures.met tables numbers (c.as_slice-sheets.ensures.sheets ∙ c.in_ok-contents.ensures.sheets) c.in_ok-contents.ensures.met c.args.language.now.code) in
    stands_for w c.args.language.now.code tables numbers inside holds meets

pub returns-clause-met : goal.returns-clause-met
returns-clause-met c =
    let w : Workbook = c.args.workbook.now in
    let tables : TableSet = c.args.tables.now in
    met_all w c.args.language.now.code tables
    (c.in_ok-ask_sheets.ensures.met tables c.as_slice-numbers.result.now (c.as_slice-sheets.ensures.sheets ∙ c.in_ok-contents.ensures.sheets) c.in_ok-contents.ensures.met c.args.language.now.code)

pub returns-clause-looks_up : goal.returns-clause-looks_up
returns-clause-looks_up c =
    ap (map (λ (x : HeldSheet). x.pool.is_whole)) c.in_ok-contents.ensures.sheets
    ∙ none_looks_up c.args.tables.now (scene_of c.args.workbook.now) c.as_slice-numbers.result.now c.args.workbook.now.worksheets
