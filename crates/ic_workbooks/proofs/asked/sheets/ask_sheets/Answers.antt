use Rattle.std.proofs.Common.{ℕ, List, IfErr, length, refl, sym, subst}
use Rattle.std.specs.List.{AllByRecursion}
use Rattle.ic_cells.specs.declared.workbook.Workbook.{Workbook}
use Rattle.ic_sheets.specs.declared.sheet.Sheet.{Sheet as HeldSheet}
use Rattle.ic_workbooks.specs.Asked.{Breaks, MeetsTo}
use Rattle.ic_workbooks.specs.Filled.{IsMet}
use Rattle.ic_workbooks.specs.HandedIn.{Arrays, Formulas, HasStrings, Layout, Merges, Places, Strings, Styles}
use Rattle.ic_workbooks.specs.declared.asked.sheets.SheetCondition.TheVariants as conditions
use Rattle.ic_workbooks.proofs.AskedSheets.{SheetsTell, arrays_asked, formulas_asked, layout_asked, merges_asked, places_asked, styles_asked, to_arrays, to_formulas, to_layout, to_merges, to_places, to_strings, to_styles}
use Rattle.ic_parts.proofs.CellReads.{of_error}
use Rattle.ic_workbooks.proofs.FirstLemmas.{breaks_first}
use Rattle.ic_workbooks.proofs.asked.sheets.ask_sheets.Goals as goal

pub returns-in_err-ask_each-clause-err : goal.returns-in_err-ask_each-clause-err
returns-in_err-ask_each-clause-err c =
    let w : Workbook = c.args.workbook.now in
    let sheets : List HeldSheet = c.args.sheets.now in
    of_error (λ r. IfErr r (SheetsTell w sheets)) c.from_residual.result c.from_residual.ensures
    (λ e same tables numbers are before.
    breaks_first w tables 5 6 Places (AllByRecursion (IsMet conditions.Places w.styles) sheets) refl refl (λ l m. places_asked w tables numbers sheets are l m) before e
    (subst (Breaks 6 (AllByRecursion (IsMet conditions.Places w.styles) sheets)) (sym same) c.in_err-ask_each.ensures))

pub returns-in_err-ask_each-2-clause-err : goal.returns-in_err-ask_each-2-clause-err
returns-in_err-ask_each-2-clause-err c =
    let w : Workbook = c.args.workbook.now in
    let sheets : List HeldSheet = c.args.sheets.now in
    of_error (λ r. IfErr r (SheetsTell w sheets)) c.from_residual-in_err-ask_each-2.result c.from_residual-in_err-ask_each-2.ensures
    (λ e same tables numbers are before.
    let to6 : (l : List ℕ) → MeetsTo 6 w l tables = λ l. to_places w tables numbers sheets are l (before l) c.in_ok-ask_each.ensures in
    breaks_first w tables 6 7 Formulas (AllByRecursion (IsMet conditions.Formulas w.styles) sheets) refl refl (λ l m. formulas_asked w tables numbers sheets are l m) to6 e
    (subst (Breaks 7 (AllByRecursion (IsMet conditions.Formulas w.styles) sheets)) (sym same) c.in_err-ask_each-2.ensures))

pub returns-in_err-ask_strings-clause-err : goal.returns-in_err-ask_strings-clause-err
returns-in_err-ask_strings-clause-err c =
    let w : Workbook = c.args.workbook.now in
    let sheets : List HeldSheet = c.args.sheets.now in
    of_error (λ r. IfErr r (SheetsTell w sheets)) c.from_residual-in_err-ask_strings.result c.from_residual-in_err-ask_strings.ensures
    (λ e same tables numbers are before.
    let to6 : (l : List ℕ) → MeetsTo 6 w l tables = λ l. to_places w tables numbers sheets are l (before l) c.in_ok-ask_each.ensures in
    let to7 : (l : List ℕ) → MeetsTo 7 w l tables = λ l. to_formulas w tables numbers sheets are l (to6 l) c.in_ok-ask_each-2.ensures in
    breaks_first w tables 7 8 Strings (AllByRecursion (HasStrings c.len.result) c.as_slice-worksheets.result.now) refl refl (λ l m. subst (λ (n : ℕ). AllByRecursion (HasStrings n) c.as_slice-worksheets.result.now) (sym c.len.ensures) (subst (AllByRecursion (HasStrings (length w.shared_strings))) (sym c.as_slice-worksheets.ensures) m)) to7 e
    (subst (Breaks 8 (AllByRecursion (HasStrings c.len.result) c.as_slice-worksheets.result.now)) (sym same) c.in_err-ask_strings.ensures))

pub returns-in_err-ask_styles-clause-err : goal.returns-in_err-ask_styles-clause-err
returns-in_err-ask_styles-clause-err c =
    let w : Workbook = c.args.workbook.now in
    let sheets : List HeldSheet = c.args.sheets.now in
    of_error (λ r. IfErr r (SheetsTell w sheets)) c.from_residual-in_err-ask_styles.result c.from_residual-in_err-ask_styles.ensures
    (λ e same tables numbers are before.
    let to6 : (l : List ℕ) → MeetsTo 6 w l tables = λ l. to_places w tables numbers sheets are l (before l) c.in_ok-ask_each.ensures in
    let to7 : (l : List ℕ) → MeetsTo 7 w l tables = λ l. to_formulas w tables numbers sheets are l (to6 l) c.in_ok-ask_each-2.ensures in
    let to8 : (l : List ℕ) → MeetsTo 8 w l tables = λ l. to_strings w tables numbers sheets are l (to7 l) (subst (λ (n : ℕ). AllByRecursion (HasStrings n) w.worksheets) c.len.ensures (subst (AllByRecursion (HasStrings c.len.result)) c.as_slice-worksheets.ensures c.in_ok-ask_strings.ensures)) in
    breaks_first w tables 8 9 Styles (AllByRecursion (IsMet conditions.Styles w.styles) sheets) refl refl (λ l m. styles_asked w tables numbers sheets are l m) to8 e
    (subst (Breaks 9 (AllByRecursion (IsMet conditions.Styles w.styles) sheets)) (sym same) c.in_err-ask_styles.ensures))

pub returns-in_err-ask_each-3-clause-err : goal.returns-in_err-ask_each-3-clause-err
returns-in_err-ask_each-3-clause-err c =
    let w : Workbook = c.args.workbook.now in
    let sheets : List HeldSheet = c.args.sheets.now in
    of_error (λ r. IfErr r (SheetsTell w sheets)) c.from_residual-in_err-ask_each-3.result c.from_residual-in_err-ask_each-3.ensures
    (λ e same tables numbers are before.
    let to6 : (l : List ℕ) → MeetsTo 6 w l tables = λ l. to_places w tables numbers sheets are l (before l) c.in_ok-ask_each.ensures in
    let to7 : (l : List ℕ) → MeetsTo 7 w l tables = λ l. to_formulas w tables numbers sheets are l (to6 l) c.in_ok-ask_each-2.ensures in
    let to8 : (l : List ℕ) → MeetsTo 8 w l tables = λ l. to_strings w tables numbers sheets are l (to7 l) (subst (λ (n : ℕ). AllByRecursion (HasStrings n) w.worksheets) c.len.ensures (subst (AllByRecursion (HasStrings c.len.result)) c.as_slice-worksheets.ensures c.in_ok-ask_strings.ensures)) in
    let to9 : (l : List ℕ) → MeetsTo 9 w l tables = λ l. to_styles w tables numbers sheets are l (to8 l) c.in_ok-ask_styles.ensures.0 c.in_ok-ask_styles.ensures.1 in
    breaks_first w tables 9 10 Arrays (AllByRecursion (IsMet conditions.Arrays w.styles) sheets) refl refl (λ l m. arrays_asked w tables numbers sheets are l m) to9 e
    (subst (Breaks 10 (AllByRecursion (IsMet conditions.Arrays w.styles) sheets)) (sym same) c.in_err-ask_each-3.ensures))

pub returns-in_err-ask_each-4-clause-err : goal.returns-in_err-ask_each-4-clause-err
returns-in_err-ask_each-4-clause-err c =
    let w : Workbook = c.args.workbook.now in
    let sheets : List HeldSheet = c.args.sheets.now in
    of_error (λ r. IfErr r (SheetsTell w sheets)) c.from_residual-in_err-ask_each-4.result c.from_residual-in_err-ask_each-4.ensures
    (λ e same tables numbers are before.
    let to6 : (l : List ℕ) → MeetsTo 6 w l tables = λ l. to_places w tables numbers sheets are l (before l) c.in_ok-ask_each.ensures in
    let to7 : (l : List ℕ) → MeetsTo 7 w l tables = λ l. to_formulas w tables numbers sheets are l (to6 l) c.in_ok-ask_each-2.ensures in
    let to8 : (l : List ℕ) → MeetsTo 8 w l tables = λ l. to_strings w tables numbers sheets are l (to7 l) (subst (λ (n : ℕ). AllByRecursion (HasStrings n) w.worksheets) c.len.ensures (subst (AllByRecursion (HasStrings c.len.result)) c.as_slice-worksheets.ensures c.in_ok-ask_strings.ensures)) in
    let to9 : (l : List ℕ) → MeetsTo 9 w l tables = λ l. to_styles w tables numbers sheets are l (to8 l) c.in_ok-ask_styles.ensures.0 c.in_ok-ask_styles.ensures.1 in
    let to10 : (l : List ℕ) → MeetsTo 10 w l tables = λ l. to_arrays w tables numbers sheets are l (to9 l) c.in_ok-ask_each-3.ensures in
    breaks_first w tables 10 11 Merges (AllByRecursion (IsMet conditions.Merges w.styles) sheets) refl refl (λ l m. merges_asked w tables numbers sheets are l m) to10 e
    (subst (Breaks 11 (AllByRecursion (IsMet conditions.Merges w.styles) sheets)) (sym same) c.in_err-ask_each-4.ensures))

pub returns-in_err-ask_each-5-clause-err : goal.returns-in_err-ask_each-5-clause-err
returns-in_err-ask_each-5-clause-err c =
    let w : Workbook = c.args.workbook.now in
    let sheets : List HeldSheet = c.args.sheets.now in
    of_error (λ r. IfErr r (SheetsTell w sheets)) c.from_residual-in_err-ask_each-5.result c.from_residual-in_err-ask_each-5.ensures
    (λ e same tables numbers are before.
    let to6 : (l : List ℕ) → MeetsTo 6 w l tables = λ l. to_places w tables numbers sheets are l (before l) c.in_ok-ask_each.ensures in
    let to7 : (l : List ℕ) → MeetsTo 7 w l tables = λ l. to_formulas w tables numbers sheets are l (to6 l) c.in_ok-ask_each-2.ensures in
    let to8 : (l : List ℕ) → MeetsTo 8 w l tables = λ l. to_strings w tables numbers sheets are l (to7 l) (subst (λ (n : ℕ). AllByRecursion (HasStrings n) w.worksheets) c.len.ensures (subst (AllByRecursion (HasStrings c.len.result)) c.as_slice-worksheets.ensures c.in_ok-ask_strings.ensures)) in
    let to9 : (l : List ℕ) → MeetsTo 9 w l tables = λ l. to_styles w tables numbers sheets are l (to8 l) c.in_ok-ask_styles.ensures.0 c.in_ok-ask_styles.ensures.1 in
    let to10 : (l : List ℕ) → MeetsTo 10 w l tables = λ l. to_arrays w tables numbers sheets are l (to9 l) c.in_ok-ask_each-3.ensures in
    let to11 : (l : List ℕ) → MeetsTo 11 w l tables = λ l. to_merges w tables numbers sheets are l (to10 l) c.in_ok-ask_each-4.ensures in
    breaks_first w tables 11 12 Layout (AllByRecursion (IsMet conditions.Layout w.styles) sheets) refl refl (λ l m. layout_asked w tables numbers sheets are l m) to11 e
    (subst (Breaks 12 (AllByRecursion (IsMet conditions.Layout w.styles) sheets)) (sym same) c.in_err-ask_each-5.ensures))

pub returns-clause-met : goal.returns-clause-met
returns-clause-met c = λ tables numbers are before.
    let w : Workbook = c.args.workbook.now in
    let sheets : List HeldSheet = c.args.sheets.now in
    let to6 : (l : List ℕ) → MeetsTo 6 w l tables = λ l. to_places w tables numbers sheets are l (before l) c.in_ok-ask_each.ensures in
    let to7 : (l : List ℕ) → MeetsTo 7 w l tables = λ l. to_formulas w tables numbers sheets are l (to6 l) c.in_ok-ask_each-2.ensures in
    let to8 : (l : List ℕ) → MeetsTo 8 w l tables = λ l. to_strings w tables numbers sheets are l (to7 l) (subst (λ (n : ℕ). AllByRecursion (HasStrings n) w.worksheets) c.len.ensures (subst (AllByRecursion (HasStrings c.len.result)) c.as_slice-worksheets.ensures c.in_ok-ask_strings.ensures)) in
    let to9 : (l : List ℕ) → MeetsTo 9 w l tables = λ l. to_styles w tables numbers sheets are l (to8 l) c.in_ok-ask_styles.ensures.0 c.in_ok-ask_styles.ensures.1 in
    let to10 : (l : List ℕ) → MeetsTo 10 w l tables = λ l. to_arrays w tables numbers sheets are l (to9 l) c.in_ok-ask_each-3.ensures in
    let to11 : (l : List ℕ) → MeetsTo 11 w l tables = λ l. to_merges w tables numbers sheets are l (to10 l) c.in_ok-ask_each-4.ensures in
    let to12 : (l : List ℕ) → MeetsTo 12 w l tables = λ l. to_layout w tables numbers sheets are l (to11 l) c.in_ok-ask_each-5.ensures in
    to12
