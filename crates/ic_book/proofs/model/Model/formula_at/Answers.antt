use Rattle.std.proofs.Common.{◌≡◌, ◌∙◌, None, Some, ap, cond, false, option_map, refl, sym, true}
use Rattle.std.specs.FinMap as finite
use Rattle.ic_laws.specs.CoreBook.{CellPlace, formula_at}
use Rattle.ic_laws.specs.CoreStep.{formula_of, lacks_sheet}
use Rattle.ic_laws.specs.Refusal.{InvalidSheet}
use Rattle.ic_sheets.specs.Sheet.{cells_of}
use Rattle.ic_parts.specs.Book.{ModelState, core_of}
use Rattle.ic_book.proofs.HeldLemmas.{formula_of_is, places_of}
use Rattle.ic_book.proofs.StandsLemmas.{none_lacks, some_stands}
use Rattle.ic_cells.proofs.MapLemmas.{stored_pair}
use Rattle.ic_book.proofs.model.Model.formula_at.Goals as goal

pub formula_at-requires : goal.formula_at-requires
formula_at-requires c = places_of c.self.inside c.self.invariant.book c.args.sheet c.in-Some.worksheet.now (sym c.get.ensures ∙ ap (option_map (λ s. s.now)) c.in-Some.is)

pub returns-clause-formula : goal.returns-clause-formula
returns-clause-formula c =
    c.formula_at.ensures ∙ ap (λ (p : CellPlace). formula_at (cells_of c.in-Some.worksheet.now.pool.formulas (finite.entries c.in-Some.worksheet.now.grid.cells)) p.0 p.1) (stored_pair c.args.row c.args.column c.ranges.row c.ranges.column)
    ∙ sym (ap (λ (m : ModelState). formula_of (core_of m.book) c.args.sheet c.args.row c.args.column) (sym c.self.view_is) ∙ formula_of_is c.self.inside c.self.invariant.book c.args.sheet c.in-Some.worksheet.now c.args.row c.args.column (sym c.get.ensures ∙ ap (option_map (λ s. s.now)) c.in-Some.is))

pub returns-in_default-clause-refused : goal.returns-in_default-clause-refused
returns-in_default-clause-refused c =
    let lacks : lacks_sheet (core_of c.args.self.now.book) c.args.sheet ≡ true = ap (λ (m : ModelState). lacks_sheet (core_of m.book) c.args.sheet) (sym c.self.view_is) ∙ none_lacks c.self.inside.contents.sheets c.args.sheet (sym c.get.ensures ∙ ap (option_map (λ s. s.now)) c.in_default.is) in
    (InvalidSheet, refl, ap (λ b. cond b (Some InvalidSheet) None) lacks)

pub returns-clause-refused : goal.returns-clause-refused
returns-clause-refused c =
    let stands : lacks_sheet (core_of c.args.self.now.book) c.args.sheet ≡ false = ap (λ (m : ModelState). lacks_sheet (core_of m.book) c.args.sheet) (sym c.self.view_is) ∙ some_stands c.self.inside.contents.sheets c.args.sheet c.in-Some.worksheet.now (sym c.get.ensures ∙ ap (option_map (λ s. s.now)) c.in-Some.is) in
    ap (λ b. cond b (Some InvalidSheet) None) stands
