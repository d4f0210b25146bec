use Rattle.std.proofs.Common.{◌≡◌, ◌∙◌, None, ap, option_map, refl, subst, sym}
use Rattle.std.specs.List.{slice_get}
use Rattle.std.proofs.lemmas.Option.{slice_get-map}
use Rattle.ic_laws.specs.CoreBook.{CellPlace}
use Rattle.ic_machine.specs.Refusal.{InvalidSheet, first_refusal}
use Rattle.ic_sheets.specs.Sheet.{sheet_of}
use Rattle.ic_parts.specs.Book.{ModelState}
use Rattle.ic_parts.specs.Refused.{TellsOnly}
use Rattle.ic_parts.specs.Values.{value_causes, value_refusal_in}
use Rattle.ic_cells.proofs.MapLemmas.{stored_pair}
use Rattle.ic_book.proofs.model.Model.style_to_write.Goals as goal

pub returns-in-Some-clause-refused : goal.returns-in-Some-clause-refused
returns-in-Some-clause-refused c =
    let entry = c.in-Some.sheet.now in
    let place : CellPlace = (c.args.row, c.args.column) in
    let there = sym c.get.ensures ∙ ap (option_map (λ s. s.now)) c.in-Some.is in
    let found = ap (λ (m : ModelState). slice_get m.book.sheets c.args.sheet) (sym c.self.view_is) ∙ slice_get-map sheet_of c.self.inside.contents.sheets c.args.sheet ∙ ap (option_map sheet_of) there in
    subst (TellsOnly c.style_in.result)
    (ap (λ (p : CellPlace). first_refusal (value_causes entry.grid p)) (stored_pair c.args.row c.args.column c.ranges.row c.ranges.column) ∙ sym (ap (value_refusal_in place) found))
    c.style_in.ensures.refused

pub returns-in-None-clause-refused : goal.returns-in-None-clause-refused
returns-in-None-clause-refused c =
    let place : CellPlace = (c.args.row, c.args.column) in
    let none =
    subst (λ (m : ModelState). slice_get m.book.sheets c.args.sheet ≡ None) c.self.view_is
    (slice_get-map sheet_of c.self.inside.contents.sheets c.args.sheet ∙ ap (option_map sheet_of) (sym c.get.ensures ∙ ap (option_map (λ s. s.now)) c.in-None.is)) in
    (InvalidSheet, refl, ap (value_refusal_in place) none)
