use Rattle.std.proofs.Common.{◌≤◌, ap, flat_map, subst, ◌∙◌}
use Rattle.std.proofs.lemmas.List.{length-map}
use Rattle.std.specs.List.{enumerate_from}
use Rattle.ic_machine.specs.Fields.{fields_of_place, places_fields}
use Rattle.ic_machine.specs.subjects.Reading.{all_cells_step, sheet_places}
use Rattle.ic_laws.specs.CoreBook.{last_id}
use Rattle.ic_sheets.specs.Sheet.{sheet_of}
use Rattle.ic_parts.specs.Book.{IsValidBook, ModelState}
use Rattle.ic_parts.specs.Whole.{whole_of, whole_sheet}
use Rattle.ic_parts.proofs.CellReads.{places_told}
use Rattle.ic_parts.proofs.SettingLemmas.{lacks_memory, tells}
use Rattle.ic_book.proofs.model.Model.get_all_cells.Goals as goal

pub all_places-requires : goal.all_places-requires
all_places-requires c =
    let sheets = c.self.inside.contents.sheets in
    subst (λ n. n ≤ last_id) (length-map _ (whole_sheet c.self.inside.lists.strings) ∙ length-map sheets sheet_of) c.self.invariant.book.whole.sheets.few

pub returns : goal.returns
unfolding all_cells_step
returns c = record {
  does =
      tells c.args.self.now (subst (λ (m : ModelState). IsValidBook m.book) c.self.view_is c.self.invariant.book) places_fields (flat_map sheet_places (enumerate_from 0 (whole_of c.args.self.now.book).sheets)) c.in_ok-all_places.field-0
      (ap (flat_map fields_of_place) c.in_ok-all_places.ensures ∙ places_told c.self.inside.lists.strings 0 c.self.inside.contents.sheets
      ∙ ap (λ (m : ModelState). flat_map sheet_places (enumerate_from 0 (whole_of m.book).sheets)) c.self.view_is);
}

pub returns-in_err-all_places : goal.returns-in_err-all_places
unfolding all_cells_step
returns-in_err-all_places c = record {
  does =
      lacks_memory c.args.self.now (subst (λ (m : ModelState). IsValidBook m.book) c.self.view_is c.self.invariant.book) places_fields (flat_map sheet_places (enumerate_from 0 (whole_of c.args.self.now.book).sheets)) c.from_residual.result c.from_residual.ensures;
}
