use Rattle.std.proofs.Common.{◌≡◌, None, refl, subst, sym}
use Rattle.std.proofs.lemmas.Option.{slice_get-map}
use Rattle.std.proofs.Common.{ap, option_map, ◌∙◌}
use Rattle.std.specs.List.{slice_get}
use Rattle.ic_machine.specs.Book.{on_grid}
use Rattle.ic_sheets.specs.Sheet.{sheet_of}
use Rattle.ic_parts.specs.Book.{IsValidBook, ModelState}
use Rattle.ic_parts.specs.Does.{DoesStep, wants}
use Rattle.ic_book.specs.Inside.{held_state}
use Rattle.ic_parts.specs.Whole.{whole_of}
use Rattle.ic_book.proofs.GridPartLemmas.{grid_missing, grid_reads}
use Rattle.ic_book.proofs.model.Model.of_grid.Goals as goal

pub returns-in_default : goal.returns-in_default
returns-in_default g c = record {
  does = λ memory step fields h.
      grid_missing c.args.self.now (subst (λ (m : ModelState). IsValidBook m.book) c.self.view_is c.self.invariant.book) c.args.sheet memory step fields
      (subst (λ (m : ModelState). slice_get m.book.sheets c.args.sheet ≡ None) c.self.view_is
      (slice_get-map sheet_of c.self.inside.contents.sheets c.args.sheet ∙ ap (option_map sheet_of) (sym c.get.ensures ∙ ap (option_map (λ s. s.now)) c.in_default.is)));
}

pub returns : goal.returns
returns g c = record {
  does = λ memory step fields h.
      let inside : ModelState = held_state c.self.inside in
      let there = sym c.get.ensures ∙ ap (option_map (λ s. s.now)) c.in-Some.is in
      subst (λ (m : ModelState). DoesStep (wants memory) (on_grid (whole_of m.book) c.args.sheet step) fields c.read.result m m) c.self.view_is
      (grid_reads inside c.self.invariant.book c.args.sheet memory step fields (sheet_of c.in-Some.sheet.now) (slice_get-map sheet_of c.self.inside.contents.sheets c.args.sheet ∙ ap (option_map sheet_of) there) c.read.result
      (h c.in-Some.sheet.now.grid c.read.result (_, c.read.ensures, refl)));
}
