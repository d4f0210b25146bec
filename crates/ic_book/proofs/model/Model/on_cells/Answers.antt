use Rattle.std.proofs.Common.{◌≡◌, None, ap, option_map, subst, ◌∙◌, refl}
use Rattle.std.specs.List.{slice_get}
use Rattle.std.proofs.lemmas.Option.{slice_get-map}
use Rattle.ic_machine.specs.Book.{on_grid}
use Rattle.ic_sheets.specs.Sheet.{sheet_of}
use Rattle.ic_parts.specs.Book.{IsValidBook, ModelState}
use Rattle.ic_parts.specs.Does.{DoesStep, wants}
use Rattle.ic_book.specs.Inside.{held, held_state, with_sheets}
use Rattle.ic_parts.specs.Whole.{whole_of}
use Rattle.ic_parts.proofs.ArrayLemmas.{each_there}
use Rattle.ic_parts.proofs.GridLemmas.{its_grid}
use Rattle.ic_parts.proofs.HeldLemmas.{past_of}
use Rattle.ic_book.proofs.PartLemmas.{not_held}
use Rattle.ic_book.proofs.GridPartLemmas.{grid_does, grid_held, grid_missing, grid_state}
use Rattle.ic_parts.proofs.NameIndexLemmas.{indexed_updated}
use Rattle.ic_book.proofs.model.Model.on_cells.Goals as goal

pub returns-then-sheet-len-clause-changes : goal.returns-then-sheet-len-clause-changes
returns-then-sheet-len-clause-changes g c = record {
  does = λ memory step fields h.
      grid_missing c.args.self.now (subst (λ (m : ModelState). IsValidBook m.book) c.self.view_is c.self.invariant.book) c.args.sheet memory step fields
      (subst (λ (m : ModelState). slice_get m.book.sheets c.args.sheet ≡ None) c.self.view_is (not_held c.self.inside c.self.invariant.book c.args.sheet (past_of c.self.inside.contents.sheets c.len.result c.args.sheet c.len.ensures c.if-sheet-len.true)));
}

pub invariant_of-self : goal.invariant_of-self
invariant_of-self g c =
    record {
      book = grid_held c.self.inside c.self.invariant.book c.args.sheet c.change_grid.new.self c.change_grid.ensures.after c.change_grid.ensures.becomes
          c.change_grid.ensures.sheet c.change_grid.ensures.there (c.requires.held c.change_grid.ensures.sheet.grid c.change_grid.ensures.after c.change_grid.result c.change_grid.ensures.called);
      names = indexed_updated c.self.inside.names c.self.inside.contents.sheets _ c.self.inside.contents.definitions c.self.invariant.names _ c.args.sheet c.change_grid.ensures.becomes (λ s. refl);
    }

pub returns-clause-changes : goal.returns-clause-changes
returns-clause-changes g c = record {
  does = λ memory step fields h.
      let old : ModelState = held_state c.self.inside in
      let did = c.change_grid.ensures in
      let new : ModelState = held_state (with_sheets c.change_grid.new.self c.self.inside) in
      subst (λ (m : ModelState). DoesStep (wants memory) (on_grid (whole_of m.book) c.args.sheet step) fields c.change_grid.result m new) c.self.view_is
      (grid_does old c.self.invariant.book c.args.sheet memory step fields (sheet_of did.sheet) (slice_get-map sheet_of c.self.inside.contents.sheets c.args.sheet ∙ ap (option_map sheet_of) did.there) did.after
      (c.requires.held did.sheet.grid did.after c.change_grid.result did.called) new
      (grid_state c.self.inside c.self.invariant.book c.args.sheet c.change_grid.new.self did.after did.becomes) c.change_grid.result (h did.sheet.grid did.after c.change_grid.result did.called));
}

pub returns-clause-looks_up : goal.returns-clause-looks_up
returns-clause-looks_up g c =
    ap (λ (m : ModelState). m.has_all) (grid_state c.self.inside c.self.invariant.book c.args.sheet c.change_grid.new.self c.change_grid.ensures.after c.change_grid.ensures.becomes)
    ∙ ap (λ (m : ModelState). m.has_all) c.self.view_is

pub change_grid-requires-clause-callable : goal.change_grid-requires-clause-callable
change_grid-requires-clause-callable g c =
    each_there c.self.inside.contents.sheets c.args.sheet _
    (λ s at. c.requires.callable s.grid
    (its_grid (held c.self.inside) c.self.invariant.book c.args.sheet (sheet_of s)
    (slice_get-map sheet_of c.self.inside.contents.sheets c.args.sheet ∙ ap (option_map sheet_of) at)))
