use Rattle.std.proofs.Common.{◌≡◌, ◌∙◌, ℕ, IfSome, true, ap, refl, subst, sym, take, Ok}
use Rattle.std.specs.List.{slice_get}
use Rattle.ic_laws.specs.CoreBook.{CellPlace}
use Rattle.ic_laws.specs.CoreStep.{updated_at}
use Rattle.ic_grid.specs.Shape.{is_loose, shape_of}
use Rattle.ic_sheets.specs.Sheet.{TakesCell, with_cell_in}
use Rattle.ic_sheets.specs.declared.sheet.Sheet.{Sheet as HeldSheet}
use Rattle.ic_parts.specs.Book.{IsValidBook, ModelState, whole_of}
use Rattle.ic_parts.specs.Does.{DoesStep, Wanted}
use Rattle.ic_parts.specs.Fields.{no_fields}
use Rattle.ic_book.specs.Inside.{held_state, with_lists, with_sheets}
use Rattle.ic_parts.specs.Values.{Shows, put_step, style_change, value_content, value_refusal}
use Rattle.ic_parts.proofs.CellReads.{of_error}
use Rattle.ic_book.proofs.SharedLemmas.{held_as_before, put_done, put_held, put_look_ups, state_again}
use Rattle.ic_parts.proofs.SharedLemmas.{taken_away, value_loose}
use Rattle.ic_book.proofs.ValueLemmas.{is_within, style_within, takes_there, value_wants}
use Rattle.ic_parts.proofs.NameIndexLemmas.{indexed_updated}
use Rattle.ic_parts.specs.Names.{IsIndexed}
use Rattle.ic_cells.proofs.MapLemmas.{stored_pair}
use Rattle.ic_book.proofs.model.Model.put_value.Goals as goal

pub new_cell-requires : goal.new_cell-requires
new_cell-requires c =
    let sheet = c.args.sheet in
    let row = c.args.row in
    let column = c.args.column in
    let none = ap (λ (m : ModelState). value_refusal m.book sheet row column) c.self.view_is ∙ c.requires.allowed in
    let shows = subst (λ (m : ModelState). Shows m.book sheet row column c.args.shown) (sym c.self.view_is) c.requires.shows in
    style_within c.self.inside c.self.invariant.book sheet row column none c.args.shown shows

pub write_cell-requires-clause-within : goal.write_cell-requires-clause-within
write_cell-requires-clause-within c =
    let sheet = c.args.sheet in
    let row = c.args.row in
    let column = c.args.column in
    let none = ap (λ (m : ModelState). value_refusal m.book sheet row column) c.self.view_is ∙ c.requires.allowed in
    is_within c.self.inside c.self.invariant.book sheet row column none

pub write_cell-requires-clause-takes : goal.write_cell-requires-clause-takes
write_cell-requires-clause-takes c =
    let sheet = c.args.sheet in
    let row = c.args.row in
    let column = c.args.column in
    let none = ap (λ (m : ModelState). value_refusal m.book sheet row column) c.self.view_is ∙ c.requires.allowed in
    let stored = stored_pair row column c.ranges.row c.ranges.column in
    subst (λ (p : CellPlace). IfSome (slice_get c.self.inside.contents.sheets sheet) (λ (s : HeldSheet). TakesCell p s.grid)) (sym stored) (takes_there c.self.inside c.self.invariant.book sheet row column none)

pub write_cell-requires-clause-loose : goal.write_cell-requires-clause-loose
write_cell-requires-clause-loose c =
    subst (λ x. is_loose (shape_of x) ≡ true) (sym c.in_ok-cell.ensures.cell) (value_loose c.args.value.now c.self.inside.lists.strings _)

pub invariant_of-self-in-Ok : goal.invariant_of-self-in-Ok
invariant_of-self-in-Ok c =
    let sheet = c.args.sheet in
    let row = c.args.row in
    let column = c.args.column in
    let none = ap (λ (m : ModelState). value_refusal m.book sheet row column) c.self.view_is ∙ c.requires.allowed in
    let shows = subst (λ (m : ModelState). Shows m.book sheet row column c.args.shown) (sym c.self.view_is) c.requires.shows in
    let stored = stored_pair row column c.ranges.row c.ranges.column in
    let put =
    c.in-Ok.ensures.ok
    ∙ ap (λ (p : CellPlace). updated_at (λ (s : HeldSheet). record s { grid = with_cell_in p c.in_ok-cell.cell s.grid }) sheet c.self.inside.contents.sheets) stored in
    record {
      book = put_held c.self.inside c.self.invariant.book sheet row column none c.args.shown shows c.args.value.now (style_change c.args.change.now) c.in_ok-cell.ensures.amount c.in_ok-cell.cell c.new_cell.new.lists c.write_cell.new.self c.in_ok-cell.ensures.cell c.in_ok-cell.ensures.lists put;
      names = indexed_updated c.self.inside.names c.self.inside.contents.sheets _ c.self.inside.contents.definitions c.self.invariant.names _ c.args.sheet c.in-Ok.ensures.ok (λ s. refl);
    }

pub returns-in-Ok-clause-does : goal.returns-in-Ok-clause-does
returns-in-Ok-clause-does c =
    let sheet = c.args.sheet in
    let row = c.args.row in
    let column = c.args.column in
    let none = ap (λ (m : ModelState). value_refusal m.book sheet row column) c.self.view_is ∙ c.requires.allowed in
    let shows = subst (λ (m : ModelState). Shows m.book sheet row column c.args.shown) (sym c.self.view_is) c.requires.shows in
    let stored = stored_pair row column c.ranges.row c.ranges.column in
    let put =
    c.in-Ok.ensures.ok
    ∙ ap (λ (p : CellPlace). updated_at (λ (s : HeldSheet). record s { grid = with_cell_in p c.in_ok-cell.cell s.grid }) sheet c.self.inside.contents.sheets) stored in
    let now = held_state (with_lists c.new_cell.new.lists (with_sheets c.write_cell.new.self c.self.inside)) in
    subst (λ (m : ModelState). DoesStep Wanted (put_step (whole_of m.book) sheet row column (style_change c.args.change.now) (value_content c.args.value.now)) no_fields (Ok tt) m now) c.self.view_is
    (put_done c.self.inside c.self.invariant.book sheet row column none c.args.shown shows c.args.value.now (style_change c.args.change.now) c.in_ok-cell.ensures.amount c.in_ok-cell.cell c.new_cell.new.lists c.write_cell.new.self c.in_ok-cell.ensures.cell c.in_ok-cell.ensures.lists put)

pub returns-in-Ok-clause-looks_up : goal.returns-in-Ok-clause-looks_up
returns-in-Ok-clause-looks_up c =
    let sheet = c.args.sheet in
    let row = c.args.row in
    let column = c.args.column in
    let none = ap (λ (m : ModelState). value_refusal m.book sheet row column) c.self.view_is ∙ c.requires.allowed in
    let shows = subst (λ (m : ModelState). Shows m.book sheet row column c.args.shown) (sym c.self.view_is) c.requires.shows in
    let stored = stored_pair row column c.ranges.row c.ranges.column in
    let put =
    c.in-Ok.ensures.ok
    ∙ ap (λ (p : CellPlace). updated_at (λ (s : HeldSheet). record s { grid = with_cell_in p c.in_ok-cell.cell s.grid }) sheet c.self.inside.contents.sheets) stored in
    put_look_ups c.self.inside c.self.invariant.book sheet row column none c.args.shown shows c.args.value.now (style_change c.args.change.now) c.in_ok-cell.ensures.amount c.in_ok-cell.cell c.new_cell.new.lists c.write_cell.new.self c.in_ok-cell.ensures.cell c.in_ok-cell.ensures.lists put ∙ ap (λ (m : ModelState). m.has_all) c.self.view_is

pub invariant_of-self-in-Err : goal.invariant_of-self-in-Err
invariant_of-self-in-Err c =
    let same =
    taken_away c.self.inside.lists c.new_cell.new.lists c.args.value.now (style_change c.args.change.now) c.args.shown c.in_ok-cell.ensures.lists c.truncate.new.self c.truncate-in-Err.new.self
    (c.truncate.ensures ∙ ap (λ (n : ℕ). take n c.new_cell.new.lists.styles) c.len-count.ensures.exact) (c.truncate-in-Err.ensures ∙ ap (λ (n : ℕ). take n c.new_cell.new.lists.strings) c.len-texts.ensures.exact) in
    record {
      book = held_as_before c.self.inside c.self.invariant.book _ c.write_cell.new.self same c.in-Err.ensures.err;
      names = subst (λ ws. IsIndexed c.self.inside.names ws c.self.inside.contents.definitions) (sym c.in-Err.ensures.err) c.self.invariant.names;
    }

pub returns-in-Err-clause-does : goal.returns-in-Err-clause-does
returns-in-Err-clause-does c =
    let same =
    taken_away c.self.inside.lists c.new_cell.new.lists c.args.value.now (style_change c.args.change.now) c.args.shown c.in_ok-cell.ensures.lists c.truncate.new.self c.truncate-in-Err.new.self
    (c.truncate.ensures ∙ ap (λ (n : ℕ). take n c.new_cell.new.lists.styles) c.len-count.ensures.exact) (c.truncate-in-Err.ensures ∙ ap (λ (n : ℕ). take n c.new_cell.new.lists.strings) c.len-texts.ensures.exact) in
    let again = state_again c.self.inside c.self.invariant.book _ c.write_cell.new.self same c.in-Err.ensures.err ∙ c.self.view_is in
    value_wants c.args.self.now (subst (λ (m : ModelState). IsValidBook m.book) c.self.view_is c.self.invariant.book) c.args.sheet c.args.row c.args.column (style_change c.args.change.now) (value_content c.args.value.now) _ again c.requires.allowed c.from.result c.from.ensures

pub returns-in-Err-clause-looks_up : goal.returns-in-Err-clause-looks_up
returns-in-Err-clause-looks_up c =
    let same =
    taken_away c.self.inside.lists c.new_cell.new.lists c.args.value.now (style_change c.args.change.now) c.args.shown c.in_ok-cell.ensures.lists c.truncate.new.self c.truncate-in-Err.new.self
    (c.truncate.ensures ∙ ap (λ (n : ℕ). take n c.new_cell.new.lists.styles) c.len-count.ensures.exact) (c.truncate-in-Err.ensures ∙ ap (λ (n : ℕ). take n c.new_cell.new.lists.strings) c.len-texts.ensures.exact) in
    let again = state_again c.self.inside c.self.invariant.book _ c.write_cell.new.self same c.in-Err.ensures.err ∙ c.self.view_is in
    ap (λ (m : ModelState). m.has_all) again

pub returns-in_err-cell-clause-does : goal.returns-in_err-cell-clause-does
returns-in_err-cell-clause-does c =
    let now = c.args.self.now in
    let step = put_step (whole_of now.book) c.args.sheet c.args.row c.args.column (style_change c.args.change.now) (value_content c.args.value.now) in
    let new = held_state (with_lists c.new_cell.new.lists c.self.inside) in
    let again = state_again c.self.inside c.self.invariant.book c.new_cell.new.lists c.self.inside.contents.sheets c.in_err-cell.ensures.err refl ∙ c.self.view_is in
    of_error (λ r. DoesStep Wanted step no_fields r now new) c.from_residual.result c.from_residual.ensures
    (λ f out. value_wants now (subst (λ (m : ModelState). IsValidBook m.book) c.self.view_is c.self.invariant.book) c.args.sheet c.args.row c.args.column (style_change c.args.change.now) (value_content c.args.value.now) new again c.requires.allowed f out)
