use mir.Val.{SFits}
use Rattle.std.proofs.Common.{rules, w32, ◌≡◌, None, Some, IfErr, IfSome, true, chars, sym, ap, subst, ◌∙◌, refl}
use Rattle.std.specs.List.{slice_get}
use Rattle.ic_laws.specs.CoreBook.{CellPlace}
use Rattle.ic_laws.specs.CoreStep.{updated_at}
use Rattle.ic_laws.specs.FormulaReading.{cell_formula}
use Rattle.ic_machine.specs.Refusal.{InvalidSheet}
use Rattle.ic_sheets.proofs.WriteLemmas.{at_err}
use Rattle.ic_parts.specs.Arrays.{WritesArray, array_refusal, array_refusal_in}
use Rattle.ic_parts.specs.Book.{ModelState, core_of, notations_in}
use Rattle.ic_book.specs.Inside.{held, held_state, with_sheets, with_styles}
use Rattle.ic_changes.specs.LookUps.{LooksUpAsBefore}
use Rattle.ic_parts.specs.Refused.{refusal_of}
use Rattle.ic_book.proofs.ArrayWritten.{array_held, array_looks_up, array_styled, array_takes, array_there, array_within, formula_there}
use Rattle.ic_parts.proofs.CellReads.{of_error}
use Rattle.ic_book.proofs.HeldLemmas.{book_again, held_again}
use Rattle.ic_changes.proofs.LookUpLemmas.{look_ups_left}
use Rattle.ic_parts.proofs.NameIndexLemmas.{indexed_updated, indexed_seen}
use Rattle.ic_cells.proofs.MapLemmas.{stored_pair}
use Rattle.ic_book.proofs.model.Model.write_array.Goals as goal

pub returns-in_err-id-clause-memory : goal.returns-in_err-id-clause-memory
returns-in_err-id-clause-memory c =
    of_error (λ r. IfErr r (λ e. refusal_of e ≡ None)) c.from_residual.result c.from_residual.ensures
    (λ e same. let no : Some InvalidSheet ≡ None = sym (ap (array_refusal_in c.args.block) c.in_err-id.ensures.0) ∙ c.requires.free in cc)

pub write_array-requires-clause-within : goal.write_array-requires-clause-within
write_array-requires-clause-within c =
    let inside = c.self.inside in
    let sheet = c.args.sheet in
    let block = c.args.block in
    let none = ap (λ (m : ModelState). array_refusal m.book sheet block) c.self.view_is ∙ c.requires.free in
    array_within inside c.self.invariant.book sheet block none

pub write_array-requires-clause-takes : goal.write_array-requires-clause-takes
write_array-requires-clause-takes c =
    let inside = c.self.inside in
    let sheet = c.args.sheet in
    let block = c.args.block in
    let none = ap (λ (m : ModelState). array_refusal m.book sheet block) c.self.view_is ∙ c.requires.free in
    array_takes inside c.self.invariant.book sheet block none

pub write_array-requires-clause-styled : goal.write_array-requires-clause-styled
write_array-requires-clause-styled c =
    let inside = c.self.inside in
    let sheet = c.args.sheet in
    let block = c.args.block in
    let none = ap (λ (m : ModelState). array_refusal m.book sheet block) c.self.view_is ∙ c.requires.free in
    array_styled inside c.self.invariant.book sheet block none

pub invariant_of-self-2 : goal.invariant_of-self-2
invariant_of-self-2 c =
    let inside = c.self.inside in
    let sheet = c.args.sheet in
    let block = c.args.block in
    let none = ap (λ (m : ModelState). array_refusal m.book sheet block) c.self.view_is ∙ c.requires.free in
    let body = chars c.args.body.now in
    let book = c.args.self.now.book in
    let row : SFits w32 block.row = search rules in
    let column : SFits w32 block.column = search rules in
    let found = c.in_ok-id.field-0.now in
    let w = c.in_ok-write_array.ensures.ok in
    let is =
    c.in_ok-formula.ensures
    ∙ ap (λ (p : CellPlace). cell_formula (notations_in book) (core_of book) found.id p.0 p.1 body) (stored_pair block.row block.column row column)
    ∙ ap (λ (m : ModelState). cell_formula (notations_in m.book) (core_of m.book) found.id block.row block.column body) (sym c.self.view_is)
    ∙ formula_there inside c.self.invariant.book sheet block none found w.0 body (ap (λ (m : ModelState). slice_get m.book.sheets sheet) c.self.view_is ∙ c.in_ok-id.ensures) w.3 in
    record {
      book = array_held inside c.self.invariant.book sheet block none body c.in_ok-formula.formula c.write_array.new.self c.write_array.new.styles w is c.requires.typed.0 c.requires.typed.1;
      names = indexed_updated inside.names inside.contents.sheets _ inside.contents.definitions c.self.invariant.names _ sheet w.5 (λ s. refl);
    }

pub returns-clause-written : goal.returns-clause-written
returns-clause-written c =
    let inside = c.self.inside in
    let sheet = c.args.sheet in
    let block = c.args.block in
    let none = ap (λ (m : ModelState). array_refusal m.book sheet block) c.self.view_is ∙ c.requires.free in
    let body = chars c.args.body.now in
    let book = c.args.self.now.book in
    let row : SFits w32 block.row = search rules in
    let column : SFits w32 block.column = search rules in
    let found = c.in_ok-id.field-0.now in
    let w = c.in_ok-write_array.ensures.ok in
    let is =
    c.in_ok-formula.ensures
    ∙ ap (λ (p : CellPlace). cell_formula (notations_in book) (core_of book) found.id p.0 p.1 body) (stored_pair block.row block.column row column)
    ∙ ap (λ (m : ModelState). cell_formula (notations_in m.book) (core_of m.book) found.id block.row block.column body) (sym c.self.view_is)
    ∙ formula_there inside c.self.invariant.book sheet block none found w.0 body (ap (λ (m : ModelState). slice_get m.book.sheets sheet) c.self.view_is ∙ c.in_ok-id.ensures) w.3 in
    let new = held (with_styles c.write_array.new.styles (with_sheets c.write_array.new.self inside)) in
    subst (λ (m : ModelState). IfSome (slice_get m.book.sheets sheet) (λ s. WritesArray sheet s block body m.book new)) c.self.view_is
    (array_there inside c.self.invariant.book sheet block none body c.in_ok-formula.formula c.write_array.new.self c.write_array.new.styles w is)

pub returns-clause-looks_up : goal.returns-clause-looks_up
returns-clause-looks_up c =
    let inside = c.self.inside in
    let sheet = c.args.sheet in
    let block = c.args.block in
    let none = ap (λ (m : ModelState). array_refusal m.book sheet block) c.self.view_is ∙ c.requires.free in
    let body = chars c.args.body.now in
    let book = c.args.self.now.book in
    let row : SFits w32 block.row = search rules in
    let column : SFits w32 block.column = search rules in
    let found = c.in_ok-id.field-0.now in
    let w = c.in_ok-write_array.ensures.ok in
    let is =
    c.in_ok-formula.ensures
    ∙ ap (λ (p : CellPlace). cell_formula (notations_in book) (core_of book) found.id p.0 p.1 body) (stored_pair block.row block.column row column)
    ∙ ap (λ (m : ModelState). cell_formula (notations_in m.book) (core_of m.book) found.id block.row block.column body) (sym c.self.view_is)
    ∙ formula_there inside c.self.invariant.book sheet block none found w.0 body (ap (λ (m : ModelState). slice_get m.book.sheets sheet) c.self.view_is ∙ c.in_ok-id.ensures) w.3 in
    array_looks_up inside c.self.invariant.book sheet block none body c.in_ok-formula.formula c.write_array.new.self c.write_array.new.styles w is
    ∙ ap (λ (m : ModelState). updated_at (λ b. true) sheet m.has_all) c.self.view_is

pub invariant_of-self : goal.invariant_of-self
invariant_of-self c =
    record {
      book = held_again c.self.inside c.self.invariant.book c.write_array.new.styles c.write_array.new.self c.in_err-write_array.ensures.kept_styles c.in_err-write_array.ensures.err;
      names = indexed_seen c.self.inside.names c.self.inside.contents.sheets _ c.self.inside.contents.definitions c.self.invariant.names c.in_err-write_array.ensures.err;
    }

pub returns-in_err-write_array-clause-memory : goal.returns-in_err-write_array-clause-memory
returns-in_err-write_array-clause-memory c = of_error (λ r. IfErr r (λ e. refusal_of e ≡ None)) c.from_residual-in_err-write_array.result c.from_residual-in_err-write_array.ensures (λ e same. ap refusal_of same)

pub returns-in_err-write_array-clause-err : goal.returns-in_err-write_array-clause-err
returns-in_err-write_array-clause-err c =
    at_err c.from_residual-in_err-write_array.result _
    (book_again c.self.inside c.self.invariant.book c.write_array.new.styles c.write_array.new.self c.in_err-write_array.ensures.kept_styles c.in_err-write_array.ensures.err ∙ ap (λ (m : ModelState). m.book) c.self.view_is)

pub returns-in_err-write_array-clause-left : goal.returns-in_err-write_array-clause-left
returns-in_err-write_array-clause-left c =
    at_err c.from_residual-in_err-write_array.result _
    (subst (λ (m : ModelState). LooksUpAsBefore c.args.sheet m (held_state (with_styles c.write_array.new.styles (with_sheets c.write_array.new.self c.self.inside)))) c.self.view_is
    (look_ups_left c.args.sheet c.self.inside.contents.sheets c.write_array.new.self c.in_err-write_array.ensures.looks_up))
