use Rattle.std.proofs.Common.{◌≡◌, ℕ, List, None, Ok, Err, OnErr, OnOk, ap, ap₂, subst, take, ◌∙◌, rules, refl}
use Rattle.std.specs.List.{slice_get}
use Rattle.ic_cells.specs.declared.style.Style.{Style}
use Rattle.ic_sheets.proofs.RewritingLemmas.{sheet_there}
use Rattle.ic_sheets.specs.Sheet.{sheet_of}
use Rattle.ic_parts.specs.Book.{IsValidBook, ModelState}
use Rattle.ic_parts.specs.Does.{DoesStep, Wanted}
use Rattle.ic_parts.specs.Fields.{no_fields}
use Rattle.ic_book.specs.Inside.{held_state, with_sheets, with_styles}
use Rattle.ic_parts.specs.Styled.{StylesLine, set_line_step, with_line_style}
use Rattle.ic_parts.specs.Whole.{whole_of}
use Rattle.ic_parts.proofs.HeldLemmas.{past_of, within_of}
use Rattle.ic_book.proofs.PartLemmas.{not_held}
use Rattle.ic_parts.proofs.StyleSetLemmas.{lacks_line_sheet, refuses_line, style_taken_back, styles_line, wants_line, wants_line_memory}
use Rattle.ic_book.proofs.StyleSetLemmas.{line_sheet, same_look_ups, state_again, state_held_again, styled_held, styled_state}
use Rattle.ic_parts.proofs.NameIndexLemmas.{indexed_updated}
use Rattle.ic_book.proofs.model.Model.give_style.Goals as goal

pub returns-then-sheet-len-clause-does : goal.returns-then-sheet-len-clause-does
returns-then-sheet-len-clause-does c =
    lacks_line_sheet c.args.self.now (subst (λ (m : ModelState). IsValidBook m.book) c.self.view_is c.self.invariant.book) c.args.sheet c.args.line c.args.style.now
    (subst (λ (m : ModelState). slice_get m.book.sheets c.args.sheet ≡ None) c.self.view_is
    (not_held c.self.inside c.self.invariant.book c.args.sheet (past_of c.self.inside.contents.sheets c.len.result c.args.sheet c.len.ensures c.if-sheet-len.true)))

pub returns-in_err-check_line-clause-does : goal.returns-in_err-check_line-clause-does
returns-in_err-check_line-clause-does c =
    let old : ModelState = held_state c.self.inside in
    let found = sheet_there c.self.inside.contents.sheets c.args.sheet (within_of c.self.inside.contents.sheets c.len.result c.args.sheet c.len.ensures c.if-sheet-len.false) in
    subst (λ (m : ModelState). DoesStep Wanted (set_line_step c.args.sheet c.args.line c.args.style.now (whole_of m.book)) no_fields c.from_residual.result m m) c.self.view_is
    (refuses_line old c.self.invariant.book c.args.sheet c.args.line c.args.style.now (sheet_of found.0) (line_sheet c.self.inside c.self.invariant.book c.args.sheet found.0 found.1)
    c.in_err-check_line.field-0.0 c.in_err-check_line.ensures c.from_residual.result c.from_residual.ensures)

pub returns-in_err-number-clause-does : goal.returns-in_err-number-clause-does
returns-in_err-number-clause-does c =
    let old : ModelState = held_state c.self.inside in
    let found = sheet_there c.self.inside.contents.sheets c.args.sheet (within_of c.self.inside.contents.sheets c.len.result c.args.sheet c.len.ensures c.if-sheet-len.false) in
    let new : ModelState = held_state (with_styles c.get_style_index_or_create.new.self c.self.inside) in
    subst (λ (m : ModelState). DoesStep Wanted (set_line_step c.args.sheet c.args.line c.args.style.now (whole_of m.book)) no_fields c.from_residual-in_err-number.result m new) c.self.view_is
    (wants_line_memory old c.self.invariant.book c.args.sheet c.args.line c.args.style.now (sheet_of found.0) (line_sheet c.self.inside c.self.invariant.book c.args.sheet found.0 found.1)
    c.in_ok-check_line.ensures c.from_residual-in_err-number.result c.from_residual-in_err-number.ensures new
    (ap (λ (st : List Style). held_state (with_styles st c.self.inside)) c.in_err-number.ensures.err))

pub invariant_of-self-in-Ok : goal.invariant_of-self-in-Ok
invariant_of-self-in-Ok c =
    let did = c.change_grid.ensures in
    let set : StylesLine c.args.line c.in_ok-number.number c.change_grid.result did.sheet.grid did.after = search rules in
    let put = subst (λ r. OnOk r (did.after ≡ with_line_style c.args.line c.in_ok-number.number did.sheet.grid)) c.in-Ok.is set.done in
    record {
      book = styled_held c.self.inside c.self.invariant.book c.args.sheet did.sheet did.there c.change_grid.new.self did.after did.becomes c.get_style_index_or_create.new.self
          c.args.line c.args.style.now c.in_ok-number.number c.in_ok-number.ensures.styles c.in_ok-number.ensures.number put c.in_ok-check_line.ensures;
      names = indexed_updated c.self.inside.names c.self.inside.contents.sheets _ c.self.inside.contents.definitions c.self.invariant.names _ c.args.sheet did.becomes (λ s. refl);
    }

pub returns-in-Ok-clause-does : goal.returns-in-Ok-clause-does
returns-in-Ok-clause-does c =
    let did = c.change_grid.ensures in
    let set : StylesLine c.args.line c.in_ok-number.number c.change_grid.result did.sheet.grid did.after = search rules in
    let put = subst (λ r. OnOk r (did.after ≡ with_line_style c.args.line c.in_ok-number.number did.sheet.grid)) c.in-Ok.is set.done in
    let old : ModelState = held_state c.self.inside in
    let new : ModelState = held_state (with_styles c.get_style_index_or_create.new.self (with_sheets c.change_grid.new.self c.self.inside)) in
    subst (λ (m : ModelState). DoesStep Wanted (set_line_step c.args.sheet c.args.line c.args.style.now (whole_of m.book)) no_fields (Ok tt) m new) c.self.view_is
    (styles_line old c.self.invariant.book c.args.sheet c.args.line c.args.style.now (sheet_of did.sheet) (line_sheet c.self.inside c.self.invariant.book c.args.sheet did.sheet did.there)
    c.in_ok-check_line.ensures new
    (styled_state c.self.inside c.self.invariant.book c.args.sheet did.sheet did.there c.change_grid.new.self did.after did.becomes c.get_style_index_or_create.new.self
    c.args.line c.args.style.now c.in_ok-number.number c.in_ok-number.ensures.styles c.in_ok-number.ensures.number put))

pub returns-in-Ok-clause-looks_up : goal.returns-in-Ok-clause-looks_up
returns-in-Ok-clause-looks_up c =
    let did = c.change_grid.ensures in
    same_look_ups c.self.inside c.self.invariant.book c.args.sheet did.sheet did.there c.change_grid.new.self did.after did.becomes c.get_style_index_or_create.new.self
    ∙ ap (λ (m : ModelState). m.has_all) c.self.view_is

pub invariant_of-self-in-Err : goal.invariant_of-self-in-Err
invariant_of-self-in-Err c =
    let did = c.change_grid.ensures in
    let set : StylesLine c.args.line c.in_ok-number.number c.change_grid.result did.sheet.grid did.after = search rules in
    let unchanged = subst (λ r. OnErr r (did.after ≡ did.sheet.grid)) c.in-Err.is set.undone in
    let same = c.truncate.ensures ∙ ap₂ (λ (n : ℕ) (xs : List Style). take n xs) c.len-count.ensures.exact c.in_ok-number.ensures.styles ∙ style_taken_back c.args.style.now c.self.inside.lists.styles in
    record {
      book = state_held_again c.self.inside c.self.invariant.book c.args.sheet did.sheet did.there c.change_grid.new.self did.after did.becomes c.truncate.new.self same unchanged;
      names = indexed_updated c.self.inside.names c.self.inside.contents.sheets _ c.self.inside.contents.definitions c.self.invariant.names _ c.args.sheet did.becomes (λ s. refl);
    }

pub returns-in-Err-clause-does : goal.returns-in-Err-clause-does
returns-in-Err-clause-does c =
    let did = c.change_grid.ensures in
    let set : StylesLine c.args.line c.in_ok-number.number c.change_grid.result did.sheet.grid did.after = search rules in
    let unchanged = subst (λ r. OnErr r (did.after ≡ did.sheet.grid)) c.in-Err.is set.undone in
    let same = c.truncate.ensures ∙ ap₂ (λ (n : ℕ) (xs : List Style). take n xs) c.len-count.ensures.exact c.in_ok-number.ensures.styles ∙ style_taken_back c.args.style.now c.self.inside.lists.styles in
    let old : ModelState = held_state c.self.inside in
    let new : ModelState = held_state (with_styles c.truncate.new.self (with_sheets c.change_grid.new.self c.self.inside)) in
    subst (λ (m : ModelState). DoesStep Wanted (set_line_step c.args.sheet c.args.line c.args.style.now (whole_of m.book)) no_fields (Err c.from.result) m new) c.self.view_is
    (wants_line old c.self.invariant.book c.args.sheet c.args.line c.args.style.now (sheet_of did.sheet) (line_sheet c.self.inside c.self.invariant.book c.args.sheet did.sheet did.there)
    c.in_ok-check_line.ensures c.from.result c.from.ensures new
    (state_again c.self.inside c.self.invariant.book c.args.sheet did.sheet did.there c.change_grid.new.self did.after did.becomes c.truncate.new.self same unchanged))

pub returns-in-Err-clause-looks_up : goal.returns-in-Err-clause-looks_up
returns-in-Err-clause-looks_up c =
    let did = c.change_grid.ensures in
    same_look_ups c.self.inside c.self.invariant.book c.args.sheet did.sheet did.there c.change_grid.new.self did.after did.becomes c.truncate.new.self
    ∙ ap (λ (m : ModelState). m.has_all) c.self.view_is
