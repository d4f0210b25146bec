use Rattle.std.proofs.Common.{◌≡◌, ◌<◌, ℕ, List, IfSome, true, chars, length, map, take, option_map, refl, sym, ap, ap₂, subst, ◌∙◌}
use Rattle.std.specs.List.{slice_get}
use Rattle.std.proofs.lemmas.Option.{slice_get-map}
use Rattle.ic_laws.specs.CoreBook.{CellPlace}
use Rattle.ic_laws.specs.CoreStep.{updated_at}
use Rattle.ic_laws.specs.FormulaReading.{cell_formula}
use Rattle.ic_cells.specs.declared.style.Style.{Style}
use Rattle.ic_machine.specs.Styling.{restyled}
use Rattle.ic_machine.specs.subjects.Writing.{unquoted}
use Rattle.ic_sheets.proofs.IndexLemmas.{read_boxed}
use Rattle.ic_sheets.specs.Sheet.{Sheet, TakesCell, formula_cell, sheet_of, with_cell_in}
use Rattle.ic_sheets.specs.declared.sheet.Sheet.{Sheet as HeldSheet}
use Rattle.ic_tables.specs.Tables.{TableSet}
use Rattle.ic_parts.specs.Book.{ModelState, core_of, notations_in}
use Rattle.ic_book.specs.Inside.{held, held_state, with_sheets, with_styles}
use Rattle.ic_changes.specs.LookUps.{LooksUpAsBefore}
use Rattle.ic_parts.specs.Values.{Shows, shown_style}
use Rattle.ic_parts.specs.Written.{WritesFormula, kind_of, value_refusal}
use Rattle.ic_parts.proofs.GridLemmas.{taken_back}
use Rattle.ic_book.proofs.HeldLemmas.{book_again, clear_at, entry_at, held_again, is_within, style_within, takes_there, written, written_held}
use Rattle.ic_parts.proofs.HeldLemmas.{whole_at, whole_updated}
use Rattle.ic_changes.proofs.LookUpLemmas.{look_ups_left}
use Rattle.ic_parts.proofs.NameIndexLemmas.{indexed_updated, indexed_seen}
use Rattle.ic_cells.proofs.MapLemmas.{stored_pair}
use Rattle.ic_book.proofs.model.Model.write_formula.Goals as goal

pub without_quote-requires : goal.without_quote-requires
without_quote-requires c =
    let sheet = c.args.sheet in
    let place : CellPlace = (c.args.row, c.args.column) in
    let body = chars c.args.body.now in
    let cell = stored_pair c.args.row c.args.column c.ranges.row c.ranges.column in
    let none = ap (λ (m : ModelState). value_refusal m.book sheet c.args.row c.args.column) c.self.view_is ∙ c.requires.allowed in
    let entry = c.as_ref-worksheet.result.now in
    let there = entry_at c.self.inside c.self.invariant.book sheet place none c.as_slice.result.now entry c.as_slice.ensures.sheets (read_boxed c.as_slice.result.now sheet c.as_ref-worksheet.ensures c.index-as_slice-sheet.is) in
    let shown =
    subst (λ o. IfSome o (λ (s : Sheet). c.args.shown ≡ shown_style s c.args.row c.args.column)) (slice_get-map sheet_of c.self.inside.contents.sheets sheet ∙ ap (option_map sheet_of) there)
    (subst (λ (m : ModelState). Shows m.book sheet c.args.row c.args.column c.args.shown) (sym c.self.view_is) c.requires.shows) in
    subst (λ k. k < length c.self.inside.lists.styles) (sym shown) (style_within c.self.inside c.self.invariant.book sheet place entry there)

pub write-requires-clause-within : goal.write-requires-clause-within
write-requires-clause-within c =
    let sheet = c.args.sheet in
    let place : CellPlace = (c.args.row, c.args.column) in
    let body = chars c.args.body.now in
    let cell = stored_pair c.args.row c.args.column c.ranges.row c.ranges.column in
    let none = ap (λ (m : ModelState). value_refusal m.book sheet c.args.row c.args.column) c.self.view_is ∙ c.requires.allowed in
    is_within c.self.inside c.self.invariant.book sheet place none

pub write-requires-clause-takes : goal.write-requires-clause-takes
write-requires-clause-takes c =
    let sheet = c.args.sheet in
    let place : CellPlace = (c.args.row, c.args.column) in
    let body = chars c.args.body.now in
    let cell = stored_pair c.args.row c.args.column c.ranges.row c.ranges.column in
    let none = ap (λ (m : ModelState). value_refusal m.book sheet c.args.row c.args.column) c.self.view_is ∙ c.requires.allowed in
    let entry = c.as_ref-worksheet.result.now in
    let there = entry_at c.self.inside c.self.invariant.book sheet place none c.as_slice.result.now entry c.as_slice.ensures.sheets (read_boxed c.as_slice.result.now sheet c.as_ref-worksheet.ensures c.index-as_slice-sheet.is) in
    subst (λ (p : CellPlace). IfSome (slice_get c.self.inside.contents.sheets sheet) (λ (s : HeldSheet). TakesCell p s.grid)) (sym cell)
    (takes_there c.self.inside c.self.invariant.book sheet place none entry there)

pub invariant_of-self-in-Ok : goal.invariant_of-self-in-Ok
invariant_of-self-in-Ok c =
    let sheet = c.args.sheet in
    let place : CellPlace = (c.args.row, c.args.column) in
    let body = chars c.args.body.now in
    let cell = stored_pair c.args.row c.args.column c.ranges.row c.ranges.column in
    let none = ap (λ (m : ModelState). value_refusal m.book sheet c.args.row c.args.column) c.self.view_is ∙ c.requires.allowed in
    let entry = c.as_ref-worksheet.result.now in
    let there = entry_at c.self.inside c.self.invariant.book sheet place none c.as_slice.result.now entry c.as_slice.ensures.sheets (read_boxed c.as_slice.result.now sheet c.as_ref-worksheet.ensures c.index-as_slice-sheet.is) in
    let shown =
    subst (λ o. IfSome o (λ (s : Sheet). c.args.shown ≡ shown_style s c.args.row c.args.column)) (slice_get-map sheet_of c.self.inside.contents.sheets sheet ∙ ap (option_map sheet_of) there)
    (subst (λ (m : ModelState). Shows m.book sheet c.args.row c.args.column c.args.shown) (sym c.self.view_is) c.requires.shows) in
    let book = c.args.self.now.book in
    let styles = c.self.inside.lists.styles in
    let pool = c.in-Ok.ensures.ok.0 in
    let k = c.in-Ok.ensures.ok.1 in
    let kind = c.kind_of-kind.result in
    let number = c.in_ok-style.style in
    let is =
    c.in_ok-formula.ensures
    ∙ ap (λ (p : CellPlace). cell_formula (notations_in book) (core_of book) entry.id p.0 p.1 body) cell
    ∙ ap (λ (m : ModelState). cell_formula (notations_in m.book) (core_of m.book) entry.id c.args.row c.args.column body) (sym c.self.view_is) in
    let numbered = c.in_ok-style.ensures.number ∙ ap (λ k. (restyled unquoted k styles).number) shown in
    let styled = c.in_ok-style.ensures.styles ∙ ap (λ k. (restyled unquoted k styles).styles) shown in
    let after =
    c.in-Ok.ensures.ok.3
    ∙ ap (λ (p : CellPlace). updated_at (λ (s : HeldSheet). record s { pool = record { formulas = pool; is_whole = true }; grid = with_cell_in p (formula_cell kind k number) s.grid }) sheet c.self.inside.contents.sheets) cell in
    record {
      book = written_held c.self.inside c.self.invariant.book c.write.new.self sheet entry there place body c.in_ok-formula.formula kind number c.without_quote.new.styles k pool c.in-Ok.ensures.ok.2 is (c.kind_of-kind.ensures ∙ ap (λ (t : TableSet). kind_of t.kinds c.in_ok-formula.formula) c.tables.ensures) numbered styled after
          (clear_at c.self.inside c.self.invariant.book sheet place none entry there);
      names = indexed_updated c.self.inside.names c.self.inside.contents.sheets _ c.self.inside.contents.definitions c.self.invariant.names _ c.args.sheet c.in-Ok.ensures.ok.3 (λ s. refl);
    }

pub returns-in-Ok-clause-written : goal.returns-in-Ok-clause-written
returns-in-Ok-clause-written c =
    let sheet = c.args.sheet in
    let place : CellPlace = (c.args.row, c.args.column) in
    let body = chars c.args.body.now in
    let cell = stored_pair c.args.row c.args.column c.ranges.row c.ranges.column in
    let none = ap (λ (m : ModelState). value_refusal m.book sheet c.args.row c.args.column) c.self.view_is ∙ c.requires.allowed in
    let entry = c.as_ref-worksheet.result.now in
    let there = entry_at c.self.inside c.self.invariant.book sheet place none c.as_slice.result.now entry c.as_slice.ensures.sheets (read_boxed c.as_slice.result.now sheet c.as_ref-worksheet.ensures c.index-as_slice-sheet.is) in
    let shown =
    subst (λ o. IfSome o (λ (s : Sheet). c.args.shown ≡ shown_style s c.args.row c.args.column)) (slice_get-map sheet_of c.self.inside.contents.sheets sheet ∙ ap (option_map sheet_of) there)
    (subst (λ (m : ModelState). Shows m.book sheet c.args.row c.args.column c.args.shown) (sym c.self.view_is) c.requires.shows) in
    let book = c.args.self.now.book in
    let styles = c.self.inside.lists.styles in
    let pool = c.in-Ok.ensures.ok.0 in
    let k = c.in-Ok.ensures.ok.1 in
    let kind = c.kind_of-kind.result in
    let number = c.in_ok-style.style in
    let is =
    c.in_ok-formula.ensures
    ∙ ap (λ (p : CellPlace). cell_formula (notations_in book) (core_of book) entry.id p.0 p.1 body) cell
    ∙ ap (λ (m : ModelState). cell_formula (notations_in m.book) (core_of m.book) entry.id c.args.row c.args.column body) (sym c.self.view_is) in
    let numbered = c.in_ok-style.ensures.number ∙ ap (λ k. (restyled unquoted k styles).number) shown in
    let styled = c.in_ok-style.ensures.styles ∙ ap (λ k. (restyled unquoted k styles).styles) shown in
    let after =
    c.in-Ok.ensures.ok.3
    ∙ ap (λ (p : CellPlace). updated_at (λ (s : HeldSheet). record s { pool = record { formulas = pool; is_whole = true }; grid = with_cell_in p (formula_cell kind k number) s.grid }) sheet c.self.inside.contents.sheets) cell in
    let now = held c.self.inside in
    let new = held (with_styles c.without_quote.new.styles (with_sheets c.write.new.self c.self.inside)) in
    subst (λ (m : ModelState). IfSome (slice_get m.book.sheets sheet) (λ s. WritesFormula sheet s place body m.book new)) c.self.view_is
    (subst (λ o. IfSome o (λ (s : Sheet). WritesFormula sheet s place body now new)) (sym (slice_get-map sheet_of c.self.inside.contents.sheets sheet ∙ ap (option_map sheet_of) there))
    (written c.self.inside c.self.invariant.book c.write.new.self sheet entry there place body c.in_ok-formula.formula kind number c.without_quote.new.styles k pool c.in-Ok.ensures.ok.2 is (c.kind_of-kind.ensures ∙ ap (λ (t : TableSet). kind_of t.kinds c.in_ok-formula.formula) c.tables.ensures) numbered styled after))

pub returns-in-Ok-clause-looks_up : goal.returns-in-Ok-clause-looks_up
returns-in-Ok-clause-looks_up c =
    ap (map (λ (s : HeldSheet). s.pool.is_whole)) c.in-Ok.ensures.ok.3 ∙ whole_updated _ (λ s. refl) c.args.sheet c.self.inside.contents.sheets ∙ ap (λ (m : ModelState). updated_at (λ b. true) c.args.sheet m.has_all) c.self.view_is

pub returns-in-Ok-clause-whole : goal.returns-in-Ok-clause-whole
returns-in-Ok-clause-whole c =
    let sheet = c.args.sheet in
    let place : CellPlace = (c.args.row, c.args.column) in
    let body = chars c.args.body.now in
    let cell = stored_pair c.args.row c.args.column c.ranges.row c.ranges.column in
    let none = ap (λ (m : ModelState). value_refusal m.book sheet c.args.row c.args.column) c.self.view_is ∙ c.requires.allowed in
    let entry = c.as_ref-worksheet.result.now in
    let there = entry_at c.self.inside c.self.invariant.book sheet place none c.as_slice.result.now entry c.as_slice.ensures.sheets (read_boxed c.as_slice.result.now sheet c.as_ref-worksheet.ensures c.index-as_slice-sheet.is) in
    ap (λ (ws : List HeldSheet). slice_get (map (λ (s : HeldSheet). s.pool.is_whole) ws) sheet) c.in-Ok.ensures.ok.3 ∙ whole_at _ (λ s. refl) sheet c.self.inside.contents.sheets entry there

pub invariant_of-self-in-Err : goal.invariant_of-self-in-Err
invariant_of-self-in-Err c =
    let same = c.truncate.ensures ∙ ap₂ (λ (n : ℕ) (xs : List Style). take n xs) c.len-count.ensures.exact c.in_ok-style.ensures.styles ∙ taken_back c.self.inside.lists.styles c.args.shown in
    record {
      book = held_again c.self.inside c.self.invariant.book c.truncate.new.self c.write.new.self same c.in-Err.ensures.err;
      names = indexed_seen c.self.inside.names c.self.inside.contents.sheets _ c.self.inside.contents.definitions c.self.invariant.names c.in-Err.ensures.err;
    }

pub returns-in-Err-clause-err : goal.returns-in-Err-clause-err
returns-in-Err-clause-err c =
    let same = c.truncate.ensures ∙ ap₂ (λ (n : ℕ) (xs : List Style). take n xs) c.len-count.ensures.exact c.in_ok-style.ensures.styles ∙ taken_back c.self.inside.lists.styles c.args.shown in
    book_again c.self.inside c.self.invariant.book c.truncate.new.self c.write.new.self same c.in-Err.ensures.err
    ∙ ap (λ (m : ModelState). m.book) c.self.view_is

pub returns-in-Err-clause-left : goal.returns-in-Err-clause-left
returns-in-Err-clause-left c =
    subst (λ (m : ModelState). LooksUpAsBefore c.args.sheet m (held_state (with_styles c.truncate.new.self (with_sheets c.write.new.self c.self.inside)))) c.self.view_is
    (look_ups_left c.args.sheet c.self.inside.contents.sheets c.write.new.self c.in-Err.ensures.looks_up)
