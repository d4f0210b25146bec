use Rattle.std.proofs.Common.{◌∙◌, ◌++◌, [], ◌∷◌, ap, arith, chars, subst, string_bytes}
use Rattle.std.specs.List.{join_by, range_with_len}
use Rattle.std.proofs.lemmas.Result.{on_ok_weaker}
use Rattle.ic_laws.specs.Character.{line_feed}
use Rattle.ic_laws.specs.Lines.{escaped}
use Rattle.ic_sheets.specs.Sheet.{sheet_of}
use Rattle.ic_parts.specs.Book.{IsValidBook, ModelState}
use Rattle.ic_parts.specs.Markup.{last_of, row_shown}
use Rattle.ic_parts.proofs.CellReads.{same_keys}
use Rattle.ic_parts.proofs.GridLemmas.{its_grid}
use Rattle.ic_parts.proofs.MarkupLemmas.{columns_within, rows_within, table_told}
use Rattle.ic_book.proofs.model.Model.push_word.Goals as goal

pub push_row_words-requires-clause-rows : goal.push_row_words-requires-clause-rows
push_row_words-requires-clause-rows c =
    let s = sheet_of c.args.worksheet.now in
    let keys = same_keys c.as_map.result.now s.grid.cells c.last_of-rows.ensures.ordered c.as_map.ensures in
    rows_within s (its_grid c.args.self.now.book (subst (λ (m : ModelState). IsValidBook m.book) c.self.view_is c.self.invariant.book) c.requires.0 s c.requires.1)
    c.last_of-rows.result.0 (ap (λ p. p.0) (c.last_of-rows.ensures.last ∙ ap last_of keys))

pub row_word-requires-clause-columns : goal.row_word-requires-clause-columns
row_word-requires-clause-columns c =
    let s = sheet_of c.args.worksheet.now in
    let keys = same_keys c.as_map.result.now s.grid.cells c.last_of-rows.ensures.ordered c.as_map.ensures in
    columns_within s (its_grid c.args.self.now.book (subst (λ (m : ModelState). IsValidBook m.book) c.self.view_is c.self.invariant.book) c.requires.0 s c.requires.1)
    c.last_of-rows.result.1 (ap (λ p. p.1) (c.last_of-rows.ensures.last ∙ ap last_of keys))

pub push_row_words-requires-clause-columns : goal.push_row_words-requires-clause-columns
push_row_words-requires-clause-columns c =
    let s = sheet_of c.args.worksheet.now in
    let keys = same_keys c.as_map.result.now s.grid.cells c.last_of-rows.ensures.ordered c.as_map.ensures in
    columns_within s (its_grid c.args.self.now.book (subst (λ (m : ModelState). IsValidBook m.book) c.self.view_is c.self.invariant.book) c.requires.0 s c.requires.1)
    c.last_of-rows.result.1 (ap (λ p. p.1) (c.last_of-rows.ensures.last ∙ ap last_of keys))

pub overflow_add-columns : goal.overflow_add-columns
overflow_add-columns c =
    let s = sheet_of c.args.worksheet.now in
    let keys = same_keys c.as_map.result.now s.grid.cells c.last_of-rows.ensures.ordered c.as_map.ensures in
    let within = columns_within s (its_grid c.args.self.now.book (subst (λ (m : ModelState). IsValidBook m.book) c.self.view_is c.self.invariant.book) c.requires.0 s c.requires.1)
    c.last_of-rows.result.1 (ap (λ p. p.1) (c.last_of-rows.ensures.last ∙ ap last_of keys)) in
    omega (arith, within.1)

pub returns : goal.returns
returns c =
    let s = sheet_of c.args.worksheet.now in
    let keys = same_keys c.as_map.result.now s.grid.cells c.last_of-rows.ensures.ordered c.as_map.ensures in
    let shown = join_by (row_shown c.args.self.now.book s c.last_of-rows.result.1) (line_feed ∷ []) (range_with_len 1 c.last_of-rows.result.0) in
    on_ok_weaker c.push_row_words.result
    (λ put. put ∙ ap (λ b. chars b ++ escaped shown) c.in_ok-reserve.ensures.bytes
    ∙ ap (λ t. chars (string_bytes c.args.text.now) ++ escaped t) (table_told c.args.self.now.book s c.last_of-rows.result.0 c.last_of-rows.result.1 (ap (λ p. p.0) (c.last_of-rows.ensures.last ∙ ap last_of keys)) (ap (λ p. p.1) (c.last_of-rows.ensures.last ∙ ap last_of keys))))
    c.push_row_words.ensures
