use Rattle.std.proofs.Common.{◌∙◌, ◌++◌, [], ◌∷◌, ap, chars, subst}
use Rattle.std.specs.List.{join_by, range_with_len}
use Rattle.std.proofs.lemmas.Str.{chars-nil}
use Rattle.ic_laws.specs.Character.{line_feed}
use Rattle.ic_sheets.specs.Sheet.{sheet_of}
use Rattle.ic_parts.specs.Book.{IsValidBook, ModelState}
use Rattle.ic_parts.specs.Markup.{last_of, row_shown}
use Rattle.ic_parts.proofs.CellReads.{same_keys}
use Rattle.ic_parts.proofs.GridLemmas.{its_grid}
use Rattle.ic_parts.proofs.MarkupLemmas.{columns_within, rows_within, table_told}
use Rattle.ic_book.proofs.model.Model.markup.Goals as goal

pub push_rows-requires-clause-rows : goal.push_rows-requires-clause-rows
push_rows-requires-clause-rows c =
    let s = sheet_of c.args.worksheet.now in
    let keys = same_keys c.as_map.result.now s.grid.cells c.last_of-rows.ensures.ordered c.as_map.ensures in
    rows_within s (its_grid c.args.self.now.book (subst (λ (m : ModelState). IsValidBook m.book) c.self.view_is c.self.invariant.book) c.requires.0 s c.requires.1)
    c.last_of-rows.result.0 (ap (λ p. p.0) (c.last_of-rows.ensures.last ∙ ap last_of keys))

pub row_text-requires-clause-columns : goal.row_text-requires-clause-columns
row_text-requires-clause-columns c =
    let s = sheet_of c.args.worksheet.now in
    let keys = same_keys c.as_map.result.now s.grid.cells c.last_of-rows.ensures.ordered c.as_map.ensures in
    columns_within s (its_grid c.args.self.now.book (subst (λ (m : ModelState). IsValidBook m.book) c.self.view_is c.self.invariant.book) c.requires.0 s c.requires.1)
    c.last_of-rows.result.1 (ap (λ p. p.1) (c.last_of-rows.ensures.last ∙ ap last_of keys))

pub push_rows-requires-clause-columns : goal.push_rows-requires-clause-columns
push_rows-requires-clause-columns c =
    let s = sheet_of c.args.worksheet.now in
    let keys = same_keys c.as_map.result.now s.grid.cells c.last_of-rows.ensures.ordered c.as_map.ensures in
    columns_within s (its_grid c.args.self.now.book (subst (λ (m : ModelState). IsValidBook m.book) c.self.view_is c.self.invariant.book) c.requires.0 s c.requires.1)
    c.last_of-rows.result.1 (ap (λ p. p.1) (c.last_of-rows.ensures.last ∙ ap last_of keys))

pub returns : goal.returns
returns c =
    let s = sheet_of c.args.worksheet.now in
    let keys = same_keys c.as_map.result.now s.grid.cells c.last_of-rows.ensures.ordered c.as_map.ensures in
    c.in_ok-push_rows.ensures
    ∙ ap (λ b. chars b ++ join_by (row_shown c.args.self.now.book s c.last_of-rows.result.1) (line_feed ∷ []) (range_with_len 1 c.last_of-rows.result.0)) c.in_ok-text.ensures.bytes
    ∙ ap (λ t. t ++ join_by (row_shown c.args.self.now.book s c.last_of-rows.result.1) (line_feed ∷ []) (range_with_len 1 c.last_of-rows.result.0)) chars-nil
    ∙ table_told c.args.self.now.book s c.last_of-rows.result.0 c.last_of-rows.result.1 (ap (λ p. p.0) (c.last_of-rows.ensures.last ∙ ap last_of keys)) (ap (λ p. p.1) (c.last_of-rows.ensures.last ∙ ap last_of keys))
