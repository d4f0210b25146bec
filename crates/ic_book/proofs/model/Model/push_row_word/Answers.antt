use Rattle.std.proofs.Common.{◌++◌, ◌∙◌, ap, arith, chars, refl, string_bytes, subst}
use Rattle.std.proofs.lemmas.Result.{on_ok_weaker}
use Rattle.ic_laws.specs.Lines.{escaped}
use Rattle.ic_sheets.specs.Sheet.{sheet_of}
use Rattle.ic_parts.specs.Book.{IsValidBook, ModelState}
use Rattle.ic_parts.specs.Markup.{IsBlankRow}
use Rattle.ic_parts.proofs.BlankRows.{behind_blank, blank_shown}
use Rattle.ic_parts.proofs.MarkupLemmas.{row_small}
use Rattle.ic_book.proofs.model.Model.push_row_word.Goals as goal

pub returns-then-is_blank_row : goal.returns-then-is_blank_row
returns-then-is_blank_row c =
    let book = c.args.self.now.book in
    let s = sheet_of c.args.worksheet.now in
    let valid = subst (λ (m : ModelState). IsValidBook m.book) c.self.view_is c.self.invariant.book in
    let blank = subst (IsBlankRow s.grid) (row_small c.args.row (omega (arith, c.requires.row))) (c.if-is_blank_row.ensures refl) in
    on_ok_weaker c.push_text.result
    (λ put. put ∙ ap (λ t. chars (string_bytes c.args.text.now) ++ t) (c.requires.blank ∙ ap escaped (blank_shown book s c.args.row c.args.columns blank (behind_blank book valid s c.requires.stands))))
    c.push_text.ensures.ok
