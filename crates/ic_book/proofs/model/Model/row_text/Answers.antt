use Rattle.std.proofs.Common.{◌++◌, ℕ, List, ap, chars, ◌∙◌}
use Rattle.std.proofs.lemmas.Str.{chars-nil}
use Rattle.ic_sheets.specs.Sheet.{sheet_of}
use Rattle.ic_parts.specs.Markup.{row_shown}
use Rattle.ic_book.proofs.model.Model.row_text.Goals as goal

pub returns : goal.returns
returns c =
    let f : List ℕ = row_shown c.args.self.now.book (sheet_of c.args.worksheet.now) c.args.columns c.args.row in
    c.in_ok-push_row_places.ensures ∙ ap (λ b. chars b ++ f) c.new-text.ensures.bytes ∙ ap (λ t. t ++ f) chars-nil
