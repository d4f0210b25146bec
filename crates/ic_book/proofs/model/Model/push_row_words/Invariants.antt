use Rattle.std.proofs.Common.{◌≡◌, ◌-◌, ◌≤◌, ◌++◌, [], ◌∷◌, chars, string_bytes}
use Rattle.ic_laws.specs.Character.{line_feed}
use Rattle.ic_laws.specs.Lines.{escaped}
use Rattle.ic_sheets.specs.Sheet.{sheet_of}
use Rattle.ic_parts.specs.Markup.{row_shown}
use Rattle.ic_parts.proofs.MarkupLemmas.{followed}
use Rattle.ic_book.proofs.model.Model.push_row_words.Given as goal

-- the rows after the first so far
abbrev pub invariant-rows : goal.invariant-rows
invariant-rows l =
    (1 ≤ l.row) × (l.row ≤ l.rows)
    × (chars (string_bytes l.text) ≡ chars (string_bytes l.initial.text) ++ followed (λ row. escaped (row_shown l.self.book (sheet_of l.worksheet) l.columns row)) (escaped (line_feed ∷ [])) l.row)

abbrev pub decreases-rows : goal.decreases-rows
decreases-rows l = l.rows - l.row
