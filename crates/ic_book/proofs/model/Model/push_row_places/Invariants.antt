use Rattle.std.proofs.Common.{◌≡◌, ◌-◌, ◌≤◌, ◌++◌, chars, codes, pos, string_bytes}
use Rattle.ic_sheets.specs.Sheet.{sheet_of}
use Rattle.ic_parts.specs.Markup.{place_shown}
use Rattle.ic_parts.proofs.MarkupLemmas.{followed}
use Rattle.ic_book.proofs.model.Model.push_row_places.Given as goal

-- the places after the first so far
abbrev pub invariant-columns : goal.invariant-columns
invariant-columns l =
    (1 ≤ l.column) × (l.column ≤ l.columns)
    × (chars (string_bytes l.text) ≡ chars (string_bytes l.initial.text) ++ followed (λ column. place_shown l.self.book (sheet_of l.worksheet) (pos l.row) (pos column)) (codes "|") l.column)

abbrev pub decreases-columns : goal.decreases-columns
decreases-columns l = l.columns - l.column
