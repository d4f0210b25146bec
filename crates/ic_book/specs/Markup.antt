-- A sheet as a table in a reply.
use Rattle.std.specs.Prelude.{ℕ, List, []}
use Rattle.std.specs.List.{slice_get}
use Rattle.std.specs.Option.{option_map_or}
use Rattle.ic_machine.specs.Reply.{Field, text_field}
use Rattle.ic_parts.specs.Book.{Book}
use Rattle.ic_parts.specs.Markup.{sheet_shown}

-- the sheet at an index, from 0; nothing where there is none
abbrev pub markup_at : Book → ℕ → List ℕ
markup_at book index = option_map_or (sheet_shown book) (slice_get book.sheets index) []

-- the field of a reply that it is
abbrev pub markup_fields : Book → ℕ → List Field
markup_fields book index = text_field (markup_at book index)
