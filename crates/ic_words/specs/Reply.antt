-- The room for replies, and the texts of fields and of a reply.
use Rattle.std.specs.Prelude.{◌≡◌, ℕ, List, chars, encode_utf8_all, false, true}
use Rattle.std.specs.List.{AllByRecursion}
use lib.Utf8.{scalars}
use Rattle.ic_lines.specs.Reading.{has_line_feed}
use Rattle.ic_machine.specs.Reply.{Field, field_text}

-- the bytes for which there is room before a reply is written that has no field, or a sheet's name and index
abbrev pub reply_room : ℕ
reply_room = 512

-- the texts of fields are characters
abbrev pub AreTexts : List Field → Type 0
AreTexts fields = AllByRecursion (λ field. scalars (field_text field) ≡ true) fields

-- a text that its bytes spell, without a line feed
abbrev pub IsLineText : List ℕ → Type 0
IsLineText text = (chars (encode_utf8_all text) ≡ text) × (has_line_feed text ≡ false)
