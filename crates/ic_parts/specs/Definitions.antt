-- The definitions of a book as they are listed, and the bodies of definitions as they were typed.
use Rattle.std.specs.Prelude.{String, ℕ, List, Option, chars, flat_map, option_map, option_to_list, string_bytes}
use Rattle.std.specs.declared.alloc.Global.{Global}
use Rattle.ic_laws.specs.CoreBook.{CoreBook, Definition}
use Rattle.ic_laws.specs.CoreStep.{listed_scope}
use Rattle.ic_laws.specs.FormulaReading.{Body, shown_body}
use Rattle.ic_laws.specs.Notations.{Notations}
use Rattle.ic_parts.specs.declared.definitions.body.TypedBody.{TypedBody}

-- a definition as it is listed: its name, the index of the sheet that it is local to, if there is one, and its body
abbrev pub Listed : Type 0
Listed = List ℕ × Option ℕ × List ℕ

-- a definition where it is listed: nothing of one that is local to a sheet which is gone
abbrev pub listed_definition : Notations → CoreBook → Definition → List Listed
listed_definition n book d = option_to_list (option_map (λ (scope : Option ℕ). (d.name, scope, shown_body n book d.has_equals d.body)) (listed_scope book d.scope))

-- the definitions that are local to none, or to a sheet of the book, in their order
abbrev pub listed_definitions : Notations → CoreBook → List Listed
listed_definitions n book = flat_map (listed_definition n book) book.definitions

-- the texts of one that a call lists
abbrev pub listed : String Global × Option ℕ × String Global → Listed
listed item = (chars (string_bytes item.0), item.1, chars (string_bytes item.2))

-- a body that was read
abbrev pub body_of_typed : TypedBody → Body
body_of_typed body = record { has_equals = body.has_equals; tree = body.tree }
