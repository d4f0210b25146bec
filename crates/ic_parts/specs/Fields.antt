-- The fields of a reply, by what a call answers: those of the machine, and those of definitions and sheets as a model has
-- them.
use Rattle.std.specs.Prelude.{String, ℕ, List, [], ◌∷◌, Option, Some, flat_map}
use Rattle.std.specs.declared.alloc.Global.{Global}
use Rattle.std.specs.Global.{Vec}
use Rattle.ic_cells.specs.Sheet.{state_word}
pub use Rattle.ic_machine.specs.Fields.{fields_of_sheet, named_sheet_fields, no_fields, scope_field, sheets_fields, string_field, string_only, theme_field}
use Rattle.ic_machine.specs.Reply.{ColorField, Field, NumberField, TextField}
use Rattle.ic_sheets.specs.declared.sheet.Sheet.{Sheet as HeldSheet}
use Rattle.ic_parts.specs.Definitions.{Listed, listed}

-- what is told of a sheet of the book: its name, the word of its state, its color and its id
abbrev pub told_sheet : HeldSheet → List Field
told_sheet sheet = TextField sheet.name ∷ TextField (state_word sheet.tab.state) ∷ ColorField sheet.tab.color ∷ NumberField (Some sheet.id) ∷ []

-- the name, the scope and the body of each definition that is listed
abbrev pub fields_of_listed : Listed → List Field
fields_of_listed item = TextField item.0 ∷ NumberField item.1 ∷ TextField item.2 ∷ []

abbrev pub listed_fields : Vec (String Global × Option ℕ × String Global) → List Field
listed_fields names = flat_map (λ item. fields_of_listed (listed item)) names.items
