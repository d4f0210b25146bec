-- The fields of replies, by the values that calls answer.
use Rattle.std.specs.Prelude.{String, ℕ, List, [], ◌∷◌, ◌++◌, Option, Some, chars, flat_map, option_map, string_bytes}
use Rattle.std.specs.Option.{option_map_or}
use Rattle.std.specs.declared.alloc.Global.{Global}
use Rattle.std.specs.Global.{Vec}
use Rattle.ic_refs.specs.declared.reference.CellReferenceIndex.{CellReferenceIndex}
use Rattle.ic_cells.specs.declared.sheet.CellIndex.{CellIndex}
use Rattle.ic_cells.specs.declared.sheet.SheetProperties.{SheetProperties}
use Rattle.ic_cells.specs.declared.style.Style.{Style}
use Rattle.ic_cells.specs.declared.value.CellType.{CellType}
use Rattle.ic_cells.specs.declared.workbook.FmtSettings.{FmtSettings}
use Rattle.ic_cells.specs.declared.workbook.Theme.{Theme}
use Rattle.ic_machine.specs.Reply.{ColorField, Field, NumberField, PositionField, TextField, optional_text_field, text_field}
use Rattle.ic_machine.specs.Styling.{style_fields}
use Rattle.ic_machine.specs.subjects.Reading.{type_name}
use Rattle.ic_machine.specs.subjects.Sheets.{named_fields}

-- nothing
abbrev pub no_fields : Unit {0} → List Field
no_fields nothing = []

-- a number, or none
abbrev pub scope_field : Option ℕ → List Field
scope_field number = NumberField number ∷ []

-- a text, if there is one
abbrev pub string_field : Option (String Global) → List Field
string_field text = optional_text_field (option_map (λ s. chars (string_bytes s)) text)

-- a text
abbrev pub string_only : String Global → List Field
string_only text = text_field (chars (string_bytes text))

-- the name of a theme
abbrev pub theme_field : Theme → List Field
theme_field theme = text_field theme.name

-- a listed definition: its name, the index of the sheet that it is for, or none, and its body
abbrev pub fields_of_definition : String Global × Option ℕ × String Global → List Field
fields_of_definition listed = TextField (chars (string_bytes listed.0)) ∷ NumberField listed.1 ∷ TextField (chars (string_bytes listed.2)) ∷ []

abbrev pub definitions_fields : Vec (String Global × Option ℕ × String Global) → List Field
definitions_fields names = flat_map fields_of_definition names.items

-- what is told of each sheet: its name, the word of its state, its color and its id
abbrev pub fields_of_sheet : SheetProperties → List Field
fields_of_sheet sheet = TextField sheet.name ∷ TextField sheet.state ∷ ColorField sheet.color ∷ NumberField (Some sheet.sheet_id) ∷ []

abbrev pub sheets_fields : Vec SheetProperties → List Field
sheets_fields sheets = flat_map fields_of_sheet sheets.items

-- what is told of a new sheet or of a copy: its name and its index
abbrev pub named_sheet_fields : String Global × ℕ → List Field
named_sheet_fields named = named_fields (chars (string_bytes named.0)) named.1

-- the name of a type
abbrev pub type_field : CellType → List Field
type_field kind = text_field (type_name kind)

-- a style, if there is one
abbrev pub optional_style_fields : Option Style → List Field
optional_style_fields style = option_map_or style_fields style []

-- the places of cells: the index of the sheet, the row and the column of each
abbrev pub fields_of_place : CellIndex → List Field
fields_of_place place = NumberField (Some place.index) ∷ PositionField place.row ∷ PositionField place.column ∷ []

abbrev pub places_fields : Vec CellIndex → List Field
places_fields places = flat_map fields_of_place places.items

-- a cell that a text names, if it names one: the index of its sheet, its row and its column
abbrev pub fields_of_cell : CellReferenceIndex → List Field
fields_of_cell cell = NumberField (Some cell.sheet) ∷ PositionField cell.row ∷ PositionField cell.column ∷ []

abbrev pub optional_cell_fields : Option CellReferenceIndex → List Field
optional_cell_fields cell = option_map_or fields_of_cell cell []

-- the formats of a locale with an example each: of the currency and the short date, and of the long date and the number
abbrev pub front_settings : FmtSettings → List Field
front_settings settings = TextField settings.currency ∷ TextField settings.currency_format ∷ TextField settings.short_date ∷ TextField settings.short_date_example ∷ []

abbrev pub back_settings : FmtSettings → List Field
back_settings settings = TextField settings.long_date ∷ TextField settings.long_date_example ∷ TextField settings.number_fmt ∷ TextField settings.number_example ∷ []

abbrev pub fields_of_settings : FmtSettings → List Field
fields_of_settings settings = front_settings settings ++ back_settings settings
