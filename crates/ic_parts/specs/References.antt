-- Cells that texts name, as a model has them.
use Rattle.std.specs.Prelude.{List, [], Option}
use Rattle.std.specs.Option.{option_map_or}
use Rattle.ic_refs.specs.declared.reference.CellReferenceIndex.{CellReferenceIndex}
use Rattle.ic_machine.specs.Parsed.{Parsed}
use Rattle.ic_machine.specs.Reply.{Field}
use Rattle.ic_machine.specs.subjects.Extending.{parsed_fields}

-- the index of the sheet, the row and the column
abbrev pub parsed_of : CellReferenceIndex → Parsed
parsed_of cell = record { sheet = cell.sheet; row = cell.row; column = cell.column }

-- the fields of a cell, if there is one
abbrev pub reference_fields : Option CellReferenceIndex → List Field
reference_fields cell = option_map_or (λ c. parsed_fields (parsed_of c)) cell []
