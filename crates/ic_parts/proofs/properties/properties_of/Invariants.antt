use Rattle.std.proofs.Common.{◌≡◌, flat_map, take}
use Rattle.ic_parts.specs.Fields.{fields_of_sheet, told_sheet}
use Rattle.ic_parts.proofs.properties.properties_of.Given as goal

-- what is told so far
abbrev pub invariant-loop-sheet : goal.invariant-loop-sheet
invariant-loop-sheet l = flat_map fields_of_sheet l.all.items ≡ flat_map told_sheet (take l.sheet-index l.sheets)
