-- The commands that write a formula out for another cell, and the one that reads the name of a cell, as the code has
-- them.
use Rattle.ic_refs.specs.declared.reference.CellReferenceIndex.{CellReferenceIndex}
use Rattle.ic_machine.specs.subjects.Extending as laws
use Rattle.ic_words.specs.declared.command.extending.Extending.{Extending}
use Rattle.ic_words.specs.declared.command.extending.Extending.TheVariants as commands

abbrev pub cell_meant : CellReferenceIndex → laws.CellOf
cell_meant cell = laws.cell_of cell.sheet cell.row cell.column

abbrev pub extending_meant : Extending → laws.Extending
extending_meant (commands.ExtendTo sheet row column target_row target_column) = laws.ExtendTo (laws.cell_of sheet row column) target_row target_column
extending_meant (commands.ExtendCopiedValue text source target) = laws.ExtendCopiedValue text (cell_meant source) (cell_meant target)
extending_meant (commands.ParseReference text) = laws.ParseReference text
