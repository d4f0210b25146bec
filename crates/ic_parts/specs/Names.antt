-- When what finds the sheets and the definitions of a book by their names is true of them.
use Rattle.std.specs.Prelude.{List, map}
use Rattle.ic_laws.specs.CoreBook.{Definition}
use Rattle.ic_definitions.specs.Named.{FindsNames}
use Rattle.ic_sheets.specs.Index.{FindsSheets}
use Rattle.ic_sheets.specs.declared.sheet.Sheet.{Sheet as HeldSheet}
use Rattle.ic_parts.specs.SheetNames.{KnowsNumbers}
use Rattle.ic_parts.specs.declared.names.NameIndex.{NameIndex}

-- At each key it has what the plain search in the sheets, or in the definitions, answers; and the numbers that are noted are
-- taken.
pub record IsIndexed (index : NameIndex) (held : List HeldSheet) (definitions : List Definition) : Type 0 where
  pub sheets : FindsSheets index.sheets held
  pub names : FindsNames index.names definitions
  pub numbers : KnowsNumbers index.numbers (map (λ s. s.name) held)
