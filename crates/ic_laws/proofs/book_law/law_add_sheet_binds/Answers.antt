-- No other name agrees with that of an accepted new sheet.
use Rattle.ic_laws.proofs.keeping.Renames.{add_binds}
use Rattle.ic_laws.proofs.book_law.law_add_sheet_binds.Goals as goal

pub returns : goal.returns
returns c = add_binds
