-- No other name agrees with the new one of an accepted rename.
use Rattle.ic_laws.proofs.keeping.Renames.{rename_binds}
use Rattle.ic_laws.proofs.book_law.law_rename_binds.Goals as goal

pub returns : goal.returns
returns c = rename_binds
