-- Nothing changes on the way there, and nothing on the way back.
use Rattle.ic_laws.proofs.keeping.Renames.{rename_back}
use Rattle.ic_laws.proofs.book_law.law_rename_back.Goals as goal

pub returns : goal.returns
returns c = rename_back
