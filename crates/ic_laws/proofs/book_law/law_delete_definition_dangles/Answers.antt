-- Keys differ, so no other definition has the key that goes.
use Rattle.ic_laws.proofs.keeping.Deletes.{delete_definition_dangles}
use Rattle.ic_laws.proofs.book_law.law_delete_definition_dangles.Goals as goal

pub returns : goal.returns
returns c = delete_definition_dangles
