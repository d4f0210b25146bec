-- A definition that was there is found before the new one, except by the scope.
use Rattle.ic_laws.proofs.keeping.Deletes.{new_definition_binds}
use Rattle.ic_laws.proofs.book_law.law_new_definition_binds.Goals as goal

pub returns : goal.returns
returns c = new_definition_binds
