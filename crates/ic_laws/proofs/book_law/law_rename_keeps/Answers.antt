-- Dangling mentions of sheets alone change.
use Rattle.ic_laws.proofs.keeping.Renames.{rename_keeps}
use Rattle.ic_laws.proofs.book_law.law_rename_keeps.Goals as goal

pub returns : goal.returns
returns c = rename_keeps
