-- It is bound from what it spells.
use Rattle.ic_laws.proofs.keeping.Holds.{settled_holds}
use Rattle.ic_laws.proofs.book_law.law_settled_holds.Goals as goal

pub returns : goal.returns
returns c = settled_holds
