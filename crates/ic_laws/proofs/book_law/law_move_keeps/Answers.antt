-- Ids differ, so each sheet is found by its own.
use Rattle.ic_laws.proofs.keeping.Moves.{move_keeps}
use Rattle.ic_laws.proofs.book_law.law_move_keeps.Goals as goal

pub returns : goal.returns
returns c = move_keeps
