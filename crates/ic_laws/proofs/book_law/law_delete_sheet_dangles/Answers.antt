-- Names and ids differ, so nothing else is found by the name that goes.
use Rattle.ic_laws.proofs.keeping.Deletes.{delete_dangles}
use Rattle.ic_laws.proofs.book_law.law_delete_sheet_dangles.Goals as goal

pub returns : goal.returns
returns c = delete_dangles
