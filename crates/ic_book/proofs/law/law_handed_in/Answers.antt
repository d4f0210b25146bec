use Rattle.ic_workbooks.proofs.AcceptedWorkbook.{accepted_valid}
use Rattle.ic_workbooks.proofs.SameTexts.{texts_again}
use Rattle.ic_workbooks.proofs.TakenAgain.{only_memory}
use Rattle.ic_book.proofs.law.law_handed_in.Goals as goal

pub returns : goal.returns
returns c = record { valid = accepted_valid; again = texts_again; only_memory = only_memory }
