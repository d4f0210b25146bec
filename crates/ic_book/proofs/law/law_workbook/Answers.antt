use Rattle.ic_workbooks.proofs.HandedInLemmas.{meets_all, read_back}
use Rattle.ic_workbooks.proofs.TakenAgain.{taken_again}
use Rattle.ic_book.proofs.law.law_workbook.Goals as goal

pub returns : goal.returns
returns c = record { meets = meets_all; stands = read_back; again = taken_again }
