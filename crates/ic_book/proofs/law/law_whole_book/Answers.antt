use Rattle.ic_parts.proofs.WholeLemmas.{whole_core}
use Rattle.ic_book.proofs.law.law_whole_book.Goals as goal

pub returns : goal.returns
returns c = λ book valid. whole_core book
