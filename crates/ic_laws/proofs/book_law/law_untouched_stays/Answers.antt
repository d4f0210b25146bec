-- No mention passes the test, so each is left.
use Rattle.ic_laws.proofs.keeping.Kept.{spared_is_same}
use Rattle.ic_laws.proofs.keeping.Spared.{untouched_is_spared}
use Rattle.ic_laws.proofs.book_law.law_untouched_stays.Goals as goal

pub returns : goal.returns
returns c = λ change scope t e. spared_is_same change scope t (untouched_is_spared change scope t e)
