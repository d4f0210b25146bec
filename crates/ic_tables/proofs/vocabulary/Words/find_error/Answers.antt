use Rattle.ic_tables.proofs.OrderLemmas.{error_any}
use Rattle.ic_tables.proofs.vocabulary.Words.find_error.Goals as goal

pub returns : goal.returns
returns c = error_any _ _ _ _ c.find_front.result c.as_slice.ensures c.args.self.now.ordered.errors c.find_front.ensures
