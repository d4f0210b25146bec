use Rattle.ic_share.proofs.KnownLemmas.{own_stays, shared_stays_known}
use Rattle.ic_share.proofs.law.law_shared_stays_known.Goals as goal

pub returns-clause-known : goal.returns-clause-known
returns-clause-known c = shared_stays_known

pub returns-clause-own : goal.returns-clause-own
returns-clause-own c = own_stays
