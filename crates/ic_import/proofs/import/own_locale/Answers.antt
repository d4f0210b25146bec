use Rattle.ic_import.proofs.ImportLemmas.{locale_told}
use Rattle.ic_import.proofs.import.own_locale.Goals as goal

pub returns-in-Ok-clause-own : goal.returns-in-Ok-clause-own
returns-in-Ok-clause-own c = locale_told c.args.model.now c.in-Ok.id c.in-Ok.ensures.does
