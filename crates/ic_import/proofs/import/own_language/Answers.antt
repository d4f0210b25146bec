use Rattle.ic_import.proofs.ImportLemmas.{language_told}
use Rattle.ic_import.proofs.import.own_language.Goals as goal

pub returns-in-Ok : goal.returns-in-Ok
returns-in-Ok c = language_told c.args.model.now c.in-Ok.id c.in-Ok.ensures.does
