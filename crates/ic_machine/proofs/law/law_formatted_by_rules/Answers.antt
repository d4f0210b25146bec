use Rattle.ic_machine.proofs.again.FormatLemmas.{date_counted, formatted_ruled, ruled_formatted}
use Rattle.ic_machine.proofs.law.law_formatted_by_rules.Goals as goal

pub returns : goal.returns
returns c = record { answered = ruled_formatted; ruled = formatted_ruled; dates = date_counted }
