use Rattle.ic_input.proofs.CountedLemmas.{counted_numbered, numbered_counted, shown_counted}
use Rattle.ic_input.proofs.law.law_days_count_from.Goals as goal

pub returns : goal.returns
returns c = record { counted = counted_numbered; only = numbered_counted; shown = shown_counted }
