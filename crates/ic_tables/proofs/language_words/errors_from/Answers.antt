use Rattle.std.proofs.Common.{rules}
use Rattle.ic_tables.proofs.PlaceLemmas.{of_twelve}
use Rattle.ic_tables.proofs.language_words.errors_from.Goals as goal

pub returns : goal.returns
returns c = search (rules, of_twelve)
