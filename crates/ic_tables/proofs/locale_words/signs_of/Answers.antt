use Rattle.std.proofs.Common.{rules}
use Rattle.ic_tables.proofs.PlaceLemmas.{of_nine}
use Rattle.ic_tables.proofs.locale_words.signs_of.Goals as goal

pub returns : goal.returns
returns c = search (rules, of_nine)
