use Rattle.ic_tree.proofs.ClashLemmas.{english_binds}
use Rattle.ic_tree.proofs.EnglishLemmas.{english_free}
use Rattle.ic_tree.proofs.law.law_english_reads.Goals as goal

pub returns : goal.returns
returns c = record { free = english_free; binds = english_binds }
