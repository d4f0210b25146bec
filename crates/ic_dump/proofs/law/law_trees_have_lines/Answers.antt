use Rattle.ic_dump.proofs.TreesLemmas.{trees_have_lines}
use Rattle.ic_dump.proofs.law.law_trees_have_lines.Goals as goal

pub returns : goal.returns
returns c = trees_have_lines
