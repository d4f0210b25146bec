use Rattle.ic_tree.proofs.ClashLemmas.{shown_reads_unless_clash}
use Rattle.ic_tree.proofs.law.law_shown_reads.Goals as goal

pub returns : goal.returns
returns c = shown_reads_unless_clash
