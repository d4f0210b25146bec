use Rattle.ic_laws.proofs.RunLemmas.{end_fits}
use Rattle.ic_tree.proofs.ErrorLemmas.{bytes_of}
use Rattle.ic_tree.proofs.stored.bytes_before.Goals as goal

pub overflow_sub-result : goal.overflow_sub-result
overflow_sub-result c = end_fits c.args.text.now c.args.rest.now c.requires.0 c.utf8.text c.utf8.rest c.requires.1

pub returns : goal.returns
returns c = λ front e. bytes_of c.args.text.now c.args.rest.now front c.utf8.text c.utf8.rest e
