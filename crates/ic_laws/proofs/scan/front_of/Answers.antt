use Rattle.ic_laws.proofs.RunLemmas.{end_fits, end_boundary, front_before}
use Rattle.ic_laws.proofs.scan.front_of.Goals as goal

pub overflow_sub-text : goal.overflow_sub-text
overflow_sub-text c = end_fits c.args.text.now c.args.rest.now c.requires.0 c.utf8.text c.utf8.rest c.requires.1

pub split_at-requires : goal.split_at-requires
split_at-requires c = end_boundary c.args.text.now c.args.rest.now c.requires.0 c.utf8.text c.utf8.rest c.requires.1

pub returns : goal.returns
returns c =
    front_before c.args.text.now c.args.rest.now c.requires.0 c.split_at.result.0.now c.utf8.text c.utf8.rest c.requires.1 c.split_at.ensures.front
