use Rattle.ic_run.proofs.MadeLemmas.{plain_line}
use Rattle.ic_run.proofs.made.MadeCommand.to_line.Goals as goal

pub whole_line-requires : goal.whole_line-requires
whole_line-requires c = plain_line _ c.args.self.now c.in_ok-text.ensures
