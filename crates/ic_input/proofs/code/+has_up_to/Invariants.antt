use Rattle.ic_input.proofs.code.+has_up_to.Given as goal

abbrev pub decreases-has_up_to : goal.decreases-has_up_to
decreases-has_up_to l = l.most
