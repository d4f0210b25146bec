use Rattle.ic_tables.proofs.formats.+are_up_to.Given as goal

abbrev pub decreases-are_up_to : goal.decreases-are_up_to
decreases-are_up_to l = l.most
