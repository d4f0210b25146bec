use Rattle.std.proofs.Common.{ap, ◌∙◌}
use Rattle.ic_machine.specs.Book.{Book}
use Rattle.ic_parts.specs.Whole.{whole_of}
use Rattle.ic_run.proofs.TablesStay.{tables_stay}
use Rattle.ic_run.proofs.translating.is_accepted.Goals as goal

pub returns-clause-tables : goal.returns-clause-tables
returns-clause-tables c = ap (λ (b : Book). b.tables) c.in_ok-reply.ensures.whole.book ∙ tables_stay (whole_of c.args.model.now.book) c.args.line.now
