use Rattle.std.proofs.Common.{sym, ◌∙◌}
use Rattle.ic_machine.specs.Book.{Book}
use Rattle.ic_parts.specs.Whole.{whole_of}
use Rattle.ic_run.proofs.TurnLemmas.{becomes_same}
use Rattle.ic_run.proofs.translating.run_staying.Goals as goal

pub returns-clause-turn : goal.returns-clause-turn
returns-clause-turn c = λ locale language.
    let old : Book = whole_of c.args.model.now.book in
    let p = c.requires in
    becomes_same old c.args.line.now p.0 p.1 p.2.kept (whole_of c.is_accepted.new.model.book) (sym c.if-not-branch.false ∙ c.in_ok-is_accepted.ensures.accepted) c.in_ok-is_accepted.ensures.left locale language
    p.2 c.in_ok-same_line.field-0 c.in_ok-same_line.ensures
