use Rattle.std.proofs.Common.{◌∙◌, sym}
use Rattle.ic_parts.specs.Book.{core_of, notations_in}
use Rattle.ic_dump.proofs.DumpLemmas.{raw_cause}
use Rattle.ic_dump.proofs.dumping.refuse.Goals as goal

pub refuse_cells-requires-clause-none : goal.refuse_cells-requires-clause-none
refuse_cells-requires-clause-none c = sym c.in_ok-raw_body.ensures ∙ c.in-None.is

pub returns-in-Some : goal.returns-in-Some
returns-in-Some c =
    let b = c.args.model.now.book in
    raw_cause (notations_in b) (core_of b) c.in-Some.key (sym c.in_ok-raw_body.ensures ∙ c.in-Some.is)
