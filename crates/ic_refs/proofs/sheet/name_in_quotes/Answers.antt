use Rattle.std.proofs.Common.{chars}
use Rattle.ic_refs.proofs.SheetQuoteLemmas.{read_closed}
use Rattle.ic_refs.proofs.sheet.name_in_quotes.Goals as goal

pub returns : goal.returns
returns c =
    read_closed (chars c.args.text.now) (chars c.front_of-inside.result.now) (chars c.in_ok-closing.closing.now) (chars c.in_ok-rest.rest.now)
    c.in_ok-rest.field-0-0 c.in_ok-closing.ensures c.in_ok-rest.ensures.parts c.front_of-inside.ensures
