use Rattle.std.proofs.Common.{chars}
use Rattle.ic_parts.proofs.ReferenceLemmas.{parse_is}
use Rattle.ic_book.proofs.model.Model.parse_reference.Goals as goal

pub returns : goal.returns
returns c = record { does = record { done = parse_is c.args.self.now (chars c.args.s.now) c.parsed.result c.parsed.ensures.parsed; before = c.parsed.ensures.valid; after = c.parsed.ensures.valid } }
