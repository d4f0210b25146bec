use Rattle.std.proofs.Common.{rules}
use Rattle.std.proofs.lemmas.Str.{encodes-chars}
use Rattle.ic_refs.proofs.offset.bytes_before.Goals as goal

pub returns : goal.returns
returns c = rw (encodes-chars c.args.rest.now c.utf8.rest) (search rules)
