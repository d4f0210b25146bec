use Rattle.std.proofs.Common.{chars}
use Rattle.ic_tables.proofs.Lookups.{is_some-find, is_some-option_map}
use Rattle.ic_tables.proofs.ids.has_id.Goals as goal

pub returns : goal.returns
returns g c =
    rw (c.is_some.ensures, ← is_some-find g.T.HasId.id_of (chars c.args.id.now) c.args.items.now, ← c.find_id.ensures)
    (is_some-option_map _ c.find_id.result)
