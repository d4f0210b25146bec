use Rattle.std.proofs.Common.{◌∙◌}
use Rattle.std.proofs.lemmas.Cmp.{int_cmp_total}
use Rattle.ic_cells.proofs.MapLemmas.{read_at, stored}
use Rattle.ic_cells.proofs.maps.LineMap.get.Goals as goal

pub returns : goal.returns
returns g c = c.get.ensures.value ∙ read_at int_cmp_total c.self.inside.inner c.args.self.now _ c.args.number (stored c.args.number c.ranges.number) c.self.view_is
