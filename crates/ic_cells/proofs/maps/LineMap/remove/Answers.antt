use Rattle.std.proofs.Common.{◌∙◌}
use Rattle.std.proofs.lemmas.Cmp.{int_cmp_total}
use Rattle.std.proofs.lemmas.Map.Lookups.{exact_signed}
use Rattle.ic_cells.proofs.MapLemmas.{map_remove, read_at, stored}
use Rattle.ic_cells.proofs.maps.LineMap.remove.Goals as goal

pub returns-clause-before : goal.returns-clause-before
returns-clause-before g c = c.remove.ensures.value ∙ read_at int_cmp_total c.self.inside.inner c.args.self.now _ c.args.number (stored c.args.number c.ranges.number) c.self.view_is

pub returns-clause-removed : goal.returns-clause-removed
returns-clause-removed g c =
    map_remove int_cmp_total exact_signed c.self.inside.inner c.remove.new.self c.args.self.now _ c.args.number (stored c.args.number c.ranges.number) c.self.view_is c.remove.ensures.updates
