use Rattle.std.proofs.Common.{◌∙◌, sym}
use Rattle.std.proofs.lemmas.Cmp.{int_cmp_total}
use Rattle.std.proofs.lemmas.Map.Lookups.{exact_signed}
use Rattle.ic_cells.proofs.MapLemmas.{map_insert, on_any_error, read_at, stored}
use Rattle.ic_cells.proofs.maps.LineMap.insert.Goals as goal

pub returns-in_err-insert-clause-absent : goal.returns-in_err-insert-clause-absent
returns-in_err-insert-clause-absent g c =
    on_any_error c.from_residual.result (sym (read_at int_cmp_total c.self.inside.inner c.args.self.now _ c.args.number (stored c.args.number c.ranges.number) c.self.view_is) ∙ c.in_err-insert.ensures.absent)

pub returns-clause-before : goal.returns-clause-before
returns-clause-before g c = c.in_ok-insert.ensures.old ∙ read_at int_cmp_total c.self.inside.inner c.args.self.now _ c.args.number (stored c.args.number c.ranges.number) c.self.view_is

pub returns-clause-ok : goal.returns-clause-ok
returns-clause-ok g c =
    map_insert int_cmp_total exact_signed c.self.inside.inner c.insert.new.self c.args.self.now _ c.args.number c.args.item (stored c.args.number c.ranges.number) c.self.view_is c.in_ok-insert.ensures.updates
