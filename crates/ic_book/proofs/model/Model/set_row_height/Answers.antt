use Rattle.std.proofs.Common.{rules}
use Rattle.ic_machine.specs.subjects.Layout.{set_height_step}
use Rattle.ic_parts.specs.Fields.{no_fields}
use Rattle.ic_parts.proofs.PartUses.{grid_made}
use Rattle.ic_book.proofs.model.Model.set_row_height.Goals as goal

pub returns-clause-does : goal.returns-clause-does
returns-clause-does c = grid_made (set_height_step c.args.row c.args.height) no_fields c.on_grid.ensures.changes (λ before after r called. search rules)
