use Rattle.std.proofs.Common.{rules}
use Rattle.ic_machine.specs.subjects.Styles.{delete_column_step}
use Rattle.ic_parts.specs.Fields.{no_fields}
use Rattle.ic_parts.proofs.PartUses.{grid_changed}
use Rattle.ic_book.proofs.model.Model.delete_column_style.Goals as goal

pub returns-clause-does : goal.returns-clause-does
returns-clause-does c = grid_changed (delete_column_step c.args.column) no_fields c.on_grid.ensures.changes (λ before after r called. search rules)
