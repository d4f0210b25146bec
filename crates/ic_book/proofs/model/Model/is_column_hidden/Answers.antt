use Rattle.std.proofs.Common.{rules}
use Rattle.ic_machine.specs.Reply.{bool_field}
use Rattle.ic_machine.specs.subjects.Layout.{column_hidden_step}
use Rattle.ic_parts.proofs.PartUses.{grid_read}
use Rattle.ic_book.proofs.model.Model.is_column_hidden.Goals as goal

pub returns : goal.returns
returns c = record { does = grid_read (column_hidden_step c.args.column) bool_field c.of_grid.ensures (λ grid r called. search rules) }
