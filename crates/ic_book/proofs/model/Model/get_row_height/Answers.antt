use Rattle.std.proofs.Common.{rules}
use Rattle.ic_machine.specs.Reply.{number_field}
use Rattle.ic_machine.specs.subjects.Layout.{get_height_step}
use Rattle.ic_parts.proofs.PartUses.{grid_read}
use Rattle.ic_book.proofs.model.Model.get_row_height.Goals as goal

pub returns : goal.returns
returns c = record { does = grid_read (get_height_step c.args.row) number_field c.of_grid.ensures (λ grid r called. search rules) }
