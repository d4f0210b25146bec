use Rattle.std.proofs.Common.{rules}
use Rattle.ic_grid.specs.Block.{block_at}
use Rattle.ic_machine.specs.subjects.Arrays.{put_spill_step}
use Rattle.ic_parts.specs.Fields.{no_fields}
use Rattle.ic_parts.proofs.PartUses.{grid_made}
use Rattle.ic_book.proofs.model.Model.put_spill.Goals as goal

pub returns-clause-does : goal.returns-clause-does
returns-clause-does c = grid_made (put_spill_step (block_at (c.args.row, c.args.column) c.args.width c.args.height) c.args.values.items) no_fields c.on_cells.ensures.changes (λ before after r called. search rules)
