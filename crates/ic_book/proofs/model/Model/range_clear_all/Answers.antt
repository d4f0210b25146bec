use Rattle.std.proofs.Common.{rules, true}
use Rattle.ic_machine.specs.subjects.Arrays.{clear_step}
use Rattle.ic_parts.specs.Arrays.{block_of}
use Rattle.ic_parts.specs.Fields.{no_fields}
use Rattle.ic_parts.proofs.PartUses.{grid_changed}
use Rattle.ic_book.proofs.model.Model.range_clear_all.Goals as goal

pub returns-clause-does : goal.returns-clause-does
returns-clause-does c = grid_changed (clear_step true (block_of c.args.area.now)) no_fields c.on_cells.ensures.changes (λ before after r called. search rules)
