use Rattle.std.proofs.Common.{rules, false}
use Rattle.ic_machine.specs.subjects.Arrays.{clear_step}
use Rattle.ic_parts.specs.Arrays.{block_of}
use Rattle.ic_parts.specs.Fields.{no_fields}
use Rattle.ic_parts.proofs.PartUses.{grid_changed}
use Rattle.ic_book.proofs.model.Model.range_clear_contents.Goals as goal

pub returns-clause-does : goal.returns-clause-does
returns-clause-does c = grid_changed (clear_step false (block_of c.args.range.now)) no_fields c.on_cells.ensures.changes (λ before after r called. search rules)
