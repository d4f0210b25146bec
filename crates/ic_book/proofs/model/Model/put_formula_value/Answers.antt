use Rattle.std.proofs.Common.{rules}
use Rattle.ic_machine.specs.subjects.Arrays.{put_value_step}
use Rattle.ic_parts.specs.Fields.{no_fields}
use Rattle.ic_parts.proofs.PartUses.{grid_made}
use Rattle.ic_book.proofs.model.Model.put_formula_value.Goals as goal

pub returns-clause-does : goal.returns-clause-does
returns-clause-does c = grid_made (put_value_step (c.args.row, c.args.column) c.args.value) no_fields c.on_cells.ensures.changes (λ before after r called. search rules)
