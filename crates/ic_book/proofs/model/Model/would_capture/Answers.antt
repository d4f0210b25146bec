use Rattle.std.proofs.Common.{chars}
use Rattle.ic_machine.specs.subjects.Definitions.{update_of}
use Rattle.ic_changes.proofs.UpdatedDoes.{asks}
use Rattle.ic_book.proofs.model.Model.would_capture.Goals as goal

pub returns : goal.returns
returns c = record {
  does = asks c.captures-2.result c.args.self.now (update_of (chars c.args.name.now) c.args.scope (chars c.args.new_name.now) c.args.new_scope (chars c.args.new_formula.now)) c.captures-2.ensures.ok c.captures-2.ensures.refused c.captures-2.ensures.valid;
}
