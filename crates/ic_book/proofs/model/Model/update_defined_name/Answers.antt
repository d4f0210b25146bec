use Rattle.std.proofs.Common.{chars}
use Rattle.ic_machine.specs.subjects.Definitions.{update_of}
use Rattle.ic_changes.proofs.UpdatedDoes.{means_same, updates}
use Rattle.ic_book.proofs.model.Model.update_defined_name.Goals as goal

pub returns-clause-does : goal.returns-clause-does
returns-clause-does c =
    updates c.update.result c.args.self.now c.update.new.self (update_of (chars c.args.name.now) c.args.scope (chars c.args.new_name.now) c.args.new_scope (chars c.args.new_formula.now)) c.update.ensures.ok c.update.ensures.refused c.update.ensures.err c.update.ensures.before c.update.ensures.after

pub returns-clause-means : goal.returns-clause-means
returns-clause-means c =
    means_same c.update.result c.args.self.now c.update.new.self (update_of (chars c.args.name.now) c.args.scope (chars c.args.new_name.now) c.args.new_scope (chars c.args.new_formula.now))
    (updates c.update.result c.args.self.now c.update.new.self (update_of (chars c.args.name.now) c.args.scope (chars c.args.new_name.now) c.args.new_scope (chars c.args.new_formula.now)) c.update.ensures.ok c.update.ensures.refused c.update.ensures.err c.update.ensures.before c.update.ensures.after)
