use Rattle.std.proofs.Common.{chars}
use Rattle.ic_machine.specs.subjects.Definitions.{update_of}
use Rattle.ic_book.proofs.OwnDefinitions.{update_told}
use Rattle.ic_book.proofs.model.Model.definition_left.Goals as goal

pub returns-in_ok-definition-in-Ok : goal.returns-in_ok-definition-in-Ok
returns-in_ok-definition-in-Ok c =
    update_told c.self.inside c.self.invariant.book c.args.self.now c.self.view_is (update_of (chars c.args.name.now) c.args.scope (chars c.args.new_name.now) c.args.new_scope (chars c.args.formula.now)) c.in-Ok.checked c.in-Ok.ensures.checked
    c.get_default_language-english.result.now c.get_default_language-english.ensures.found c.in_ok-definition-in-Ok.definition c.in_ok-definition-in-Ok.ensures
