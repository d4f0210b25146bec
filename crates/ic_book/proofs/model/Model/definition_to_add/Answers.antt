use Rattle.std.proofs.Common.{chars, subst, sym}
use Rattle.std.proofs.lemmas.Result.{IfOk-weaker}
use Rattle.ic_machine.specs.Command.{OnDefinitions}
use Rattle.ic_machine.specs.subjects.Definitions.{NewDefinedName}
use Rattle.ic_parts.specs.Book.{whole_of}
use Rattle.ic_parts.specs.Definitions.{body_of_typed}
use Rattle.ic_parts.specs.Translated.{IsToldOf}
use Rattle.ic_changes.proofs.OwnDefinitions.{definition_gone, definition_told}
use Rattle.ic_book.proofs.model.Model.definition_to_add.Goals as goal

pub returns-in_ok-definition-in-Ok : goal.returns-in_ok-definition-in-Ok
returns-in_ok-definition-in-Ok c =
    definition_told c.args.self.now (chars c.args.name.now) c.args.scope (chars c.args.formula.now) c.in-Ok.ensures.refused c.in-Ok.id c.in-Ok.ensures.id (body_of_typed c.in-Ok.body) c.in-Ok.ensures.body
    c.in_ok-definition-in-Ok.definition c.in_ok-definition-in-Ok.ensures

pub returns-in-Err : goal.returns-in-Err
returns-in-Err c =
    let now = c.args.self.now in
    let name = chars c.args.name.now in
    let text = chars c.args.formula.now in
    IfOk-weaker c.none_unless_memory.result _ _
    (λ own h. subst (IsToldOf (whole_of now.book) (OnDefinitions (NewDefinedName name c.args.scope text))) (sym h.0) (definition_gone now name c.args.scope text c.in-Err.e c.in-Err.ensures.refused h.1))
    c.none_unless_memory.ensures
