use Rattle.std.proofs.Common.{[], ◌∷◌, ◌∙◌, ap, codes}
use Rattle.std.proofs.lemmas.Result.{IfOk-weaker}
use Rattle.std.specs.Str.{chars}
use Rattle.ic_machine.specs.Translation.{line_of}
use Rattle.ic_dump.specs.Lines.{plain_body}
use Rattle.ic_dump.proofs.stages.defining_line.Goals as goal

pub returns : goal.returns
unfolding chars
returns c =
    IfOk-weaker c.line_of.result _ _
    (λ line is. is
    ∙ ap (λ w. line_of (codes "new_defined_name" ∷ w ∷ chars c.as_str-2.result.now ∷ plain_body ∷ [])) c.as_str.ensures.characters
    ∙ ap (λ w. line_of (codes "new_defined_name" ∷ c.args.definition.now.name ∷ w ∷ plain_body ∷ [])) (ap chars c.as_str-2.ensures.value ∙ c.in_ok-scope.ensures c.args.standing.now.sheets.items c.requires))
    c.line_of.ensures
