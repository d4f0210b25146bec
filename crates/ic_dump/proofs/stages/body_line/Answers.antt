use Rattle.std.proofs.Common.{[], ◌∷◌, ◌∙◌, ap, codes}
use Rattle.std.proofs.lemmas.Result.{IfOk-weaker}
use Rattle.std.specs.Str.{chars}
use Rattle.ic_machine.specs.Translation.{line_of}
use Rattle.ic_dump.specs.Lines.{scope_word}
use Rattle.ic_dump.proofs.stages.body_line.Goals as goal

pub returns : goal.returns
unfolding chars
returns c =
    let d = c.args.definition.now in
    let scope = scope_word c.args.standing.now.sheets.items d.sheet_id in
    IfOk-weaker c.line_of.result _ _
    (λ line is. is
    ∙ ap (λ w. line_of (codes "update_defined_name" ∷ w ∷ chars c.as_str-scope.result.now ∷ w ∷ chars c.as_str-scope.result.now ∷ chars c.as_str.result.now ∷ [])) c.as_str-name.ensures.characters
    ∙ ap (λ w. line_of (codes "update_defined_name" ∷ d.name ∷ w ∷ d.name ∷ w ∷ chars c.as_str.result.now ∷ [])) (ap chars c.as_str-scope.ensures.value ∙ c.in_ok-scope.ensures c.args.standing.now.sheets.items c.requires)
    ∙ ap (λ w. line_of (codes "update_defined_name" ∷ d.name ∷ scope ∷ d.name ∷ scope ∷ w ∷ [])) c.as_str.ensures.characters)
    c.line_of.ensures
