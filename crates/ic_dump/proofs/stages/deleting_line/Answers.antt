use Rattle.std.proofs.Common.{[], ◌∷◌, ◌∙◌, ap, codes}
use Rattle.std.proofs.lemmas.Result.{IfOk-weaker}
use Rattle.std.specs.Str.{chars}
use Rattle.ic_machine.specs.Translation.{line_of}
use Rattle.ic_dump.proofs.stages.deleting_line.Goals as goal

pub returns : goal.returns
unfolding chars
returns c =
    IfOk-weaker c.line_of.result _ _
    (λ line is. is ∙ ap (λ w. line_of (codes "delete_sheet" ∷ w ∷ [])) (ap chars c.as_str.ensures.value ∙ c.in_ok-index.ensures))
    c.line_of.ensures
