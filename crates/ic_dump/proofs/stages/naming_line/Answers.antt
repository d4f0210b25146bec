use Rattle.std.proofs.Common.{[], ◌∷◌, ◌∙◌, ap, codes}
use Rattle.std.proofs.lemmas.Result.{IfOk-weaker}
use Rattle.std.specs.Str.{chars}
use Rattle.ic_machine.specs.Translation.{line_of}
use Rattle.ic_dump.proofs.stages.naming_line.Goals as goal

pub returns : goal.returns
unfolding chars
returns c = λ sheet e.
    IfOk-weaker c.line_of.result _ _
    (λ line is. is ∙ ap (λ w. line_of (codes "rename_sheet_by_index" ∷ codes "0" ∷ w ∷ [])) e)
    c.line_of.ensures
