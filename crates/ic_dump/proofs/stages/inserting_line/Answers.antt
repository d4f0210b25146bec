use Rattle.std.proofs.Common.{[], ◌∷◌, ◌∙◌, ap, codes}
use Rattle.std.proofs.lemmas.Result.{IfOk-weaker}
use Rattle.std.specs.Fmt.{decimal}
use Rattle.std.specs.Str.{chars}
use Rattle.ic_machine.specs.Translation.{line_of}
use Rattle.ic_dump.proofs.stages.inserting_line.Goals as goal

pub returns : goal.returns
unfolding chars
returns c =
    let name = c.args.sheet.now.name in
    IfOk-weaker c.line_of.result _ _
    (λ line is. is
    ∙ ap (λ w. line_of (codes "insert_sheet" ∷ w ∷ chars c.as_str-2.result.now ∷ chars c.as_str-3.result.now ∷ [])) c.as_str.ensures.characters
    ∙ ap (λ w. line_of (codes "insert_sheet" ∷ name ∷ w ∷ chars c.as_str-3.result.now ∷ [])) (ap chars c.as_str-2.ensures.value ∙ c.in_ok-index.ensures)
    ∙ ap (λ w. line_of (codes "insert_sheet" ∷ name ∷ decimal c.args.index ∷ w ∷ [])) (ap chars c.as_str-3.ensures.value ∙ c.in_ok-id.ensures))
    c.line_of.ensures
