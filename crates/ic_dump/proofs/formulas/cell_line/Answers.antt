use Rattle.std.proofs.Common.{[], ◌∷◌, ◌∙◌, ap, codes}
use Rattle.std.proofs.lemmas.Int.{to_z-of_z}
use Rattle.std.proofs.lemmas.Result.{IfOk-weaker}
use Rattle.std.specs.Fmt.{decimal, signed_decimal}
use Rattle.std.specs.Str.{chars}
use mir.Syntax.{w32}
use Rattle.ic_machine.specs.Translation.{line_of}
use Rattle.ic_dump.proofs.formulas.cell_line.Goals as goal

pub returns : goal.returns
unfolding chars
returns c =
    λ index e.
    let text = chars c.args.text.now in
    IfOk-weaker c.line_of.result _ _
    (λ line is. is
    ∙ ap (λ w. line_of (codes "update_cell_with_formula" ∷ w ∷ chars c.as_str.result.now ∷ chars c.as_str-2.result.now ∷ text ∷ [])) e
    ∙ ap (λ w. line_of (codes "update_cell_with_formula" ∷ decimal index ∷ w ∷ chars c.as_str-2.result.now ∷ text ∷ [])) (ap chars c.as_str.ensures.value ∙ c.in_ok-row.ensures ∙ ap signed_decimal (to_z-of_z w32 c.args.row c.ranges.row))
    ∙ ap (λ w. line_of (codes "update_cell_with_formula" ∷ decimal index ∷ signed_decimal c.args.row ∷ w ∷ text ∷ [])) (ap chars c.as_str-2.ensures.value ∙ c.in_ok-column.ensures ∙ ap signed_decimal (to_z-of_z w32 c.args.column c.ranges.column)))
    c.line_of.ensures
