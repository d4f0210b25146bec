use Rattle.std.proofs.Common.{◌∷◌, ◌++◌, ap, chars, string_bytes, ◌∙◌}
use Rattle.std.proofs.lemmas.Int.{to_z-of_z}
use Rattle.std.specs.Fmt.{signed_decimal}
use mir.Syntax.{w32}
use Rattle.ic_laws.specs.Character.{tab}
use Rattle.ic_audit.proofs.ListedLemmas.{cell_line}
use Rattle.ic_audit.proofs.told.push_cell.Goals as goal

pub returns : goal.returns
returns c =
    cell_line (chars (string_bytes c.args.text.now)) (chars (string_bytes c.push_text.new.text)) (chars (string_bytes c.push_number.new.text)) (chars (string_bytes c.push_position.new.text)) (chars (string_bytes c.push_position-2.new.text)) (chars (string_bytes c.push_char.new.text))
    c.args.id c.args.row c.args.column c.in_ok-push_text.ensures.ok c.in_ok-push_number.ensures (c.in_ok-push_position.ensures ∙ ap (λ z. chars (string_bytes c.push_number.new.text) ++ tab ∷ signed_decimal z) (to_z-of_z w32 c.args.row c.ranges.row))
    (c.in_ok-push_position-2.ensures ∙ ap (λ z. chars (string_bytes c.push_position.new.text) ++ tab ∷ signed_decimal z) (to_z-of_z w32 c.args.column c.ranges.column)) c.in_ok-push_char.ensures.ok
