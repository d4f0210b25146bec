use Rattle.std.proofs.Common.{sym, ap, chars, ◌∙◌}
use Rattle.std.proofs.lemmas.Str.{chars-nil}
use Rattle.ic_refs.proofs.A1ReferenceLemmas.{written_token}
use Rattle.ic_refs.proofs.a1_reference.spell_in_cell.Goals as goal

pub returns : goal.returns
returns c =
    written_token c.args.origin.row c.args.origin.column c.args.r.now _ _ _ _ (sym c.if-not-is_in_sheet.ensures) (sym c.if-not-is_inside.ensures)
    c.lent_name.ensures (ap chars c.new-text.ensures.bytes ∙ chars-nil) c.in_ok-push_sheet.ensures c.in_ok-push_place.ensures
