use Rattle.std.proofs.Common.{◌∙◌, ap, rules, sym}
use Rattle.std.proofs.lemmas.Result.{IfOk-weaker}
use Rattle.std.specs.Str.{chars}
use mir.Syntax.{w32}
use mir.Val.{SFits}
use Rattle.ic_laws.specs.CoreBook.{CellPlace}
use Rattle.ic_parts.specs.Book.{notations_in}
use Rattle.ic_dump.specs.Refused.{is_read, rereads}
use Rattle.ic_cells.proofs.MapLemmas.{stored_pair}
use Rattle.ic_dump.proofs.refused.rereads.Goals as goal

pub returns-in-Raw : goal.returns-in-Raw
returns-in-Raw c =
    let n = notations_in c.args.model.now.book in
    let place : CellPlace = (c.args.cell.now.row, c.args.cell.now.column) in
    let row_fits : SFits w32 c.args.cell.now.row = search rules in
    let column_fits : SFits w32 c.args.cell.now.column = search rules in
    IfOk-weaker c.is_read.result _ _
    (λ r is. is ∙ ap (λ (p : CellPlace). is_read n p (chars c.as_str.result.now)) (stored_pair c.args.cell.now.row c.args.cell.now.column row_fits column_fits)
    ∙ ap (is_read n place) c.as_str.ensures.characters ∙ ap (rereads n place) (sym c.in-Raw.is))
    (c.is_read.ensures c.args.model.now.book c.requires)
