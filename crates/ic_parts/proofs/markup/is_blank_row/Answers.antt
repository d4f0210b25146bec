use Rattle.std.proofs.Common.{◌∙◌, ap, not, subst, sym, w32}
use Rattle.std.proofs.lemmas.Int.{to_z-of_z}
use Rattle.ic_parts.specs.Markup.{IsBlankRow}
use Rattle.ic_parts.proofs.BlankRows.{none_when}
use Rattle.ic_parts.proofs.markup.is_blank_row.Goals as goal

pub returns-then-is_none : goal.returns-then-is_none
returns-then-is_none c = λ is.
    subst (IsBlankRow c.args.grid.now) (to_z-of_z w32 c.args.row c.ranges.row)
    (record { free = c.is_empty_row.ensures is; plain = sym c.row_style.ensures ∙ none_when c.row_style.result (c.is_none.ensures ∙ ap not c.if-is_none.true) })
