use Rattle.std.proofs.Common.{◌≡◌, ◌∙◌, true, sym, ap, subst, rules, arith, w32}
use Rattle.std.proofs.lemmas.Int.{to_z-of_z}
use Rattle.ic_laws.specs.CoreBook.{CellPlace}
use Rattle.ic_laws.specs.Position.{is_column, is_row}
use Rattle.ic_machine.specs.Refusal.{first_refusal}
use Rattle.ic_parts.specs.Refused.{TellsOnly}
use Rattle.ic_parts.specs.Written.{cell_causes}
use Rattle.ic_parts.proofs.GridLemmas.{value_told}
use Rattle.ic_cells.proofs.MapLemmas.{stored_pair}
use Rattle.ic_parts.proofs.values.style_in.Goals as goal

pub returns-clause-refused : goal.returns-clause-refused
returns-clause-refused c =
    let grid = c.args.grid.now in
    let place : CellPlace = (c.args.row, c.args.column) in
    subst (TellsOnly c.allowed_style.result)
    (sym
    (value_told grid place (subst (λ r. is_row r ≡ true) (to_z-of_z w32 c.args.row c.ranges.row) (search (rules, arith))) (subst (λ r. is_column r ≡ true) (to_z-of_z w32 c.args.column c.ranges.column) (search (rules, arith)))
    ∙ ap (λ (p : CellPlace). first_refusal (cell_causes grid p)) (sym (stored_pair c.args.row c.args.column c.ranges.row c.ranges.column))))
    c.allowed_style.ensures.refused
