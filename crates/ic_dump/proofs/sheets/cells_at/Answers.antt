use Rattle.std.proofs.Common.{◌≡◌, ◌∙◌, Some, ap, map, option_map, sym}
use Rattle.ic_laws.specs.CoreBook.{Sheet}
use Rattle.ic_parts.specs.Lent.{placed}
use Rattle.ic_dump.proofs.sheets.cells_at.Goals as goal

pub returns-in-Ok : goal.returns-in-Ok
returns-in-Ok c = λ s there.
    let both : Some s.cells ≡ Some (map placed c.in-Ok.cells.items) = sym (ap (option_map (λ (t : Sheet). t.cells)) there) ∙ c.in-Ok.ensures.formulas in
    cc
