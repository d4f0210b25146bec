use Rattle.std.proofs.Common.{List, ap, flat_map, ◌∙◌}
use Rattle.std.proofs.lemmas.List.{take_all}
use Rattle.ic_sheets.specs.declared.sheet.Sheet.{Sheet as HeldSheet}
use Rattle.ic_parts.specs.Fields.{told_sheet}
use Rattle.ic_parts.proofs.properties.properties_of.Goals as goal

pub returns : goal.returns
returns c =
    c.loop-sheet.invariant ∙ ap (λ (ws : List HeldSheet). flat_map told_sheet ws) (take_all c.loop-sheet.sheet-index c.args.sheets.now c.loop-sheet-test.false)
