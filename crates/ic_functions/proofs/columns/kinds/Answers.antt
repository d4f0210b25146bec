use Rattle.std.proofs.Common.{◌∙◌}
use Rattle.ic_functions.specs.Rows.{kind_in}
use Rattle.ic_functions.proofs.RowLemmas.{three_parts}
use Rattle.ic_functions.proofs.columns.kinds.Goals as goal

pub returns : goal.returns
returns c =
    c.from.ensures
    ∙ three_parts kind_in _ _ _ _ _ _ _ c.text.ensures c.text-2.ensures c.text-3.ensures c.new-kinds.ensures.items c.in_ok-add_kinds.ensures
    c.in_ok-add_kinds-2.ensures c.in_ok-add_kinds-3.ensures
