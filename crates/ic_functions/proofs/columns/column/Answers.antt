use Rattle.std.proofs.Common.{◌∙◌}
use Rattle.ic_functions.specs.Rows.{word_at}
use Rattle.ic_functions.proofs.RowLemmas.{three_parts}
use Rattle.ic_functions.proofs.columns.column.Goals as goal

pub returns : goal.returns
returns c =
    c.from.ensures
    ∙ three_parts (word_at c.args.place) _ _ _ _ _ _ _ c.text.ensures c.text-2.ensures c.text-3.ensures c.new-words.ensures.items c.in_ok-add_column.ensures
    c.in_ok-add_column-2.ensures c.in_ok-add_column-3.ensures
