use Rattle.std.proofs.Common.{◌++◌, ◌∙◌, ap, map}
use Rattle.std.specs.Prelude.{flat_map}
use Rattle.ic_parts.specs.Lent.{kept_in, placed}
use Rattle.ic_parts.proofs.LentLemmas.{all_lent}
use Rattle.ic_parts.proofs.lent.formulas_of.Goals as goal

pub returns : goal.returns
returns c =
    let pool = c.args.worksheet.now.pool.formulas in
    let m = c.as_map.result.now in
    c.in_ok-push_formulas.ensures.pushed
    ∙ ap (λ items. map placed items ++ flat_map (kept_in pool) m.entries) c.new-cells.ensures.items
    ∙ all_lent pool c.args.worksheet.now.grid m c.requires c.in_ok-push_formulas.ensures.ordered c.as_map.ensures
