use mir.Val.{SFits}
use Rattle.std.proofs.Common.{rules, w32, ap, ◌∙◌}
use Rattle.ic_grid.specs.Written.{with_array}
use Rattle.ic_sheets.proofs.CellLemmas.{stored_block}
use Rattle.ic_sheets.proofs.sheet.enter_block.Goals as goal

pub returns-in-Ok-clause-ok : goal.returns-in-Ok-clause-ok
returns-in-Ok-clause-ok c =
    let b = c.args.block.now in
    let row : SFits w32 b.row = search rules in
    let column : SFits w32 b.column = search rules in
    let width : SFits w32 b.width = search rules in
    let height : SFits w32 b.height = search rules in
    c.in-Ok.ensures.ok ∙ ap (λ b. (with_array c.args.grid.now b c.args.at c.args.styles.now).0) (stored_block b.row b.column b.width b.height row column width height)
