use Rattle.std.proofs.Common.{rules, ◌≡◌, ◌∙◌, ap, sym, subst, length, IfErr, Ok, Some}
use Rattle.std.specs.FinMap as finite
use Rattle.ic_grid.specs.Value.{formula_array}
use Rattle.ic_grid.proofs.SpillAllowed.{answer_is}
use Rattle.ic_grid.specs.Block.{block_at}
use Rattle.ic_grid.specs.Calls.{Answer, IsRefusal}
use Rattle.ic_grid.specs.Shape.{celled}
use Rattle.ic_grid.specs.Spill.{spilled}
use Rattle.ic_grid.specs.declared.block.Block.{Block}
use Rattle.ic_grid.specs.declared.grid.Grid.{Grid}
use Rattle.ic_grid.proofs.grid.Grid.spill.Goals as goal

pub returns-in_err-can_spill-clause-err : goal.returns-in_err-can_spill-clause-err
returns-in_err-can_spill-clause-err c =
    let block : c.at-block.result ≡ block_at (c.args.row, c.args.column) c.args.width c.args.height = search rules in
    let formula : formula_array (c.args.row, c.args.column) (finite.get c.args.self.now.cells (c.args.row, c.args.column)) ≡ Some (c.in-Some.f, c.in-Some.s, c.in-Some.array) = search rules in
    subst (λ (r : Answer). IfErr c.from_residual.result (IsRefusal r))
    (sym (answer_is c.args.self.now.merged_cells c.args.self.now.cells (c.args.row, c.args.column) c.args.width c.args.height c.at-block.result (length c.args.values.items) block c.in-Some.f c.in-Some.s c.in-Some.array formula))
    (search rules)

pub returns-in_err-spill_array-clause-err : goal.returns-in_err-spill_array-clause-err
returns-in_err-spill_array-clause-err c =
    let block : c.at-block.result ≡ block_at (c.args.row, c.args.column) c.args.width c.args.height = search rules in
    let formula : formula_array (c.args.row, c.args.column) (finite.get c.args.self.now.cells (c.args.row, c.args.column)) ≡ Some (c.in-Some.f, c.in-Some.s, c.in-Some.array) = search rules in
    subst (λ (r : Answer). IfErr c.from_residual-in_err-spill_array.result (IsRefusal r))
    (sym (answer_is c.args.self.now.merged_cells c.args.self.now.cells (c.args.row, c.args.column) c.args.width c.args.height c.at-block.result (length c.args.values.items) block c.in-Some.f c.in-Some.s c.in-Some.array formula))
    (search rules)

pub returns-clause-allowed : goal.returns-clause-allowed
returns-clause-allowed c =
    let block : c.at-block.result ≡ block_at (c.args.row, c.args.column) c.args.width c.args.height = search rules in
    let formula : formula_array (c.args.row, c.args.column) (finite.get c.args.self.now.cells (c.args.row, c.args.column)) ≡ Some (c.in-Some.f, c.in-Some.s, c.in-Some.array) = search rules in
    subst (λ (r : Answer). r ≡ Ok tt)
    (sym (answer_is c.args.self.now.merged_cells c.args.self.now.cells (c.args.row, c.args.column) c.args.width c.args.height c.at-block.result (length c.args.values.items) block c.in-Some.f c.in-Some.s c.in-Some.array formula))
    (search rules)

pub returns-clause-ok : goal.returns-clause-ok
returns-clause-ok c =
    let block : c.at-block.result ≡ block_at (c.args.row, c.args.column) c.args.width c.args.height = search rules in
    c.in_ok-spill_array.ensures.ok
    ∙ ap (λ (d : Block). let g : Grid = record c.args.self.now { cells = spilled celled c.args.self.now.rows c.args.self.now.columns d c.args.values.items c.args.self.now.cells } in g) block
