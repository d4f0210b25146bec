use Rattle.std.proofs.Common.{◌∙◌, sym, subst, arith, List}
use Rattle.std.proofs.lemmas.Int.{ints}
use Rattle.ic_cells.specs.declared.style.Style.{Style}
use Rattle.ic_grid.proofs.BlockLemmas.{area_bounds}
use Rattle.ic_grid.proofs.SpreadLemmas.{next_nearer}
use Rattle.ic_grid.proofs.StyleLemmas.{start_more, written_more}
use Rattle.ic_grid.proofs.WalkLemmas.{in_block}
use Rattle.ic_grid.proofs.WrittenLemmas.{writing_begun, writing_done, writing_more}
use Rattle.ic_grid.specs.Written.{StartWith}
use Rattle.ic_grid.proofs.grid.Grid.blank_cells.Goals as goal

pub places-init : goal.places-init
places-init c =
    writing_begun c.args.self.now c.args.block.now c.args.f c.args.styles.now c.requires.area c.reserve.new.self.items (c.reserve.ensures.items ∙ c.new-items.ensures.items) c.first-at.result
    c.first-at.ensures

pub returns-in_err-cell-clause-more : goal.returns-in_err-cell-clause-more
returns-in_err-cell-clause-more c =
    subst (λ (l : List Style). StartWith l c.args.styles.now) (sym c.in_ok-s.ensures.styles)
    (start_more c.args.styles.now c.places.styles _ c.places.invariant.more (written_more c.args.self.now c.places.styles c.places.at))

pub returns-in_err-push-clause-more : goal.returns-in_err-push-clause-more
returns-in_err-push-clause-more c =
    subst (λ (l : List Style). StartWith l c.args.styles.now) (sym c.in_ok-s.ensures.styles)
    (start_more c.args.styles.now c.places.styles _ c.places.invariant.more (written_more c.args.self.now c.places.styles c.places.at))

pub next_place-at-requires-clause-row : goal.next_place-at-requires-clause-row
next_place-at-requires-clause-row c =
    let b = area_bounds c.args.block.now c.requires.area in
    let i = in_block c.args.block.now c.places.at (sym c.places-test.ensures) in
    omega (arith, ints, b.last_row, i.bottom)

pub next_place-at-requires-clause-column : goal.next_place-at-requires-clause-column
next_place-at-requires-clause-column c =
    let b = area_bounds c.args.block.now c.requires.area in
    let i = in_block c.args.block.now c.places.at (sym c.places-test.ensures) in
    omega (arith, ints, b.last_column, i.right)

pub places-smaller : goal.places-smaller
places-smaller c = next_nearer c.args.block.now c.places.at c.requires.area (sym c.places-test.ensures) c.next_place-at.result c.next_place-at.ensures

pub places-preserved : goal.places-preserved
places-preserved c =
    writing_more c.args.self.now c.args.block.now c.args.f c.args.styles.now c.places.items.items c.places.at c.places.styles c.places.invariant (sym c.places-test.ensures) c.written_style.new.styles c.in_ok-s.ensures.styles
    c.in_ok-s.s c.in_ok-s.ensures.number c.push.new.self.items c.in_ok-cell.cell c.in_ok-push.ensures.items c.in_ok-cell.ensures c.next_place-at.result c.next_place-at.ensures

pub returns-clause-cells : goal.returns-clause-cells
returns-clause-cells c = (writing_done c.args.self.now c.args.block.now c.args.f c.args.styles.now c.places.items.items c.places.at c.places.styles c.places.invariant (sym c.places-test.ensures)).0

pub returns-clause-styles : goal.returns-clause-styles
returns-clause-styles c = (writing_done c.args.self.now c.args.block.now c.args.f c.args.styles.now c.places.items.items c.places.at c.places.styles c.places.invariant (sym c.places-test.ensures)).1
