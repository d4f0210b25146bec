use Rattle.ic_grid.proofs.WrittenWhole.{is_written, items_count, put_there, styles_are, written_styled, written_whole}
use Rattle.ic_grid.proofs.grid.Grid.enter_cells.Goals as goal

pub put_array-requires-clause-count : goal.put_array-requires-clause-count
put_array-requires-clause-count c = items_count c.args.self.now c.args.block.now c.args.f c.args.styles.now c.requires.whole c.requires.area c.requires.some c.requires.styled c.in_ok-items.items.items c.in_ok-items.ensures.cells

pub returns-clause-ok : goal.returns-clause-ok
returns-clause-ok c =
    is_written c.args.self.now c.args.block.now c.args.f c.args.styles.now c.requires.whole c.requires.area c.requires.some c.requires.styled c.put_array.new.cells
    (put_there c.args.self.now c.args.block.now c.args.f c.args.styles.now c.requires.whole c.requires.area c.requires.some c.requires.styled c.in_ok-items.items.items c.in_ok-items.ensures.cells c.put_array.new.cells c.in_ok-put_array.ensures.ok)

pub returns-clause-styles : goal.returns-clause-styles
returns-clause-styles c = styles_are c.args.self.now c.args.block.now c.args.f c.args.styles.now c.requires.whole c.requires.area c.requires.some c.requires.styled c.blank_cells.new.styles c.in_ok-items.ensures.styles

pub returns-clause-whole : goal.returns-clause-whole
returns-clause-whole c =
    written_whole c.args.self.now c.args.block.now c.args.f c.args.styles.now c.requires.whole c.requires.area c.requires.some c.requires.styled c.put_array.new.cells
    (put_there c.args.self.now c.args.block.now c.args.f c.args.styles.now c.requires.whole c.requires.area c.requires.some c.requires.styled c.in_ok-items.items.items c.in_ok-items.ensures.cells c.put_array.new.cells c.in_ok-put_array.ensures.ok)
    c.requires.unmet

pub returns-clause-styled : goal.returns-clause-styled
returns-clause-styled c =
    written_styled c.args.self.now c.args.block.now c.args.f c.args.styles.now c.requires.whole c.requires.area c.requires.some c.requires.styled c.put_array.new.cells
    (put_there c.args.self.now c.args.block.now c.args.f c.args.styles.now c.requires.whole c.requires.area c.requires.some c.requires.styled c.in_ok-items.items.items c.in_ok-items.ensures.cells c.put_array.new.cells c.in_ok-put_array.ensures.ok)
    c.blank_cells.new.styles c.in_ok-items.ensures.styles
