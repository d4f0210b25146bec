use Rattle.std.proofs.Common.{◌∙◌, ◌-◌, ◌+◌, refl}
use Rattle.ic_sheets.proofs.KeptLemmas.{moved_is, taken}
use Rattle.ic_sheets.proofs.ShiftLemmas.{shifted_down, shifted_up}
use Rattle.ic_sheets.proofs.sheets.edits.shift.Goals as goal

pub returns-then-from-to : goal.returns-then-from-to
returns-then-from-to c =
    let xs = c.args.sheets.now in
    let one = taken xs c.args.from c.requires.from in
    shifted_up xs c.rotate_left.new.self c.args.from c.args.to (c.args.to + 1 - c.args.from) one.sheet refl c.if-from-to.true c.requires.to one.read c.rotate_left.ensures.after
    ∙ moved_is xs c.args.from c.args.to one.sheet c.requires.from one.read

pub returns-else-from-to : goal.returns-else-from-to
returns-else-from-to c =
    let xs = c.args.sheets.now in
    let one = taken xs c.args.from c.requires.from in
    shifted_down xs c.rotate_right.new.self c.args.from c.args.to (c.args.from + 1 - c.args.to) one.sheet refl c.if-from-to.false c.requires.from one.read c.rotate_right.ensures.after
    ∙ moved_is xs c.args.from c.args.to one.sheet c.requires.from one.read
