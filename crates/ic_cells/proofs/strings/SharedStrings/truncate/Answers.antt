use Rattle.ic_cells.proofs.TextLemmas.{known_take}
use Rattle.ic_cells.proofs.strings.SharedStrings.truncate.Goals as goal

pub invariant_of-self : goal.invariant_of-self
invariant_of-self c =
    known_take c.self.inside.places c.truncate.new.self c.self.inside.list c.truncate-2.new.self c.args.len c.self.invariant
    c.truncate.ensures c.truncate-2.ensures
