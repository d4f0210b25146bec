use Rattle.ic_machine.proofs.contents.PlacedLemmas.{is_placed, placed_index}
use Rattle.ic_machine.proofs.law.law_formula_is_placed.Goals as goal

pub returns : goal.returns
returns c = record { placed = is_placed; alone = placed_index }
