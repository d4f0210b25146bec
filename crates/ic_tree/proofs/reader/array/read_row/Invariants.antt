use Rattle.std.proofs.Common.{◌≡◌, length}
use Rattle.ic_laws.specs.Parse.{constant, past_separator, row}
use Rattle.ic_tree.specs.Listing.{all_listed, joined_to}
use Rattle.ic_tree.proofs.reader.array.read_row.Given as goal

abbrev pub invariant-items : goal.invariant-items
invariant-items g l =
    joined_to l.constants.items (all_listed constant past_separator (g.S.TokenSource.left l.source)) ≡ row (g.S.TokenSource.left l.initial.source)

abbrev pub decreases-items : goal.decreases-items
decreases-items g l = length (g.S.TokenSource.left l.source)
