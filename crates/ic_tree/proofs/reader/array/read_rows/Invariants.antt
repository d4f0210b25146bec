use Rattle.std.proofs.Common.{◌≡◌, length}
use Rattle.ic_laws.specs.Parse.{row, past_row_sign}
use Rattle.ic_tree.specs.Listing.{all_listed, joined_to}
use Rattle.ic_tree.proofs.reader.array.read_rows.Given as goal

abbrev pub invariant-items : goal.invariant-items
invariant-items g l =
    joined_to l.rows.items (all_listed row (past_row_sign (g.D.Dialect.meaning l.d)) (g.S.TokenSource.left l.source))
    ≡ all_listed row (past_row_sign (g.D.Dialect.meaning l.d)) (g.S.TokenSource.left l.initial.source)

abbrev pub decreases-items : goal.decreases-items
decreases-items g l = length (g.S.TokenSource.left l.source)
