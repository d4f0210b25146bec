use Rattle.std.proofs.Common.{◌≡◌, ◌++◌}
use Rattle.std.specs.BTreeSet.{contains}
use Rattle.std.specs.Ordering.{nat_cmp}
use Rattle.ic_parts.specs.Sites.{sites_in}
use Rattle.ic_parts.proofs.sites.push_cells.Given as goal

-- what is listed so far, and the sites of the cells that are left
abbrev pub invariant-loop-place : goal.invariant-loop-place
invariant-loop-place l =
    l.sites.items ++ sites_in l.id (contains nat_cmp l.places) l.place-iterator ≡ l.initial.sites.items ++ sites_in l.id (contains nat_cmp l.places) l.cells.entries
