use Rattle.std.proofs.Common.{◌≡◌, ◌++◌, drop}
use Rattle.ic_laws.specs.Keeping.{changed_key}
use Rattle.ic_parts.specs.Sites.{sites_of_bodies}
use Rattle.ic_parts.proofs.sites.push_bodies.Given as goal

-- what is listed so far, and the sites of the bodies that are left
abbrev pub invariant-loop-new : goal.invariant-loop-new
invariant-loop-new l =
    l.sites.items ++ sites_of_bodies (changed_key l.change.old l.change.new) l.change.old l.definitions (drop l.new-index l.bodies)
    ≡ l.initial.sites.items ++ sites_of_bodies (changed_key l.change.old l.change.new) l.change.old l.definitions l.bodies
