use Rattle.std.proofs.Common.{◌≡◌, drop, max}
use Rattle.ic_laws.specs.Greatest.{greatest}
use Rattle.ic_definitions.specs.Named.{scopes_of}
use Rattle.ic_definitions.proofs.definitions.changes.greatest_of.Given as goal

-- the greatest so far and those of what is left are those of all
abbrev pub invariant-loop-definition : goal.invariant-loop-definition
invariant-loop-definition l = max l.found (greatest (scopes_of (drop l.definition-index l.definitions))) ≡ greatest (scopes_of l.definitions)
