use Rattle.std.proofs.Common.{◌≡◌, ◌++◌, drop}
use Rattle.std.specs.Prelude.{flat_map}
use Rattle.ic_changes.specs.Mentioning.{definition_passing, mentions}
use Rattle.ic_changes.proofs.mentioning.push_definitions.Given as goal

-- what is listed so far, and the definitions that are left
abbrev pub invariant-loop-definition : goal.invariant-loop-definition
invariant-loop-definition l =
    l.sites.items ++ flat_map (definition_passing (mentions l.sought)) (drop l.definition-index l.definitions) ≡ l.initial.sites.items ++ flat_map (definition_passing (mentions l.sought)) l.definitions
