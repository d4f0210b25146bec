use Rattle.std.proofs.Common.{◌≡◌, option_map}
use Rattle.ic_laws.specs.declared.tree.NameKey.{NameKey}
use Rattle.ic_definitions.specs.Named.{index_with_key, place_at, raised}
use Rattle.ic_definitions.proofs.definitions.changes.renumber.Given as goal

-- those before this index have their places
abbrev pub invariant-loop-at : goal.invariant-loop-at
invariant-loop-at l = (key : NameKey) → place_at l.places key ≡ option_map (raised l.at) (index_with_key key l.definitions)
