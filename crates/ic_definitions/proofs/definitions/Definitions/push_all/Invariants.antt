use Rattle.std.proofs.Common.{◌≡◌, ◌++◌, length, map, take}
use Rattle.std.specs.List.{AllByRecursion, IsDistinct}
use Rattle.ic_laws.specs.Scene.{same_key}
use Rattle.ic_definitions.specs.Named.{FindsNames, key_in}
use Rattle.ic_definitions.proofs.AppendedNames.{IsFree}
use Rattle.ic_definitions.proofs.definitions.Definitions.push_all.Given as goal

-- those that are left are to stand behind what was pushed, and are free there
abbrev pub invariant-loop-definition : goal.invariant-loop-definition
invariant-loop-definition l = record {
  left : l.self ++ l.definition-iterator.rest.items ≡ l.fn.self ++ l.fn.more.items;
  free : AllByRecursion (IsFree l.self) l.definition-iterator.rest.items;
  differ : IsDistinct same_key (map key_in l.definition-iterator.rest.items);
  first : take (length l.fn.self) l.self ≡ l.fn.self;
  finds : FindsNames l.places l.self;
}
