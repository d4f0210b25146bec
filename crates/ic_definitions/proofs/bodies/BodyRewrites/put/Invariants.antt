use Rattle.std.proofs.Common.{◌≡◌, ◌<◌, length}
use Rattle.std.specs.List.{AllByRecursion}
use Rattle.ic_definitions.specs.Bodies.{with_bodies}
use Rattle.ic_definitions.proofs.bodies.BodyRewrites.put.Given as goal

-- what is left to put into the definitions gives what all bodies give
abbrev pub invariant-loop-new : goal.invariant-loop-new
invariant-loop-new l = record {
  left : with_bodies l.new-iterator.rest.items l.definitions ≡ with_bodies l.fn.self.bodies.items l.fn.definitions;
  within : AllByRecursion (λ new. new.at < length l.fn.definitions) l.new-iterator.rest.items;
}
