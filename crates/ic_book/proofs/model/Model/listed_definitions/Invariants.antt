use Rattle.std.proofs.Common.{◌≡◌, flat_map, map, take}
use Rattle.ic_parts.specs.Book.{core_of, notations_in}
use Rattle.ic_parts.specs.Definitions.{listed, listed_definition}
use Rattle.ic_book.proofs.model.Model.listed_definitions.Given as goal

-- what is listed so far
abbrev pub invariant-loop-definition : goal.invariant-loop-definition
invariant-loop-definition l = map listed l.names.items ≡ flat_map (listed_definition (notations_in l.self.book) (core_of l.self.book)) (take l.definition-index l.definitions)
