use Rattle.std.proofs.Common.{map, take}
use Rattle.std.specs.Option.{option_to_list}
use Rattle.std.specs.Prelude.{flat_map}
use Rattle.ic_dump.specs.Records.{AreOthers}
use Rattle.ic_dump.proofs.scopes.passing_ids.Given as goal

-- those so far
abbrev pub invariant-loop-definition : goal.invariant-loop-definition
invariant-loop-definition l = AreOthers l.seen l.ids.items (map (λ s. s.name.now.id) l.sheets) (flat_map (λ d. option_to_list d.sheet_id) (take l.definition-index l.definitions))
