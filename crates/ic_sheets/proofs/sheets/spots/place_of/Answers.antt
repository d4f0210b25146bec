use Rattle.std.proofs.Common.{nat_lt, rules}
use Rattle.std.proofs.lemmas.Bool.{ltb-false, ltb-true}
use Rattle.std.proofs.lemmas.List.Sorted.{IsPartitionPoint-from_clause, IsPartitionedBy-ltb}
use Rattle.ic_sheets.specs.declared.sheets.spots.Spot.{Spot}
use Rattle.ic_sheets.proofs.SpotLemmas.{rising}
use Rattle.ic_sheets.proofs.sheets.spots.place_of.Goals as goal

pub returns-clause-below : goal.returns-clause-below
returns-clause-below c = λ k d from lt.
    let spots = c.args.spots.now in
    let parts =
    IsPartitionPoint-from_clause (λ (s : Spot). nat_lt s.id c.args.id) spots c.partition_point.result c.partition_point.ensures.partitioned (IsPartitionedBy-ltb (λ (s : Spot). s.id) spots c.args.id (rising spots 0 c.requires))
    (λ a r f' k. search rules) in
    ltb-true _ _ (parts.0 k d from lt)

pub returns-clause-above : goal.returns-clause-above
returns-clause-above c = λ k d from lt.
    let spots = c.args.spots.now in
    let parts =
    IsPartitionPoint-from_clause (λ (s : Spot). nat_lt s.id c.args.id) spots c.partition_point.result c.partition_point.ensures.partitioned (IsPartitionedBy-ltb (λ (s : Spot). s.id) spots c.args.id (rising spots 0 c.requires))
    (λ a r f' k. search rules) in
    ltb-false _ _ (parts.1 k d from lt)
