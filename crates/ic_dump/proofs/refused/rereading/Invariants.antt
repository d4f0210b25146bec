use Rattle.std.proofs.Common.{◌≡◌, drop, map}
use Rattle.std.specs.List.{slice_get}
use Rattle.std.specs.Prelude.{flat_map}
use Rattle.ic_parts.specs.Book.{notations_in}
use Rattle.ic_dump.specs.Records.{core_seen}
use Rattle.ic_dump.proofs.RefusedLemmas.{rereading_of}
use Rattle.ic_dump.proofs.refused.rereading.Given as goal

-- what is left decides
abbrev pub invariant-loop-sheet : goal.invariant-loop-sheet
invariant-loop-sheet l = slice_get (flat_map (rereading_of (notations_in l.model.book)) (drop l.sheet-index (map core_seen l.sheets))) 0 ≡ slice_get (flat_map (rereading_of (notations_in l.model.book)) (map core_seen l.sheets)) 0
