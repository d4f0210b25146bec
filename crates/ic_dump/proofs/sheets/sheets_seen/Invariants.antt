use Rattle.std.proofs.Common.{◌≡◌, map, take}
use Rattle.ic_parts.specs.Book.{core_of}
use Rattle.ic_dump.specs.Records.{core_seen}
use Rattle.ic_dump.proofs.sheets.sheets_seen.Given as goal

-- those so far
abbrev pub invariant-loop-index : goal.invariant-loop-index
invariant-loop-index l = map core_seen l.sheets.items ≡ take l.index (core_of l.model.book).sheets
