use Rattle.std.proofs.Common.{chars, map, ◌++◌}
use Rattle.std.specs.Fmt.{decimal}
use Rattle.ic_sheets.specs.Numbers.{AreMarked}
use Rattle.ic_sheets.proofs.sheets.numbers.mark_all.Given as goal

abbrev pub invariant-loop-index : goal.invariant-loop-index
invariant-loop-index l = AreMarked (λ n. chars l.word ++ decimal n) (map (λ s. s.name) l.sheets) l.marks.items
