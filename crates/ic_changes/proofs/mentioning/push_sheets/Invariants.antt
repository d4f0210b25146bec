use Rattle.std.proofs.Common.{◌≡◌, ◌++◌, drop}
use Rattle.std.specs.Prelude.{flat_map}
use Rattle.ic_changes.specs.Mentioning.{cells_passing, mentions}
use Rattle.ic_changes.proofs.mentioning.push_sheets.Given as goal

-- what is listed so far, and the cells of the sheets that are left
abbrev pub invariant-loop-sheet : goal.invariant-loop-sheet
invariant-loop-sheet l =
    l.sites.items ++ flat_map (cells_passing (mentions l.sought)) (drop l.sheet-index l.sheets) ≡ l.initial.sites.items ++ flat_map (cells_passing (mentions l.sought)) l.sheets
