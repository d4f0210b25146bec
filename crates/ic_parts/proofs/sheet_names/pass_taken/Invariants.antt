use Rattle.std.proofs.Common.{map}
use Rattle.ic_parts.specs.SheetNames.{AreTaken, name_with}
use Rattle.ic_parts.proofs.sheet_names.pass_taken.Given as goal

-- all names so far are taken
abbrev pub invariant-loop-passed : goal.invariant-loop-passed
invariant-loop-passed l = AreTaken (map (λ s. s.name) l.sheets) (name_with l.name) l.passed
