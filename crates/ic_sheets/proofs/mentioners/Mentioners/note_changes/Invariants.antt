use Rattle.std.proofs.Common.{take}
use Rattle.std.specs.List.{AllByRecursion}
use Rattle.ic_sheets.specs.Mentioners.{KeepsKnown, KnowsFormula}
use Rattle.ic_sheets.proofs.mentioners.Mentioners.note_changes.Given as goal

-- those before are known, and what was
abbrev pub invariant-loop-change : goal.invariant-loop-change
invariant-loop-change l = record {
  noted : AllByRecursion (λ change. KnowsFormula l.self l.id change.formula) (take l.change-index l.changes);
  kept : KeepsKnown l.initial.self l.self;
}
