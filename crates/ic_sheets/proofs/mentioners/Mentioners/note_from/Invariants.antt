use Rattle.std.proofs.Common.{drop, take}
use Rattle.ic_sheets.specs.Mentioners.{KeepsKnown, KnowsPool}
use Rattle.ic_sheets.proofs.mentioners.Mentioners.note_from.Given as goal

-- those before are known, and what was
abbrev pub invariant-loop-at : goal.invariant-loop-at
invariant-loop-at l = record {
  noted : KnowsPool l.self l.id (drop l.from (take l.at l.pool.formulas));
  kept : KeepsKnown l.initial.self l.self;
}
