use Rattle.ic_definitions.specs.Named.{FindsNames}
use Rattle.ic_changes.specs.Copied.{is_copied}
use Rattle.ic_changes.proofs.CopiedDefinitions.{IsLeft}
use Rattle.ic_changes.proofs.sheet_copies.definitions.push_copies.Given as goal

abbrev pub invariant-loop-definition : goal.invariant-loop-definition
invariant-loop-definition l = record {
  left : IsLeft l.copy (is_copied l.kind l.source l.definitions.definitions.now) l.definitions.definitions.now l.fn.copies l.definition-index l.copies;
  finds : FindsNames l.places l.copies;
}
