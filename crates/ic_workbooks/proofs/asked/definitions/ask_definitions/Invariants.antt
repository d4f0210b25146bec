use Rattle.ic_definitions.specs.Named.{FindsNames}
use Rattle.ic_workbooks.proofs.AskedLemmas.{UnreadTo}
use Rattle.ic_workbooks.proofs.asked.definitions.ask_definitions.Given as goal

abbrev pub invariant-loop-name : goal.invariant-loop-name
invariant-loop-name l = record {
  unread : UnreadTo l.names l.name-index l.definitions;
  finds : FindsNames l.places l.definitions;
}
