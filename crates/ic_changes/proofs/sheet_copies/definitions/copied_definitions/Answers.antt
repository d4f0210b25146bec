use Rattle.ic_machine.specs.subjects.Sheets.{local_to, shared_about}
use Rattle.ic_changes.proofs.CopiedDefinitions.{all_copied, first_differ, more_differ}
use Rattle.ic_changes.proofs.sheet_copies.definitions.copied_definitions.Goals as goal

pub push_copies-requires-clause-differ : goal.push_copies-requires-clause-differ
push_copies-requires-clause-differ c = first_differ c.args.copy (local_to c.args.source c.args.definitions.now.definitions.now) (shared_about c.args.source c.args.definitions.now.definitions.now) c.new-copies.result c.new-copies.ensures c.requires

pub push_copies-requires-2-clause-differ : goal.push_copies-requires-2-clause-differ
push_copies-requires-2-clause-differ c =
    more_differ c.args.copy (local_to c.args.source c.args.definitions.now.definitions.now) (shared_about c.args.source c.args.definitions.now.definitions.now) c.new-copies.result c.new-copies.ensures c.push_copies.new.copies c.in_ok-push_copies.ensures.put c.requires

pub returns-clause-copies : goal.returns-clause-copies
returns-clause-copies c =
    all_copied c.args.copy (local_to c.args.source c.args.definitions.now.definitions.now) (shared_about c.args.source c.args.definitions.now.definitions.now) c.new-copies.result c.new-copies.ensures c.push_copies.new.copies c.in_ok-push_copies.ensures.put
    c.push_copies-2.new.copies c.in_ok-push_copies-2.ensures.put
