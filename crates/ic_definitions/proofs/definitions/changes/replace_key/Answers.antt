use Rattle.std.proofs.Common.{false, true}
use Rattle.ic_definitions.proofs.HeldKeys.{key_kept, key_replaced, tested}
use Rattle.ic_definitions.proofs.definitions.changes.replace_key.Goals as goal

pub returns-then-is_other-clause-ok : goal.returns-then-is_other-clause-ok
returns-then-is_other-clause-ok c =
    key_replaced c.args.old.now c.args.new c.args.index c.args.places.now c.insert.new.self c.remove.new.self (tested c.args.old.now c.args.new c.ne-is_other.result false c.ne-is_other.ensures c.if-is_other.true) c.in_ok-insert.ensures.updates c.remove.ensures.updates

pub returns-else-is_other-clause-ok : goal.returns-else-is_other-clause-ok
returns-else-is_other-clause-ok c =
    key_kept c.args.old.now c.args.new c.args.index c.args.places.now c.insert.new.self (tested c.args.old.now c.args.new c.ne-is_other.result true c.ne-is_other.ensures c.if-is_other.false) c.in_ok-insert.ensures.updates
