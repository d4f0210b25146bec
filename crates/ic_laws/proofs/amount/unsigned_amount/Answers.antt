use Rattle.std.proofs.Common.{chars}
use Rattle.ic_laws.proofs.AmountReading.{answers_each, answers_written}
use Rattle.ic_laws.proofs.amount.unsigned_amount.Goals as goal

pub returns-clause-written : goal.returns-clause-written
returns-clause-written c = answers_written c.args.decimal (chars c.args.text.now) c.amount_of.result c.amount_of.ensures

pub returns-clause-each : goal.returns-clause-each
returns-clause-each c n apart w = answers_each c.args.decimal (chars c.args.text.now) c.amount_of.result c.amount_of.ensures n apart w
