use Rattle.std.proofs.lemmas.Result.{IfOk-weaker}
use Rattle.std.proofs.Common.{chars}
use Rattle.ic_machine.proofs.again.FormatLemmas.{formatted_is}
use Rattle.ic_parts.proofs.settings.amount_by.Goals as goal

pub returns : goal.returns
returns c = IfOk-weaker c.format_amount.result _ _ (λ s h. formatted_is c.args.locale.now (chars c.args.code.now) c.args.amount _ h) c.format_amount.ensures.shown
