use Rattle.std.proofs.Common.{chars, string_bytes}
use Rattle.std.proofs.lemmas.Result.{IfOk-weaker}
use Rattle.ic_input.proofs.DayLemmas.{formatted_once}
use Rattle.ic_input.proofs.format.format_amount.Goals as goal

pub returns-clause-only : goal.returns-clause-only
returns-clause-only c =
    IfOk-weaker c.formatted.result _ _
    (λ s shown text other. formatted_once c.args.locale.now (chars c.args.code.now) c.args.v text (chars (string_bytes s)) other shown)
    c.formatted.ensures
