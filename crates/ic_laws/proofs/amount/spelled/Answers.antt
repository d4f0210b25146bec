use Rattle.std.proofs.Common.{chars, ◌∙◌, ap, ◌++◌}
use Rattle.std.proofs.lemmas.Str.{chars-nil}
use Rattle.ic_laws.specs.Amount.{amount_text}
use Rattle.ic_laws.proofs.amount.spelled.Goals as goal

pub returns-clause-text : goal.returns-clause-text
returns-clause-text c =
    c.in_ok-push_amount.ensures ∙ ap (λ cs. cs ++ amount_text c.args.decimal c.args.v) (ap chars c.new-text.ensures.bytes ∙ chars-nil)
