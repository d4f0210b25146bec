use Rattle.std.proofs.Common.{◌==◌, ◌∙◌, ap}
use Rattle.std.proofs.lemmas.Result.{IfOk-weaker}
use Rattle.std.specs.Str.{chars}
use Rattle.ic_laws.specs.Character.{equals}
use Rattle.ic_laws.specs.Scan.{first_is}
use Rattle.ic_workbooks.proofs.AskedLemmas.{same_unread}
use Rattle.ic_workbooks.proofs.asked.definitions.unread.Goals as goal

pub returns : goal.returns
unfolding chars
returns c =
    IfOk-weaker c.new-2.result _ _
    (λ d e.
    e
    ∙ same_unread c.args.name.now _ _ _ c.as_str-2.ensures.characters (c.past_equals-has_equals.ensures.has ∙ ap (first_is (λ x. x == equals)) c.as_str.ensures.characters) (c.from.ensures ∙ ap chars c.new.ensures.bytes))
    c.new-2.ensures
