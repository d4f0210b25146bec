use Rattle.std.proofs.Common.{◌∙◌, ◌++◌, ◌∷◌, [], ap, rules, sym}
use Rattle.std.specs.Fmt.{decimal}
use Rattle.std.specs.Str.{chars}
use Rattle.ic_dump.proofs.PassingLemmas.{not_put, tested, was_put}
use Rattle.ic_dump.proofs.passing.push_if_free.Goals as goal

pub returns-in_ok-push : goal.returns-in_ok-push
returns-in_ok-push c = λ taken finds.
    was_put taken (decimal c.args.number) (decimal c.args.number) c.args.names.now.items _
    (sym (c.contains.ensures ∙ tested c.args.folded.now taken c.as_str.result.now c.args.number finds c.as_str.utf8 (ap chars c.as_str.ensures.value ∙ c.in_ok-numeral.ensures)) ∙ search rules)
    (c.in_ok-push.ensures.items ∙ ap (λ x. c.args.names.now.items ++ x ∷ []) (c.from.ensures ∙ c.in_ok-numeral.ensures))

pub returns-else-not-contains : goal.returns-else-not-contains
returns-else-not-contains c = λ taken finds.
    not_put taken (decimal c.args.number) (decimal c.args.number) c.args.names.now.items
    (sym (c.contains.ensures ∙ tested c.args.folded.now taken c.as_str.result.now c.args.number finds c.as_str.utf8 (ap chars c.as_str.ensures.value ∙ c.in_ok-numeral.ensures)) ∙ search rules)
