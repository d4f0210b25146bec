use Rattle.std.proofs.Common.{[], sym, ap, ◌∙◌}
use Rattle.std.specs.Prelude.{unwrap_or}
use Rattle.ic_parts.proofs.NothingLemmas.{none_past, nothing}
use Rattle.ic_parts.proofs.content.string_at.Goals as goal

pub returns-in-None : goal.returns-in-None
returns-in-None c = nothing ∙ sym (ap (λ o. unwrap_or o []) (none_past c.args.strings.now c.args.index c.in-None.ensures.lookup.3))
