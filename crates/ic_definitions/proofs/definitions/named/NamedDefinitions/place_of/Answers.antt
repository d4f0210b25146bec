use Rattle.std.proofs.Common.{◌∙◌, ap, position, sym}
use Rattle.ic_definitions.proofs.FindingLemmas.{has_key, place_is}
use Rattle.ic_definitions.proofs.definitions.named.NamedDefinitions.place_of.Goals as goal

pub returns-in-Err-clause-place : goal.returns-in-Err-clause-place
returns-in-Err-clause-place c =
    c.first_with_key.ensures ∙ ap (position (has_key c.args.key.now)) c.in_order-definitions.ensures.list ∙ sym (place_is c.args.key.now c.args.self.now.definitions.now)
