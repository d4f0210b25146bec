use Rattle.std.proofs.Common.{◌∙◌, ap, option_map, slice_get}
use Rattle.std.specs.Option.{option_and_then}
use Rattle.ic_definitions.proofs.FindingLemmas.{first_there}
use Rattle.ic_definitions.proofs.definitions.named.NamedDefinitions.with_key.Goals as goal

pub returns-in_err-place : goal.returns-in_err-place
returns-in_err-place c =
    ap (option_map (λ d. d.now)) c.from_residual.ensures ∙ ap (option_and_then (slice_get c.args.self.now.definitions.now)) c.in_err-place.ensures.place ∙ first_there c.args.key.now c.args.self.now.definitions.now

pub returns : goal.returns
returns c =
    c.definition_in.ensures ∙ ap (λ ds. slice_get ds c.in_ok-place.place) c.as_slice.ensures
    ∙ ap (option_and_then (slice_get c.args.self.now.definitions.now)) c.in_ok-place.ensures.place ∙ first_there c.args.key.now c.args.self.now.definitions.now
