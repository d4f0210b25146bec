use Rattle.std.proofs.Common.{◌∙◌, Some, ap, chars, option_map}
use Rattle.ic_laws.specs.CoreBook.{Definition}
use Rattle.ic_definitions.proofs.FindingLemmas.{name_of_first}
use Rattle.ic_definitions.proofs.definitions.named.NamedDefinitions.name_of.Goals as goal

pub returns-in_err-definition : goal.returns-in_err-definition
returns-in_err-definition c =
    ap (option_map (λ name. chars name.now)) c.from_residual.ensures ∙ ap (option_map (λ (d : Definition). d.name)) c.in_err-definition.ensures ∙ name_of_first c.args.key.now c.args.self.now.definitions.now

pub returns : goal.returns
returns c = ap (λ name. Some name) c.name.ensures ∙ ap (option_map (λ (d : Definition). d.name)) c.in_ok-definition.ensures ∙ name_of_first c.args.key.now c.args.self.now.definitions.now
