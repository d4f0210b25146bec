use Rattle.std.proofs.Common.{◌∙◌, ap, chars}
use Rattle.std.proofs.lemmas.Result.{IfOk-weaker}
use Rattle.ic_laws.proofs.keeping.NameChanges.{key_at}
use Rattle.ic_definitions.proofs.FindingLemmas.{place_of_name}
use Rattle.ic_definitions.specs.Named.{index_with_key}
use Rattle.ic_definitions.proofs.definitions.named.NamedDefinitions.index_by_key.Goals as goal

pub returns : goal.returns
returns c =
    IfOk-weaker c.index_at.result _ _
    (λ place e. e ∙ ap (λ k. index_with_key (key_at k c.args.scope) c.args.self.now.definitions.now) (ap chars c.as_str.ensures.value ∙ c.in_ok-folded.ensures) ∙ place_of_name (chars c.args.name.now) c.args.scope c.args.self.now.definitions.now)
    c.index_at.ensures
