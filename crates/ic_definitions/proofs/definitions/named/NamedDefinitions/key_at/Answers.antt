use Rattle.std.proofs.Common.{◌≡◌, ◌∙◌, ap, sym, chars}
use Rattle.ic_laws.proofs.keeping.NameChanges.{key_at}
use Rattle.ic_laws.specs.Name.{fold}
use Rattle.ic_definitions.proofs.FindingLemmas.{key_found, key_lacking}
use Rattle.ic_definitions.proofs.definitions.named.NamedDefinitions.key_at.Goals as goal

pub returns-then-is_some : goal.returns-then-is_some
returns-then-is_some c =
    let same : chars c.as_str.result.now ≡ fold (chars c.args.word.now) = ap chars c.as_str.ensures.value ∙ c.in_ok-folded.ensures in
    let put = c.key_with.ensures ∙ ap (λ f. key_at (chars f) c.args.scope) (sym c.as_str.ensures.value) in
    key_found c.args.self.now.definitions.now (chars c.args.word.now) (chars c.as_str.result.now) c.args.scope c.key_with.result c.in_ok-index_at.field-0 same put c.in_ok-index_at.ensures (sym c.is_some.ensures ∙ c.if-is_some.true)

pub returns : goal.returns
returns c =
    let same : chars c.as_str.result.now ≡ fold (chars c.args.word.now) = ap chars c.as_str.ensures.value ∙ c.in_ok-folded.ensures in
    key_lacking c.args.self.now.definitions.now (chars c.args.word.now) (chars c.as_str.result.now) c.args.scope c.in_ok-index_at.field-0 same c.in_ok-index_at.ensures (sym c.is_some.ensures ∙ c.if-is_some.false)
