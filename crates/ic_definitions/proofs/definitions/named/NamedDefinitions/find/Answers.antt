use Rattle.std.proofs.Common.{◌≡◌, ◌∙◌, Some, None, ap, sym, refl, chars}
use Rattle.ic_laws.proofs.keeping.NameChanges.{key_at}
use Rattle.ic_laws.specs.Name.{fold}
use Rattle.ic_definitions.specs.Named.{definitions_scene}
use Rattle.ic_definitions.proofs.FindingLemmas.{found_either, key_found, key_lacking}
use Rattle.ic_definitions.proofs.definitions.named.NamedDefinitions.find.Goals as goal

pub returns-then-is_some : goal.returns-then-is_some
returns-then-is_some c =
    let ds = c.args.self.now.definitions.now in
    let same : chars c.as_str.result.now ≡ fold (chars c.args.word.now) = ap chars c.as_str.ensures.value ∙ c.in_ok-folded.ensures in
    let put = c.key_with.ensures ∙ ap (λ f. key_at (chars f) c.args.scope) (sym c.as_str.ensures.value) in
    found_either (definitions_scene ds) c.args.scope (chars c.args.word.now) (Some c.key_with.result) _
    (key_found ds (chars c.args.word.now) (chars c.as_str.result.now) c.args.scope c.key_with.result c.in_ok-local.local same put c.in_ok-local.ensures (sym c.is_some.ensures ∙ c.if-is_some.true))
    refl

pub returns-then-is_some-2 : goal.returns-then-is_some-2
returns-then-is_some-2 c =
    let ds = c.args.self.now.definitions.now in
    let same : chars c.as_str.result.now ≡ fold (chars c.args.word.now) = ap chars c.as_str.ensures.value ∙ c.in_ok-folded.ensures in
    let same_again : chars c.as_str-2.result.now ≡ fold (chars c.args.word.now) = ap chars c.as_str-2.ensures.value ∙ c.in_ok-folded.ensures in
    let put = c.key_with-then-is_some-2.ensures ∙ ap (λ f. key_at (chars f) None) (sym c.as_str-2.ensures.value) in
    found_either (definitions_scene ds) c.args.scope (chars c.args.word.now) None (Some c.key_with-then-is_some-2.result)
    (key_lacking ds (chars c.args.word.now) (chars c.as_str.result.now) c.args.scope c.in_ok-local.local same c.in_ok-local.ensures (sym c.is_some.ensures ∙ c.if-is_some.false))
    (key_found ds (chars c.args.word.now) (chars c.as_str-2.result.now) None c.key_with-then-is_some-2.result c.in_ok-global.global same_again put c.in_ok-global.ensures (sym c.is_some-2.ensures ∙ c.if-is_some-2.true))

pub returns : goal.returns
returns c =
    let ds = c.args.self.now.definitions.now in
    let same : chars c.as_str.result.now ≡ fold (chars c.args.word.now) = ap chars c.as_str.ensures.value ∙ c.in_ok-folded.ensures in
    let same_again : chars c.as_str-2.result.now ≡ fold (chars c.args.word.now) = ap chars c.as_str-2.ensures.value ∙ c.in_ok-folded.ensures in
    found_either (definitions_scene ds) c.args.scope (chars c.args.word.now) None None
    (key_lacking ds (chars c.args.word.now) (chars c.as_str.result.now) c.args.scope c.in_ok-local.local same c.in_ok-local.ensures (sym c.is_some.ensures ∙ c.if-is_some.false))
    (key_lacking ds (chars c.args.word.now) (chars c.as_str-2.result.now) None c.in_ok-global.global same_again c.in_ok-global.ensures (sym c.is_some-2.ensures ∙ c.if-is_some-2.false))
