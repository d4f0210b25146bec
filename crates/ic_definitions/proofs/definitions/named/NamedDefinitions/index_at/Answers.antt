use Rattle.std.proofs.Common.{chars, sym, ◌∙◌}
use Rattle.std.proofs.lemmas.Str.{encodes-chars}
use Rattle.ic_laws.proofs.keeping.NameChanges.{key_at}
use Rattle.ic_definitions.proofs.FindingLemmas.{none_past}
use Rattle.ic_definitions.proofs.HeldKeys.{at_held}
use Rattle.ic_definitions.proofs.definitions.named.NamedDefinitions.index_at.Goals as goal

pub returns : goal.returns
returns c =
    let key = key_at (chars c.args.folded.now) c.args.scope in
    c.copied.ensures ∙ c.get.ensures.value
    ∙ at_held c.args.self.now.places.now key c.in_ok-key.key (c.in_ok-key.ensures.name ∙ sym (encodes-chars c.args.folded.now c.utf8.folded), c.in_ok-key.ensures.scope)
    ∙ c.args.self.now.own key

pub returns-then-is_past : goal.returns-then-is_past
returns-then-is_past c =
    sym (none_past (chars c.args.folded.now) c.args.scope c.args.self.now.definitions.now (sym c.is_past.ensures ∙ c.if-is_past.true))
