use Rattle.std.proofs.Common.{ℕ, [], ◌∷◌, ◌∙◌, ap, chars, subst, sym}
use Rattle.ic_laws.specs.Changes.{OfWords, is_of_name}
use Rattle.ic_laws.specs.declared.tree.NameMention.TheVariants as names
use Rattle.ic_pool.specs.Topics.{SparesOthers, folded_topic}
use Rattle.ic_pool.proofs.ChangeTopics.{deleting_spares}
use Rattle.ic_pool.proofs.changes.definitions.DefinitionGoneBookChange.topic.Goals as goal

pub returns : goal.returns
returns c =
    let gone = c.args.self.now in
    let change = OfWords (λ scope mention. is_of_name gone.key.now mention) gone.becomes.now (λ sheet mention. is_of_name gone.key.now mention) (names.Dangling (chars gone.name.now)) in
    subst (λ (t : ℕ). SparesOthers change (t ∷ [])) (sym (c.folded_topic.ensures ∙ ap folded_topic c.as_str.ensures.characters)) (deleting_spares gone.key.now gone.becomes.now (names.Dangling (chars gone.name.now)))
