use Rattle.std.proofs.Common.{ℕ, [], ◌∷◌, ◌∙◌, ap, subst, sym}
use Rattle.ic_laws.specs.Changes.{definition_added}
use Rattle.ic_laws.specs.Name.{fold}
use Rattle.ic_laws.specs.declared.scene.NameSpelling.{NameSpelling}
use Rattle.ic_pool.specs.Topics.{SparesOthers, folded_topic}
use Rattle.ic_pool.proofs.ChangeTopics.{adding_spares}
use Rattle.ic_pool.proofs.changes.definitions.DefinitionAddedBookChange.topic.Goals as goal

pub returns : goal.returns
returns c =
    let folded = c.as_str.ensures.characters ∙ c.self.invariant ∙ ap (λ (d : NameSpelling). fold d.name) c.self.view_is in
    subst (λ (t : ℕ). SparesOthers (definition_added c.args.self.now) (t ∷ [])) (sym (c.folded_topic.ensures ∙ ap folded_topic folded)) (adding_spares c.args.self.now)
