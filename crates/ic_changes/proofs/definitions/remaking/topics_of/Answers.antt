use Rattle.std.proofs.Common.{ap, ap₂, ◌∙◌, ℕ}
use Rattle.ic_pool.specs.Topics.{folded_topic}
use Rattle.ic_changes.proofs.definitions.remaking.topics_of.Goals as goal

pub returns : goal.returns
returns c =
    ap₂ (λ (a b : ℕ). let both : ℕ × ℕ = (a, b) in both) (c.folded_topic-old.ensures ∙ ap folded_topic c.as_str.ensures.characters) (c.folded_topic-new.ensures ∙ ap folded_topic c.as_str-2.ensures.characters)
