use Rattle.std.proofs.Common.{sym, ◌∙◌}
use Rattle.ic_definitions.proofs.MentionedBodies.{not_among}
use Rattle.ic_definitions.proofs.mentioned.Mentioned.may_have.Goals as goal

pub returns-else-not-self : goal.returns-else-not-self
returns-else-not-self c = λ e body knows. not_among c.args.self.now c.args.topic c.if-not-self.false (sym c.contains.ensures ∙ e) body knows
