use Rattle.std.proofs.Common.{◌∙◌, ap, chars}
use Rattle.ic_laws.proofs.binding.FoldedTexts.{folding_spelled}
use Rattle.ic_definitions.proofs.definition.fold_name.Goals as goal

pub returns : goal.returns
returns c = ap chars c.in_ok-folded.ensures ∙ folding_spelled _ c.utf8.name
