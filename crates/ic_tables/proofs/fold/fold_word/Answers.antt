use Rattle.std.proofs.Common.{◌∙◌, ap, chars}
use Rattle.ic_laws.proofs.binding.FoldedTexts.{folding_spelled}
use Rattle.ic_tables.proofs.fold.fold_word.Goals as goal

pub returns : goal.returns
returns c = c.from.ensures ∙ ap chars (c.in_ok-default_case_fold_str.ensures) ∙ folding_spelled _ c.utf8.word
