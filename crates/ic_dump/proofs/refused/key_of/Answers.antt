use Rattle.std.proofs.Common.{◌∙◌, List, ap, chars, ℕ}
use Rattle.ic_laws.proofs.binding.FoldedTexts.{folding_spelled}
use Rattle.ic_laws.specs.Name.{fold}
use Rattle.ic_laws.specs.declared.tree.NameKey.{NameKey}
use Rattle.ic_dump.proofs.refused.key_of.Goals as goal

pub returns : goal.returns
returns c =
    ap (λ (n : List ℕ). let key : NameKey = record { name = n; scope = c.args.definition.now.sheet_id } in key)
    (c.from-name.ensures ∙ ap chars c.in_ok-default_case_fold_str.ensures ∙ folding_spelled _ c.as_str.utf8 ∙ ap fold c.as_str.ensures.characters)
