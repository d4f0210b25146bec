use Rattle.std.proofs.Common.{List, ap, chars, ℕ, ◌∙◌}
use Rattle.ic_laws.proofs.binding.FoldedTexts.{folding_spelled}
use Rattle.ic_laws.specs.declared.tree.NameKey.{NameKey}
use Rattle.ic_changes.proofs.definitions.remaking.key_named.Goals as goal

pub returns : goal.returns
returns c =
    ap (λ (folded : List ℕ). let key : NameKey = record { name = folded; scope = c.args.scope } in key) (c.from-folded.ensures ∙ ap chars c.in_ok-default_case_fold_str.ensures ∙ folding_spelled _ c.utf8.name)
