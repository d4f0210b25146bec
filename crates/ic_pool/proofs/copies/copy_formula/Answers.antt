use Rattle.std.proofs.Common.{ap, sym, ◌∙◌}
use Rattle.ic_laws.specs.declared.tree.Formula.TheVariants as formulas
use Rattle.ic_laws.specs.declared.tree.Formula.{Formula}
use Rattle.ic_laws.specs.Tree.{Bound}
use Rattle.ic_pool.proofs.CopyLemmas.{same_mentions}
use Rattle.ic_pool.proofs.copies.copy_formula.Goals as goal

pub returns-in_ok-copy_changed-in-Tree : goal.returns-in_ok-copy_changed-in-Tree
returns-in_ok-copy_changed-in-Tree c =
    ap (λ (u : Bound). let f : Formula = formulas.Tree u in f) (c.in_ok-copy_changed-in-Tree.ensures ∙ same_mentions _) ∙ sym c.in-Tree.is
