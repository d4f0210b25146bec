use Rattle.std.proofs.Common.{◌++◌, chars, ap, ◌∙◌}
use Rattle.std.proofs.lemmas.Str.{chars-nil}
use Rattle.ic_tree.specs.Printed.{tree_text}
use Rattle.ic_tree.proofs.tree_printer.print.Goals as goal

-- nothing is written before the tree
pub returns : goal.returns
unfolding tree_text
returns g c =
    c.in_ok-push_tree.ensures
    ∙ ap (λ t. t ++ tree_text (g.D.Dialect.meaning c.args.d.now) c.args.tree.now) (ap chars c.in_ok-out.ensures.bytes ∙ chars-nil)
