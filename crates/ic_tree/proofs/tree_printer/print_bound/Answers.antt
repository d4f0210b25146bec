use Rattle.std.proofs.Common.{◌++◌, chars, ap, ◌∙◌}
use Rattle.std.proofs.lemmas.Str.{chars-nil}
use Rattle.ic_tree.specs.BoundText.{bound_text}
use Rattle.ic_tree.specs.Printed.{tree_text}
use Rattle.ic_tree.proofs.tree_printer.print_bound.Goals as goal

-- the sign is written into an empty text, and the formula after it
pub returns : goal.returns
unfolding bound_text tree_text
returns g c =
    c.in_ok-push_tree.ensures
    ∙ ap (λ front. front ++ bound_text (g.N.Finder.scene c.args.names.now) (g.D.Dialect.meaning c.args.d.now) c.args.tree.now)
    (c.in_ok-push_text.ensures.ok ∙ ap (λ t. t ++ chars c.args.sign.now) (ap chars c.in_ok-out.ensures.bytes ∙ chars-nil))
