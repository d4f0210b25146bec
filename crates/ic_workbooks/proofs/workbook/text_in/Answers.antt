use Rattle.std.proofs.Common.{ap, sym, codes, ◌++◌, ◌∙◌}
use Rattle.std.specs.Str.{chars}
use Rattle.ic_workbooks.specs.Workbook.{text_in}
use Rattle.ic_workbooks.proofs.workbook.text_in.Goals as goal

pub returns-in_ok-print_bound-in-Tree : goal.returns-in_ok-print_bound-in-Tree
unfolding chars
returns-in_ok-print_bound-in-Tree g c =
    c.from.ensures ∙ c.in_ok-print_bound-in-Tree.ensures ∙ ap (text_in (g.D.Dialect.meaning c.args.d.now) (g.N.Finder.scene c.args.names.now)) (sym c.in-Tree.is)

pub returns-in_ok-after_sign-in-Raw : goal.returns-in_ok-after_sign-in-Raw
unfolding chars
returns-in_ok-after_sign-in-Raw g c =
    c.from-in-Raw.ensures ∙ c.in_ok-after_sign-in-Raw.ensures ∙ ap (λ text. codes ")" ++ text) c.as_str.ensures.characters
    ∙ ap (text_in (g.D.Dialect.meaning c.args.d.now) (g.N.Finder.scene c.args.names.now)) (sym c.in-Raw.is)
