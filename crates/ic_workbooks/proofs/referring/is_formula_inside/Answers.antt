use Rattle.std.proofs.Common.{ap, not, subst, sym, ◌∙◌}
use Rattle.ic_workbooks.specs.HandedIn.{RefersInside}
use Rattle.ic_workbooks.proofs.ReferLemmas.{inside_told, unnegated}
use Rattle.ic_workbooks.proofs.referring.is_formula_inside.Goals as goal

pub returns-in-Tree : goal.returns-in-Tree
returns-in-Tree c =
    let told = inside_told c.args.place.now.0 c.args.place.now.1 c.in-Tree.tree in (
      λ e. subst (RefersInside c.args.place.now.0 c.args.place.now.1) (sym c.in-Tree.is) (told.0 (sym c.some_outside.ensures ∙ unnegated c.some_outside.result e)),
      λ inside. ap not (c.some_outside.ensures ∙ told.1 (subst (RefersInside c.args.place.now.0 c.args.place.now.1) c.in-Tree.is inside)),
    )
