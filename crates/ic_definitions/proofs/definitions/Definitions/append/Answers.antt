use Rattle.std.proofs.Common.{◌++◌, ap, refl, subst, ◌∙◌}
use Rattle.std.specs.List.{AllByRecursion}
use Rattle.ic_definitions.specs.Bodies.{HasFoundAll}
use Rattle.ic_definitions.proofs.AppendedNames.{fits_first}
use Rattle.ic_definitions.proofs.definitions.Definitions.append.Goals as goal

pub apply-requires : goal.apply-requires
apply-requires c =
    (fits_first c.args.bodies c.args.self.now c.args.more c.push_all.new.self c.more.inside.may_dangle _ c.requires.fits refl (λ e. subst (AllByRecursion HasFoundAll) c.more.view_is (c.more.invariant.0.dangles e))
    (c.in_default.ensures.ok ∙ ap (λ xs. c.args.self.now ++ xs) c.into_list.ensures.list)).1

pub returns-clause-ok : goal.returns-clause-ok
returns-clause-ok c =
    c.apply.ensures.bodies
    ∙ (fits_first c.args.bodies c.args.self.now c.args.more c.push_all.new.self c.more.inside.may_dangle _ c.requires.fits refl (λ e. subst (AllByRecursion HasFoundAll) c.more.view_is (c.more.invariant.0.dangles e))
    (c.in_default.ensures.ok ∙ ap (λ xs. c.args.self.now ++ xs) c.into_list.ensures.list)).0

pub returns-clause-finds : goal.returns-clause-finds
returns-clause-finds c = c.apply.ensures.finds c.push_all.new.places c.push_all.ensures.finds
