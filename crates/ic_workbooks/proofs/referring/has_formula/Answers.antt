use Rattle.std.proofs.Common.{◌≡◌, false, true, sym, subst}
use Rattle.ic_workbooks.specs.HandedIn.{RefersInside}
use Rattle.ic_workbooks.proofs.ReferLemmas.{formula_there, no_formula}
use Rattle.ic_workbooks.proofs.referring.has_formula.Goals as goal

pub returns-in-Some : goal.returns-in-Some
returns-in-Some c =
    let there = formula_there c.args.pool.now.formulas c.args.index c.in-Some.formula.now (sym c.in-Some.ensures) in (
      λ e. (there.0, subst (RefersInside c.args.place.now.0 c.args.place.now.1) (sym there.1) (c.is_formula_inside.ensures.0 e)),
      λ h. c.is_formula_inside.ensures.1 (subst (RefersInside c.args.place.now.0 c.args.place.now.1) there.1 h.1),
    )

pub returns-in-None : goal.returns-in-None
returns-in-None c = (λ e. let no : false ≡ true = e in cc, λ h. absurd (no_formula c.args.pool.now.formulas c.args.index (sym c.in-None.ensures) h.0))
