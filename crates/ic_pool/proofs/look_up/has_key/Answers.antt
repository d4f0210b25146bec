use Rattle.std.proofs.Common.{◌≡◌, ◌∙◌, Some, ap, sym, bytes_eq}
use Rattle.std.specs.List.{slice_get}
use Rattle.std.proofs.lemmas.Option.{slice_get-get_or}
use Rattle.ic_laws.specs.declared.tree.Formula.{Formula}
use Rattle.ic_pool.specs.LookUp.{has_key}
use Rattle.ic_pool.proofs.HashLemmas.{is_eq-key_cmp}
use Rattle.ic_pool.proofs.look_up.has_key.Goals as goal

pub returns-in_ok-other-in-Some : goal.returns-in_ok-other-in-Some
returns-in_ok-other-in-Some c =
    let there : slice_get c.args.formulas.now c.args.at ≡ Some c.in-Some.formula.now =
    slice_get-get_or c.args.formulas.now c.args.at c.in-Some.formula.now c.in-Some.ensures.lookup.3.0 ∙ ap (λ (x : Formula). Some x) (sym c.in-Some.ensures.lookup.1) in
    c.eq.ensures ∙ is_eq-key_cmp c.args.key.now c.in_ok-other-in-Some.other ∙ ap (bytes_eq c.args.key.now) c.in_ok-other-in-Some.ensures
    ∙ ap (has_key c.args.key.now) (sym there)
