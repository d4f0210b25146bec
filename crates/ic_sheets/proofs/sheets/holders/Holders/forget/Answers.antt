use Rattle.std.proofs.Common.{◌≡◌, ◌<◌, ◌∙◌, ℕ, List, ap, get_or, length, subst}
use Rattle.std.specs.FinMap.{nat_cmp-IsAntisymmetric}
use Rattle.ic_sheets.proofs.HolderLemmas.{listed_left}
use Rattle.ic_sheets.specs.Index.{is_listed}
use Rattle.ic_sheets.proofs.sheets.holders.Holders.forget.Goals as goal

pub returns-in-Ok-clause-others : goal.returns-in-Ok-clause-others
returns-in-Ok-clause-others c = λ other apart listed.
    let id = c.args.id in
    let at = c.in-Ok.at in
    ap (is_listed other) c.remove.ensures.items
    ∙ listed_left other id at c.args.self.now.ids.items (subst (λ (xs : List ℕ). at < length xs) c.deref.ensures.value c.in-Ok.ensures.bound)
    (subst (λ (xs : List ℕ). get_or xs at id ≡ id) c.deref.ensures.value (nat_cmp-IsAntisymmetric _ _ (c.in-Ok.ensures.ok id))) apart listed
