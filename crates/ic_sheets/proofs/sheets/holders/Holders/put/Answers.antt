use Rattle.std.proofs.Common.{◌≡◌, ◌<◌, ◌∙◌, ℕ, List, ap, cond, get_or, length, subst}
use Rattle.std.specs.FinMap.{nat_cmp-IsAntisymmetric}
use Rattle.std.specs.List.{insert}
use Rattle.ic_sheets.proofs.HolderLemmas.{keeps_longer, listed_beside, listed_found}
use Rattle.ic_sheets.specs.Index.{is_listed}
use Rattle.ic_sheets.proofs.sheets.holders.Holders.put.Goals as goal

pub returns-else-is_err-clause-kept : goal.returns-else-is_err-clause-kept
returns-else-is_err-clause-kept c =
    let ids = c.args.self.now.ids.items in
    let put : c.insert.new.self.items ≡ insert ids c.in-Err.at c.args.id = c.insert.ensures.items ∙ ap (λ b. cond b (insert ids c.in-Err.at c.args.id) ids) c.if-is_err.ensures.negation in
    keeps_longer c.args.self.now (record { ids = c.insert.new.self; has_all = c.args.self.now.has_all }) (λ has. has)
    (λ q listed. ap (is_listed q) put ∙ listed_beside q c.args.id c.in-Err.at ids listed)

pub returns-in_default-clause-put : goal.returns-in_default-clause-put
returns-in_default-clause-put c = λ has.
    let id = c.args.id in
    let at = c.in_default.field-0 in
    listed_found id at c.args.self.now.ids.items (subst (λ (xs : List ℕ). at < length xs) c.deref.ensures.value c.in_default.ensures.bound)
    (subst (λ (xs : List ℕ). get_or xs at id ≡ id) c.deref.ensures.value (nat_cmp-IsAntisymmetric _ _ (c.in_default.ensures.ok id)))
