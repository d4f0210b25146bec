use Rattle.std.proofs.Common.{◌∙◌, ap, ◌++◌, ◌∷◌, []}
use Rattle.ic_cells.proofs.IndexLemmas.{indexed_first}
use Rattle.ic_cells.proofs.styles.Styles.new.Goals as goal

pub invariant_of-result : goal.invariant_of-result
invariant_of-result c =
    indexed_first c.new-index.result c.insert.new.self c.push.new.self.items c.in_ok-style.style c.in_ok-key.key c.new-index.ensures.empty c.in_ok-key.ensures
    c.in_ok-insert.ensures.updates c.in_ok-style.ensures (c.in_ok-push.ensures.items ∙ ap (λ xs. xs ++ c.in_ok-style.style ∷ []) c.new-list.ensures.items)
