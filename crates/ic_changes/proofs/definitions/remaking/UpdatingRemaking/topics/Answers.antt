use Rattle.std.proofs.Common.{◌≡◌, ℕ, [], ◌∷◌, false, Option, subst, sym}
use Rattle.ic_laws.specs.declared.tree.Formula.{Formula}
use Rattle.ic_keep.specs.Touched.{is_touched}
use Rattle.ic_pool.specs.Topics.{mentions_some}
use Rattle.ic_changes.proofs.UpdatedTopics.{touched_about}
use Rattle.ic_changes.proofs.definitions.remaking.UpdatingRemaking.topics.Goals as goal

pub returns : goal.returns
returns c =
    let keys = c.args.self.now.change.now in
    subst (λ (both : ℕ × ℕ). (scope : Option ℕ) (f : Formula) → mentions_some (both.0 ∷ both.1 ∷ []) f ≡ false → is_touched keys.old keys.new f ≡ false) (sym c.topics_of.ensures) (λ scope f. touched_about keys.old keys.new f)
