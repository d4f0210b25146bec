use Rattle.std.proofs.Common.{◌≡◌, ℕ, [], ◌∷◌, chars, false, Option, subst, sym}
use Rattle.ic_laws.specs.declared.tree.Formula.{Formula}
use Rattle.ic_keep.specs.Touched.{is_touched}
use Rattle.ic_pool.specs.Topics.{mentions_some}
use Rattle.ic_tree.specs.LanguageWords.{function_of}
use Rattle.ic_parts.specs.Scene.{scene_of_parts, scene_renamed}
use Rattle.ic_parts.specs.Sites.{kept_where_touched}
use Rattle.ic_changes.proofs.UpdatedTopics.{captured_about, touched_about}
use Rattle.ic_changes.proofs.definitions.remaking.UpdatingFormulaTest.topics.Goals as goal

pub returns : goal.returns
returns c =
    let u = c.args.self.now in
    let keys = u.change.now in
    let definitions = u.after.definitions.now in
    let rule =
    kept_where_touched (function_of u.english.now) (scene_of_parts u.before.sheets.now u.before.definitions.definitions.now)
    (scene_renamed u.after.sheets.now definitions.definitions.definitions.now definitions.index (chars definitions.name.now) definitions.key.now.scope) keys.old keys.new in
    captured_about rule keys (c.topics_of.result.0 ∷ c.topics_of.result.1 ∷ [])
    (subst (λ (both : ℕ × ℕ). (scope : Option ℕ) (f : Formula) → mentions_some (both.0 ∷ both.1 ∷ []) f ≡ false → is_touched keys.old keys.new f ≡ false) (sym c.topics_of.ensures) (λ scope f. touched_about keys.old keys.new f))
