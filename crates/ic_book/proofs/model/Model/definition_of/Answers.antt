use Rattle.std.proofs.Common.{List, ℕ, ap, ap₂, chars, sym, ◌∙◌}
use Rattle.std.proofs.lemmas.Result.{IfOk-weaker}
use Rattle.ic_laws.proofs.binding.FoldedTexts.{folding_spelled}
use Rattle.ic_laws.specs.Binding.{bound}
use Rattle.ic_laws.specs.CoreBook.{Definition}
use Rattle.ic_laws.specs.CoreStep.{scene_with_definition}
use Rattle.ic_laws.specs.Notations.{english_function}
use Rattle.ic_laws.specs.Tree.{Bound}
use Rattle.ic_laws.specs.declared.tree.Formula.TheVariants as formulas
use Rattle.ic_laws.specs.declared.tree.NameKey.{NameKey}
use Rattle.ic_tree.proofs.NotationLaws.{english_function_is}
use Rattle.ic_parts.specs.Book.{ModelState, core_of, notations_in}
use Rattle.ic_parts.specs.Scene.{scene_with}
use Rattle.ic_parts.specs.declared.scene.BookScene.{BookScene}
use Rattle.ic_parts.proofs.AddedNames.{scene_with_is}
use Rattle.ic_book.proofs.model.Model.definition_of.Goals as goal

pub new-scene-requires : goal.new-scene-requires
new-scene-requires c = c.from-folded.ensures ∙ ap chars c.in_ok-default_case_fold_str.ensures ∙ folding_spelled _ c.utf8.name

pub returns : goal.returns
returns c =
    let name = chars c.args.name.now in
    IfOk-weaker c.new.result _ _
    (λ d e. e
    ∙ ap (λ (t : Bound). let definition : Definition = record { name = name; scope = c.args.scope; has_equals = c.args.body.now.has_equals; body = formulas.Tree t } in definition)
    (c.in_ok-tree.ensures
    ∙ ap₂ (λ f scene. bound f scene c.args.scope c.args.body.now.tree) (sym (english_function_is c.self.inside.notation.tables c.get_default_language-english.result.now c.get_default_language-english.ensures.found))
    (ap (λ (b : BookScene). scene_with b.sheets.now b.definitions.definitions.now (chars c.new-scene.result.name.now) c.new-scene.result.key.now.scope) c.new-scene.ensures.book
    ∙ ap₂ (λ (t : List ℕ) (k : NameKey). scene_with c.scene.result.sheets.now c.scene.result.definitions.definitions.now (chars t) k.scope) c.new-scene.ensures.name c.new-scene.ensures.key
    ∙ scene_with_is c.scene.result.sheets.now c.scene.result.definitions.definitions.now (core_of c.args.self.now.book) name c.args.scope c.scene.ensures)
    ∙ ap (λ (m : ModelState). bound (english_function (notations_in m.book)) (scene_with_definition (core_of c.args.self.now.book) name c.args.scope) c.args.scope c.args.body.now.tree) c.self.view_is))
    c.new.ensures
