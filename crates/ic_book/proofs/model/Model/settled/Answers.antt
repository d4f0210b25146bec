use Rattle.std.proofs.Common.{Some, sym, ap, ap₂, ◌∙◌}
use Rattle.ic_laws.specs.Binding.{bound}
use Rattle.ic_laws.specs.Notations.{english_function}
use Rattle.ic_tree.proofs.NotationLaws.{english_function_is}
use Rattle.ic_tree.specs.Typed.{as_typed}
use Rattle.ic_parts.specs.Book.{ModelState, notations_in, scene_in}
use Rattle.ic_book.proofs.model.Model.settled.Goals as goal

pub returns : goal.returns
returns c =
    c.in_ok-settle.ensures
    ∙ ap₂ (λ f scene. bound f scene (Some c.args.id) (as_typed c.args.tree)) (sym (english_function_is c.self.inside.notation.tables c.get_default_language-english.result.now c.get_default_language-english.ensures.found)) c.scene.ensures
    ∙ ap (λ (m : ModelState). bound (english_function (notations_in m.book)) (scene_in c.args.self.now.book) (Some c.args.id) (as_typed c.args.tree)) c.self.view_is
