use Rattle.std.proofs.Common.{map, refl, ap, ◌∙◌}
use Rattle.std.proofs.lemmas.Result.{IfOk-weaker}
use Rattle.ic_laws.specs.declared.scene.Scene.{Scene}
use Rattle.ic_parts.specs.Book.{ModelState, scene_in}
use Rattle.ic_book.specs.Inside.{held}
use Rattle.ic_parts.specs.Scene.{named}
use Rattle.ic_parts.proofs.HeldLemmas.{scene_held}
use Rattle.ic_book.proofs.model.Model.sheet_names.Goals as goal

pub returns : goal.returns
returns c =
    IfOk-weaker c.names_of.result _ _
    (λ names e. e ∙ ap (map named) c.as_slice.ensures.sheets ∙ ap (λ (s : Scene). s.sheets) (scene_held c.self.inside.contents.sheets (held c.self.inside) refl) ∙ ap (λ (m : ModelState). (scene_in m.book).sheets) c.self.view_is)
    c.names_of.ensures
