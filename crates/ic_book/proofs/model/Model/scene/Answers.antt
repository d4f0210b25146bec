use Rattle.std.proofs.Common.{List, refl, ap, ap₂, ◌∙◌}
use Rattle.ic_laws.specs.CoreBook.{Definition}
use Rattle.ic_sheets.specs.declared.sheet.Sheet.{Sheet as HeldSheet}
use Rattle.ic_parts.specs.Book.{ModelState, scene_in}
use Rattle.ic_book.specs.Inside.{held}
use Rattle.ic_parts.specs.Scene.{scene_of_parts}
use Rattle.ic_parts.proofs.HeldLemmas.{scene_held}
use Rattle.ic_book.proofs.model.Model.scene.Goals as goal

pub returns : goal.returns
returns c =
    ap₂ (λ (ws : List HeldSheet) (ds : List Definition). scene_of_parts ws ds) c.new.ensures.sheets c.new.ensures.definitions
    ∙ (scene_held c.self.inside.contents.sheets (held c.self.inside) refl ∙ ap (λ (m : ModelState). scene_in m.book) c.self.view_is)
