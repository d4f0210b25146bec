use Rattle.std.proofs.Common.{ap, sym, option_map, ◌∙◌}
use Rattle.std.specs.Prelude.{nat_eq}
use Rattle.ic_laws.specs.declared.scene.SheetName.{SheetName}
use Rattle.ic_parts.specs.Scene.{named}
use Rattle.ic_parts.proofs.ModelLemmas.{find-map}
use Rattle.ic_parts.proofs.HeldLemmas.{option_map-twice}
use Rattle.ic_parts.proofs.scene.SceneOverFinder.sheet_spelling.Goals as goal

pub returns : goal.returns
returns g c =
    c.name_of.ensures
    ∙ sym (ap (option_map (λ (m : SheetName). m.name)) (find-map named (λ (m : SheetName). nat_eq m.id c.args.id) c.args.self.now.sheets.now) ∙ option_map-twice named (λ (m : SheetName). m.name) _)
