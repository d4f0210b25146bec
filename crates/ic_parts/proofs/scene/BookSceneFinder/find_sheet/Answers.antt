use Rattle.std.proofs.Common.{ap, sym, chars, option_map, ◌∙◌}
use Rattle.ic_laws.specs.Name.{agrees}
use Rattle.ic_laws.specs.declared.scene.SheetName.{SheetName}
use Rattle.ic_parts.specs.Scene.{named}
use Rattle.ic_parts.proofs.ModelLemmas.{find-map}
use Rattle.ic_parts.proofs.HeldLemmas.{option_map-twice}
use Rattle.ic_parts.proofs.scene.BookSceneFinder.find_sheet.Goals as goal

pub returns : goal.returns
returns c =
    c.find.ensures
    ∙ sym (ap (option_map (λ (m : SheetName). m.id)) (find-map named (λ (m : SheetName). agrees m.name (chars c.args.name.now)) c.args.self.now.sheets.now) ∙ option_map-twice named (λ (m : SheetName). m.id) _)
