use Rattle.std.proofs.Common.{ℕ, List, IfOk, ap₂, option_map, subst}
use Rattle.ic_laws.specs.declared.scene.Scene.{Scene}
use Rattle.ic_parts.specs.Scene.{scene_of_parts}
use Rattle.ic_workbooks.specs.Texts.{AreRead, sheet_formula_in}
use Rattle.ic_workbooks.proofs.filled.read_formulas.Goals as goal

pub returns : goal.returns
returns c =
    subst (λ (s : Scene). IfOk c.sheet_formulas.result (λ made. AreRead (sheet_formula_in c.args.tables.now s c.args.worksheet.now.sheet_id) c.args.worksheet.now.shared_formulas (option_map (λ formulas. formulas.items) made)))
    (ap₂ scene_of_parts c.new-scene.ensures.sheets c.new-scene.ensures.definitions)
    (subst (λ (texts : List (List ℕ)). IfOk c.sheet_formulas.result (λ made. AreRead (sheet_formula_in c.args.tables.now (scene_of_parts c.new-scene.result.sheets.now c.new-scene.result.definitions.definitions.now) c.args.worksheet.now.sheet_id) texts (option_map (λ formulas. formulas.items) made)))
    c.as_slice-texts.ensures c.sheet_formulas.ensures)
