use Rattle.std.proofs.Common.{ap₂, ◌∙◌, List, ℕ}
use Rattle.std.proofs.lemmas.Result.{IfOk-weaker}
use Rattle.ic_laws.specs.declared.scene.Scene.{Scene}
use Rattle.ic_parts.specs.Scene.{scene_of_parts}
use Rattle.ic_workbooks.specs.Texts.{body_formula_in}
use Rattle.ic_workbooks.proofs.filled.read_body.Goals as goal

pub returns : goal.returns
returns c =
    IfOk-weaker c.body_formula.result _ _
    (λ body e. e
    ∙ ap₂ (λ (s : Scene) (text : List ℕ). body_formula_in c.args.tables.now s c.args.name.now.sheet_id text) (ap₂ scene_of_parts c.new-scene.ensures.sheets c.new-scene.ensures.definitions) c.as_str-text.ensures.characters)
    c.body_formula.ensures
