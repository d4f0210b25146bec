use Rattle.std.proofs.Common.{ap₂, ◌∙◌}
use Rattle.std.proofs.lemmas.Result.{IfOk-weaker}
use Rattle.ic_laws.specs.Dialect.{DialectMeaning}
use Rattle.ic_laws.specs.declared.scene.Scene.{Scene}
use Rattle.ic_parts.specs.Book.{notations_in, scene_in}
use Rattle.ic_workbooks.specs.Workbook.{text_in}
use Rattle.ic_workbooks.proofs.WorkbookLemmas.{text_is_stored}
use Rattle.ic_book.proofs.model.Model.stored_text.Goals as goal

pub returns : goal.returns
returns c =
    IfOk-weaker c.text_in.result _ _
    (λ text e. e ∙ ap₂ (λ (d : DialectMeaning) (scene : Scene). text_in d scene c.args.formula.now) c.stored_form.ensures c.scene.ensures ∙ text_is_stored (notations_in c.args.self.now.book) (scene_in c.args.self.now.book) c.args.formula.now)
    c.text_in.ensures
