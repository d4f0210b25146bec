use Rattle.std.proofs.Common.{List, Option, Some, ap₂, chars, sym, ℕ, ◌∙◌}
use Rattle.std.proofs.lemmas.Result.{IfOk-weaker}
use Rattle.ic_laws.specs.Dialect.{DialectMeaning}
use Rattle.ic_tree.proofs.NotationLaws.{english_function_is, stored_notation}
use Rattle.ic_workbooks.specs.HandedIn.{formula_of}
use Rattle.ic_workbooks.proofs.texts.sheet_formula.Goals as goal

pub returns : goal.returns
returns g c =
    IfOk-weaker c.formula_of.result _ _
    (λ f e. e
    ∙ ap₂ (λ (d : DialectMeaning) (english : List ℕ → Option ℕ). formula_of d english (g.N.Finder.scene c.args.names.now) (Some c.args.id) (chars c.args.text.now)) (stored_notation c.args.tables.now _ c.new-stored.ensures)
    (sym (english_function_is c.args.tables.now c.get_default_language-english.result.now c.get_default_language-english.ensures.found)))
    c.formula_of.ensures
