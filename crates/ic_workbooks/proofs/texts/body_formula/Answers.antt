use Rattle.std.proofs.Common.{List, Option, ap, ap₂, chars, pos, sym, ℕ, ◌∙◌}
use Rattle.std.proofs.lemmas.Result.{IfOk-weaker}
use Rattle.ic_laws.specs.Dialect.{DialectMeaning}
use Rattle.ic_laws.specs.Notations.{english_function}
use Rattle.ic_tree.proofs.NotationLaws.{english_function_is}
use Rattle.ic_tree.specs.Notations.{in_english, notations_of}
use Rattle.ic_workbooks.specs.HandedIn.{formula_of}
use Rattle.ic_workbooks.proofs.texts.body_formula.Goals as goal

pub returns : goal.returns
returns g c =
    IfOk-weaker c.formula_of.result _ _
    (λ f e. e
    ∙ ap₂ (λ (d : DialectMeaning) (english : List ℕ → Option ℕ). formula_of d english (g.N.Finder.scene c.args.names.now) c.args.scope (chars c.past_equals.result.1.now)) c.first_cell.ensures
    (sym (english_function_is c.args.tables.now c.get_default_language-english.result.now c.get_default_language-english.ensures.found))
    ∙ ap (λ text. formula_of (in_english c.args.tables.now (pos 1) (pos 1)) (english_function (notations_of c.args.tables.now)) (g.N.Finder.scene c.args.names.now) c.args.scope text) c.past_equals.ensures.rest)
    c.formula_of.ensures
