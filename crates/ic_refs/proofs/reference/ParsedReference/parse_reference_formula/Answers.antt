use Rattle.std.proofs.Common.{ℕ, List, Option, chars, encode_utf8_all}
use Rattle.std.specs.Fn.{FnReturnsAt}
use Rattle.ic_refs.proofs.FormulaFormLemmas.{lies_inside, tells}
use Rattle.ic_refs.proofs.reference.ParsedReference.parse_reference_formula.Goals as goal

pub returns-clause-spelled : goal.returns-clause-spelled
returns-clause-spelled g c =
    let Answers : List ℕ → Option ℕ → Type 0 = λ name answer. FnReturnsAt g.F.Fn c.args.find (encode_utf8_all name) answer in
    tells Answers c.args.context (chars c.args.text.now) c.whole_text.result c.whole_text.ensures

pub returns-clause-inside : goal.returns-clause-inside
returns-clause-inside g c =
    let Answers : List ℕ → Option ℕ → Type 0 = λ name answer. FnReturnsAt g.F.Fn c.args.find (encode_utf8_all name) answer in
    lies_inside Answers c.args.context (chars c.args.text.now) c.whole_text.result (tells Answers c.args.context (chars c.args.text.now) c.whole_text.result c.whole_text.ensures)
