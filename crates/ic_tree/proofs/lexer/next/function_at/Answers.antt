use Rattle.std.proofs.Common.{◌∷◌, ap, chars, sym, ◌∙◌}
use Rattle.ic_laws.specs.Scan.{is_word_character}
use Rattle.ic_laws.proofs.RunLemmas.{ends_with_rest, run_before_rest}
use Rattle.ic_tree.proofs.HeadFirst.{function_first}
use Rattle.ic_tree.proofs.lexer.next.function_at.Goals as goal

pub front_of-requires : goal.front_of-requires
front_of-requires g c = ends_with_rest is_word_character (chars c.args.text.now) (chars c.args.after.now) c.requires.word

pub returns-in-Some : goal.returns-in-Some
returns-in-Some g c =
    let text = chars c.args.text.now in
    let after = chars c.args.after.now in
    let rest = chars c.in-Some-eq40-default.rest.now in
    let bracket = sym c.past_blanks.ensures ∙ c.in-Some-eq40-default.ensures.parts ∙ ap (λ x. x ∷ rest) c.in-Some-eq40-default.field-0-0-test in
    let run = run_before_rest is_word_character text (chars c.front_of.result.now) after c.requires.word c.front_of.ensures in
    function_first (g.D.Dialect.meaning c.args.d.now) (g.met.D.Dialect.laws c.args.d.now) text c.requires.begins.0 c.args.c after rest (chars c.front_of.result.now) c.in-Some.number
    c.requires.begins.1 (sym c.begins_word.ensures ∙ c.if-not-begins_word.false) c.requires.word bracket run c.in-Some.ensures
