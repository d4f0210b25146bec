use Rattle.std.proofs.Common.{Some, ap, chars, sym, ◌∙◌}
use Rattle.std.proofs.lemmas.Slice.Eq.{bytes_eq-Decides}
use Rattle.ic_tree.proofs.lexer.next.spelled_function.Goals as goal

pub returns-then-same_text : goal.returns-then-same_text
returns-then-same_text g c =
    let same = (bytes_eq-Decides (chars c.in-Some-word.word.now) (chars c.args.name.now)).0 (sym c.same_text.ensures ∙ c.if-same_text.true) in
    (sym c.in-Some.ensures, sym c.in-Some-word.ensures ∙ ap Some same)
