use Rattle.std.proofs.Common.{chars, ◌∙◌, sym}
use Rattle.ic_tree.proofs.FirstLemmas.{word_alone}
use Rattle.ic_tree.proofs.lexer.next.named_at.Goals as goal

pub returns-then-begins_word : goal.returns-then-begins_word
returns-then-begins_word g c =
    c.word_at.ensures ∙ word_alone (g.D.Dialect.meaning c.args.d.now) (g.met.D.Dialect.laws c.args.d.now) (chars c.args.text.now) c.requires.begins.0 c.args.c c.requires.begins.1 (sym c.if-begins_word.ensures)
