use Rattle.std.proofs.Common.{chars, refl}
use Rattle.ic_laws.specs.Scan.{is_word_character}
use Rattle.ic_laws.proofs.RunLemmas.{ends_with_rest, run_before_rest}
use Rattle.ic_tree.proofs.WordLemmas.{head_then_word}
use Rattle.ic_tree.proofs.lexer.words.word_at.Goals as goal

pub front_of-run-requires : goal.front_of-run-requires
front_of-run-requires g c = ends_with_rest is_word_character (chars c.args.text.now) (chars c.args.after.now) c.requires.word

pub returns-in-Some : goal.returns-in-Some
returns-in-Some g c =
    let run = run_before_rest is_word_character (chars c.args.text.now) (chars c.front_of-run.result.now) (chars c.args.after.now) c.requires.word c.front_of-run.ensures in
    head_then_word (g.D.Dialect.meaning c.args.d.now) (chars c.args.text.now) (chars c.front_of-run.result.now) (chars c.args.after.now) _ _ c.requires.begins c.requires.word run c.in-Some.ensures refl

pub returns-in-Some-whole_word : goal.returns-in-Some-whole_word
returns-in-Some-whole_word g c =
    let run = run_before_rest is_word_character (chars c.args.text.now) (chars c.front_of-run.result.now) (chars c.args.after.now) c.requires.word c.front_of-run.ensures in
    head_then_word (g.D.Dialect.meaning c.args.d.now) (chars c.args.text.now) (chars c.front_of-run.result.now) (chars c.args.after.now) _ _ c.requires.begins c.requires.word run c.in-None.ensures c.in-Some-whole_word.ensures

pub returns-in-None-whole_word : goal.returns-in-None-whole_word
returns-in-None-whole_word g c =
    let run = run_before_rest is_word_character (chars c.args.text.now) (chars c.front_of-run.result.now) (chars c.args.after.now) c.requires.word c.front_of-run.ensures in
    head_then_word (g.D.Dialect.meaning c.args.d.now) (chars c.args.text.now) (chars c.front_of-run.result.now) (chars c.args.after.now) _ _ c.requires.begins c.requires.word run c.in-None.ensures c.in-None-whole_word.ensures
