use Rattle.std.proofs.Common.{chars}
use Rattle.ic_laws.specs.Scan.{is_word_character}
use Rattle.ic_laws.proofs.RunLemmas.{ends_with_rest}
use Rattle.ic_tree.proofs.lexer.choice.is_past_word.Goals as goal

pub leaves_no_more-requires-clause-after_ends : goal.leaves_no_more-requires-clause-after_ends
leaves_no_more-requires-clause-after_ends c = ends_with_rest is_word_character (chars c.args.text.now) (chars c.args.after.now) c.requires.word
