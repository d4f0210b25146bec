-- Of two ends of one text the one with fewer characters has fewer bytes.
use Rattle.std.proofs.Common.{chars, sym}
use Rattle.ic_laws.proofs.tokens.Bytes.{bytes_order}
use Rattle.ic_tree.proofs.lexer.choice.leaves_no_more.Goals as goal

pub returns : goal.returns
returns c = sym (bytes_order (chars c.args.text.now) c.args.rest.now c.args.after.now c.utf8.rest c.utf8.after c.requires.rest_ends c.requires.after_ends)
