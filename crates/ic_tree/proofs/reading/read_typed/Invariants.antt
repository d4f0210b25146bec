-- The caller's text says whether it falls into tokens.
use Rattle.std.proofs.Common.{chars}
use Rattle.ic_tree.specs.Lexing.{ends_whole}
use Rattle.ic_tree.proofs.reading.read_typed.Given as goal

abbrev pub ghosts-read_text : goal.ghosts-read_text
ghosts-read_text g a = record { whole = ends_whole (g.D.Dialect.meaning a.d.now) (chars a.unread.now.text.now) }
