use Rattle.std.proofs.Common.{◌≡◌, chars, false, length, string_bytes}
use denote.Text.{Utf8}
use denote.Shadow.{shadow}
use Rattle.ic_laws.specs.TokenKinds.{closed}
use Rattle.ic_tree.proofs.QuoteLemmas.{onto_all}
use Rattle.ic_tree.proofs.lexer.quoted.quoted_at.Given as goal

-- what was kept, and what the rest gives, is what the text gives
abbrev pub invariant-loop-piece : goal.invariant-loop-piece
invariant-loop-piece l = record {
  text : shadow (Utf8 l.rest);
  whole : onto_all (chars (string_bytes l.inside)) (closed false (chars l.rest)) ≡ closed false (chars l.text);
}

abbrev pub decreases-loop-piece : goal.decreases-loop-piece
decreases-loop-piece l = length l.rest
