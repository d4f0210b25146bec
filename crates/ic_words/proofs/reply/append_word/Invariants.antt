use Rattle.std.proofs.Common.{◌≡◌, ◌+◌, ◌*◌, ◌≤◌, ◌++◌, chars, encode_utf8_all, length, string_bytes, string_capacity, string_len}
use denote.Text.{Utf8}
use denote.Shadow.{shadow}
use Rattle.ic_laws.specs.Lines.{escaped}
use Rattle.ic_words.proofs.reply.append_word.Given as goal

-- what is written so far, and the rest as it is to be written, are all that is to stand there, and there is room for the rest
abbrev pub invariant-loop-c : goal.invariant-loop-c
invariant-loop-c l =
    shadow (Utf8 l.rest)
    × (string_bytes l.reply ++ encode_utf8_all (escaped (chars l.rest)) ≡ string_bytes l.fn.reply ++ encode_utf8_all (escaped (chars l.fn.text)))
    × (string_len l.reply + 4 * length (chars l.rest) ≤ string_len l.fn.reply + 4 * length (chars l.fn.text)) × (string_capacity l.fn.reply ≤ string_capacity l.reply)

abbrev pub decreases-loop-c : goal.decreases-loop-c
decreases-loop-c l = length l.rest
