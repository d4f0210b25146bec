use Rattle.std.proofs.Common.{chars, arith, sym, ◌∙◌}
use Rattle.std.proofs.lemmas.Str.{encodes-chars}
use Rattle.ic_lines.proofs.TextLemmas.{byte-same, byte-searched}
use Rattle.ic_words.proofs.text.has_escape.Goals as goal

pub returns : goal.returns
returns c =
    let bytes = c.as_bytes.result.now in
    c.is_some.ensures ∙ byte-searched 92 bytes c.memchr.result c.memchr.ensures
    ∙ sym (byte-same 92 (omega arith) bytes (chars c.args.word.now) (c.as_bytes.ensures.value ∙ sym (encodes-chars c.args.word.now c.utf8.word)))
