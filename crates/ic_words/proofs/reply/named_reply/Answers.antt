use Rattle.std.proofs.Common.{◌++◌, ◌∷◌, [], chars, encode_utf8_all, string_bytes, ap, ap₂, ◌∙◌}
use Rattle.ic_laws.specs.Lines.{escaped}
use Rattle.ic_words.proofs.NamedReplies.{named_bytes, named_line}
use Rattle.ic_words.proofs.reply.named_reply.Goals as goal

pub returns-clause-exact : goal.returns-clause-exact
returns-clause-exact c =
    c.append-4.ensures.bytes
    ∙ ap (λ front. front ++ 10 ∷ [])
    (c.append-3.ensures.bytes
    ∙ ap₂ (λ front digits. front ++ digits)
    (c.append-2.ensures.bytes ∙ ap (λ front. front ++ 9 ∷ []) (c.append_word.ensures.bytes ∙ ap (λ front. front ++ encode_utf8_all (escaped (chars c.args.name.now))) c.append.ensures.bytes)) c.format.ensures.text)
    ∙ named_bytes (string_bytes c.args.reply) (chars c.args.name.now) c.args.index

pub returns-clause-line : goal.returns-clause-line
returns-clause-line c = named_line c.args.name.now c.args.index c.utf8.name
