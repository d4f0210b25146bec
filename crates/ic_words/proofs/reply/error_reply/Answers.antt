use Rattle.std.proofs.Common.{◌++◌, ◌∷◌, [], string_bytes, ap, ◌∙◌}
use Rattle.ic_words.proofs.ReplyLemmas.{refusal_reply}
use Rattle.ic_words.proofs.reply.error_reply.Goals as goal

pub returns-clause-refusal : goal.returns-clause-refusal
returns-clause-refusal c = λ refusal is.
    refusal_reply (string_bytes c.args.reply) (string_bytes c.append-3.new.reply) c.args.name.now refusal
    (c.append-3.ensures.bytes ∙ ap (λ front. front ++ 10 ∷ []) (c.append-2.ensures.bytes ∙ ap (λ front. front ++ c.args.name.now) c.append.ensures.bytes)) is
