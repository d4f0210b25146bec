use Rattle.std.proofs.lemmas.Str.{scalars-chars}
use Rattle.ic_words.proofs.reply.push_field.Goals as goal

pub returns-in_err-push_char-clause-text : goal.returns-in_err-push_char-clause-text
returns-in_err-push_char-clause-text c = scalars-chars c.args.field.now c.utf8.field

pub returns-clause-text : goal.returns-clause-text
returns-clause-text c = scalars-chars c.args.field.now c.utf8.field
