use Rattle.std.proofs.Common.{ap, chars, subst, sym, true, ◌≡◌, ◌∙◌}
use Rattle.ic_machine.specs.Book.{notations_in}
use Rattle.ic_parts.specs.Whole.{whole_of}
use Rattle.ic_share.specs.Share.{UsersState}
use Rattle.ic_share.proofs.SentLemmas.{own_known_after}
use Rattle.ic_share.proofs.users.Users.reply_for.Goals as goal

pub put_language-requires-2 : goal.put_language-requires-2
put_language-requires-2 c =
    let own = ap chars c.as_str.ensures.value ∙ ap (λ (u : UsersState). u.own) c.self.view_is ∙ c.reply_chosen-reply.ensures.own in
    subst (λ code. (notations_in (whole_of c.reply_chosen-reply.new.model.book)).knows_language code ≡ true) (sym own)
    (own_known_after c.args.self.now c.args.model.now.book c.requires.own c.requires.known (chars c.language_of.result.now) (chars c.args.command.now) c.put_language.new.model c.reply_chosen-reply.new.model c.reply_chosen-reply.result
    c.put_language.ensures c.reply_chosen-reply.ensures.does c.reply_chosen-reply.ensures.err)
