use Rattle.std.proofs.Common.{ap, chars, string_bytes, unwrap_or, ◌∙◌}
use Rattle.std.specs.FinMap as finite
use Rattle.ic_share.specs.Share.{UsersState}
use Rattle.ic_share.proofs.MapLemmas.{language_chosen_by, language_own_of}
use Rattle.ic_share.proofs.users.Users.language_of.Goals as goal

pub returns-in-Some : goal.returns-in-Some
returns-in-Some c =
    ap chars c.as_str.ensures.value
    ∙ language_chosen_by c.self.inside.languages c.args.user.now (chars (string_bytes c.self.inside.own)) c.in-Some.code.now c.utf8.user c.in-Some.ensures.value
    ∙ ap (λ (u : UsersState). unwrap_or (finite.get u.languages (chars c.args.user.now)) u.own) c.self.view_is

pub returns-in-None : goal.returns-in-None
returns-in-None c =
    ap chars c.as_str-in-None.ensures.value
    ∙ language_own_of c.self.inside.languages c.args.user.now (chars (string_bytes c.self.inside.own)) c.utf8.user c.in-None.ensures.value
    ∙ ap (λ (u : UsersState). unwrap_or (finite.get u.languages (chars c.args.user.now)) u.own) c.self.view_is
