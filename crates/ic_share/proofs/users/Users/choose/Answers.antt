use Rattle.std.proofs.Common.{List, ℕ, ap, chars, string_bytes, ◌∙◌}
use Rattle.std.specs.FinMap as finite
use Rattle.ic_share.specs.Share.{UsersState, languages_held}
use Rattle.ic_share.proofs.MapLemmas.{language_put_in}
use Rattle.ic_share.proofs.users.Users.choose.Goals as goal

pub returns-clause-chosen : goal.returns-clause-chosen
returns-clause-chosen c =
    ap languages_held c.in_ok-insert.ensures.entries ∙ language_put_in c.self.inside.languages.entries c.in_ok-user.user c.args.language
    ∙ ap (λ (b : List ℕ). finite.insert (languages_held c.self.inside.languages.entries) (chars b) (chars (string_bytes c.args.language))) c.in_ok-user.ensures.ok
    ∙ ap (λ (u : UsersState). finite.insert u.languages (chars c.args.user.now) (chars (string_bytes c.args.language))) c.self.view_is
