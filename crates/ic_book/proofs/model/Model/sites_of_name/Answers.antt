use Rattle.std.proofs.Common.{chars, sym, ◌∙◌}
use Rattle.ic_changes.proofs.MentioningLemmas.{named_sites}
use Rattle.ic_parts.proofs.WholeLemmas.{whole_core}
use Rattle.ic_book.proofs.model.Model.sites_of_name.Goals as goal

pub returns-clause-sites : goal.returns-clause-sites
returns-clause-sites c =
    c.in_ok-sites_where.ensures
    ∙ named_sites c.args.self.now.book (chars c.args.name.now) c.args.scope c.in-Some.id c.in-Some-key_named.key.now (sym c.scope_id.ensures ∙ c.in-Some.is) c.in-Some-key_named.ensures.key (whole_core c.args.self.now.book)
