use Rattle.std.proofs.Common.{sym, ◌∙◌}
use Rattle.ic_changes.proofs.MentioningLemmas.{sheet_there, sites_there}
use Rattle.ic_book.proofs.model.Model.sites_of_sheet.Goals as goal

pub returns-clause-sites : goal.returns-clause-sites
returns-clause-sites c = c.in_ok-sites_where.ensures ∙ sites_there c.args.self.now.book c.args.sheet c.in-Some.id (sym c.id_at.ensures ∙ c.in-Some.is)

pub returns-clause-refused : goal.returns-clause-refused
returns-clause-refused c = sheet_there c.args.self.now.book c.args.sheet c.in-Some.id (sym c.id_at.ensures ∙ c.in-Some.is)
