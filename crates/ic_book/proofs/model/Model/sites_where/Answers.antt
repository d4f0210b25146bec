use Rattle.std.proofs.Common.{ap, map, ◌∙◌}
use Rattle.std.proofs.lemmas.Result.{IfOk-weaker}
use Rattle.ic_parts.specs.Sites.{site_of}
use Rattle.ic_book.proofs.MentioningLemmas.{listed_seen}
use Rattle.ic_book.proofs.model.Model.sites_where.Goals as goal

pub returns : goal.returns
returns c = IfOk-weaker c.sites_in.result _ _ (λ sites listed. ap (map site_of) listed ∙ listed_seen c.args.sought.now c.self.inside c.args.self.now c.self.view_is) c.sites_in.ensures
