use Rattle.std.proofs.Common.{◌∙◌, ap, nat_eq}
use Rattle.std.specs.List.{position}
use Rattle.ic_sheets.proofs.PlaceLemmas.{place_is}
use Rattle.ic_sheets.proofs.sheets.Sheets.index_of_id.Goals as goal

pub returns : goal.returns
returns c = c.index_in.ensures ∙ c.self.invariant.1.finds c.args.id ∙ place_is c.args.id c.self.inside.list.items ∙ ap (position (λ s. nat_eq s.id c.args.id)) c.self.view_is
