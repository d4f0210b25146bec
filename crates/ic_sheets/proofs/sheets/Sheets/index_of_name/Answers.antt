use Rattle.std.proofs.Common.{◌∙◌, ap, nat_eq, sym, subst, chars}
use Rattle.std.specs.List.{IsDistinct, position}
use Rattle.ic_laws.specs.Name.{agrees}
use Rattle.ic_sheets.proofs.PlaceLemmas.{place_is}
use Rattle.ic_sheets.proofs.SearchLemmas.{ids, index_by_id, index_none}
use Rattle.ic_sheets.proofs.sheets.Sheets.index_of_name.Goals as goal

pub returns-in_err-id : goal.returns-in_err-id
returns-in_err-id c = c.from_residual.ensures ∙ sym (index_none (λ s. agrees s.name (chars c.args.name.now)) c.args.self.now (sym c.in_err-id.ensures))

pub returns : goal.returns
returns c =
    let sheets = c.args.self.now in
    c.index_in.ensures ∙ c.self.invariant.1.finds c.in_ok-id.id ∙ place_is c.in_ok-id.id c.self.inside.list.items ∙ ap (position (λ s. nat_eq s.id c.in_ok-id.id)) c.self.view_is
    ∙ index_by_id (λ s. agrees s.name (chars c.args.name.now)) c.in_ok-id.id sheets (subst (λ xs. IsDistinct nat_eq (ids xs)) c.self.view_is c.self.invariant.0.ids_differ) (sym c.in_ok-id.ensures)
