use Rattle.std.proofs.Common.{◌≡◌, ◌∙◌, Some, None, ap, sym, subst, is_some, chars, nat_eq}
use Rattle.std.specs.List.{IsDistinct, slice_get}
use Rattle.ic_laws.specs.Name.{agrees}
use Rattle.ic_sheets.proofs.SearchLemmas.{another's, free_for_all, ids, names, none_left_out, taken_found}
use Rattle.ic_sheets.proofs.sheets.Sheets.is_taken_by_other.Goals as goal

pub returns-in-None-default : goal.returns-in-None-default
returns-in-None-default c = sym (free_for_all (chars c.args.name.now) c.args.self.now c.args.index (sym c.find.ensures ∙ c.in-None-default.is-0))

pub returns-in-Some-None : goal.returns-in-Some-None
returns-in-Some-None c =
    let name = chars c.args.name.now in
    let past : slice_get c.args.self.now c.args.index ≡ None = ap (λ xs. slice_get xs c.args.index) (sym (c.deref.ensures.value ∙ c.self.view_is)) ∙ sym c.in-Some-None.ensures' in
    sym (none_left_out name c.args.self.now c.args.index past ∙ sym (taken_found name c.args.self.now) ∙ ap is_some (sym c.find.ensures ∙ c.in-Some-None.is-0))

pub returns-in-Some-Some : goal.returns-in-Some-Some
returns-in-Some-Some c =
    let at : slice_get c.args.self.now c.args.index ≡ Some c.in-Some-Some.sheet.now = ap (λ xs. slice_get xs c.args.index) (sym (c.deref.ensures.value ∙ c.self.view_is)) ∙ sym c.in-Some-Some.ensures' in
    another's (chars c.args.name.now) c.args.self.now c.args.index c.in-Some-Some.id c.in-Some-Some.sheet.now
    (subst (λ xs. IsDistinct agrees (names xs)) c.self.view_is c.self.invariant.0.names_differ) (subst (λ xs. IsDistinct nat_eq (ids xs)) c.self.view_is c.self.invariant.0.ids_differ)
    at (sym c.find.ensures ∙ c.in-Some-Some.is-0)
