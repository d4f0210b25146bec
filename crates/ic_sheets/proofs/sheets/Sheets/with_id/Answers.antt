use Rattle.std.proofs.Common.{◌∙◌, ap, Some, None}
use Rattle.std.specs.List.{slice_get}
use Rattle.ic_sheets.proofs.PlaceLemmas.{first_at}
use Rattle.ic_sheets.proofs.sheets.Sheets.with_id.Goals as goal

pub returns-in-Some : goal.returns-in-Some
returns-in-Some c =
    c.sheet_at.ensures ∙ ap (λ xs. slice_get xs c.in-Some.index) (c.deref.ensures.value ∙ c.self.view_is) ∙ first_at c.args.id c.args.self.now (Some c.in-Some.index) c.in-Some.ensures

pub returns-in-None : goal.returns-in-None
returns-in-None c = first_at c.args.id c.args.self.now None c.in-None.ensures
