use Rattle.std.proofs.Common.{◌++◌, chars, ap, ap₂, ◌∙◌}
use Rattle.std.proofs.lemmas.Str.{chars-nil}
use Rattle.ic_laws.specs.SheetText.{sheet_text}
use Rattle.ic_refs.specs.Stored.{place_text}
use Rattle.ic_refs.proofs.stored_text.spelled_reference.Goals as goal

pub returns : goal.returns
returns c =
    c.in_ok-push_rc_place.ensures
    ∙ ap (λ t. t ++ place_text c.args.r.now.place) (c.in_ok-push_sheet.ensures ∙ ap₂ (λ t sheet. t ++ sheet_text sheet) (ap chars c.new-out.ensures.bytes ∙ chars-nil) c.lent_name.ensures)
