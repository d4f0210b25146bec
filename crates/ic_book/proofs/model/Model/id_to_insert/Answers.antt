use Rattle.std.proofs.Common.{◌≡◌, [], ◌∷◌, Some, ap, chars, refl, subst, sym, ◌∙◌}
use Rattle.std.proofs.lemmas.List.{length-map}
use Rattle.std.specs.List.{list_any}
use Rattle.std.specs.Prelude.{is_none}
use Rattle.ic_laws.specs.Name.{agrees}
use Rattle.ic_machine.specs.Refusal.{IdLive, IdsUsedUp, OutOfRange, SheetExists, first_refusal}
use Rattle.ic_machine.specs.subjects.Sheets.{chosen_id, insert_causes, is_live}
use Rattle.ic_sheets.specs.Sheet.{sheet_of}
use Rattle.ic_parts.specs.Book.{ModelState, core_of, whole_of}
use Rattle.ic_book.specs.Inside.{held}
use Rattle.ic_parts.specs.Refused.{TellsOnly}
use Rattle.ic_parts.proofs.HeldLemmas.{seen_names}
use Rattle.ic_parts.proofs.InsertedDoes.{id_told, past_told, taken_told}
use Rattle.ic_book.proofs.model.Model.id_to_insert.Goals as goal

pub returns-then-is_taken-clause-refused : goal.returns-then-is_taken-clause-refused
returns-then-is_taken-clause-refused c =
    let name = chars c.args.name.now in
    let good = sym c.is_valid_sheet_name.ensures ∙ c.if-not-is_valid_sheet_name.false in
    let taken = ap (list_any (agrees name)) (sym (seen_names c.self.inside.contents.sheets)) ∙ sym c.is_taken.ensures ∙ c.if-is_taken.true in
    (SheetExists, refl, subst (λ (m : ModelState). first_refusal (insert_causes (whole_of m.book) name c.args.index c.args.given) ≡ Some SheetExists) c.self.view_is (taken_told (held c.self.inside) name c.args.index c.args.given good taken))

pub returns-then-index-len-clause-refused : goal.returns-then-index-len-clause-refused
returns-then-index-len-clause-refused c =
    let name = chars c.args.name.now in
    let ws = c.self.inside.contents.sheets in
    let good = sym c.is_valid_sheet_name.ensures ∙ c.if-not-is_valid_sheet_name.false in
    let new = ap (list_any (agrees name)) (sym (seen_names ws)) ∙ sym c.is_taken.ensures ∙ c.if-is_taken.false in (
      OutOfRange,
      refl,
      subst (λ (m : ModelState). first_refusal (insert_causes (whole_of m.book) name c.args.index c.args.given) ≡ Some OutOfRange) c.self.view_is
          (past_told (held c.self.inside) name c.args.index c.args.given good new c.len.result (c.len.ensures ∙ sym (length-map ws sheet_of)) c.if-index-len.true),
    )

pub returns-clause-refused : goal.returns-clause-refused
returns-clause-refused c =
    let name = chars c.args.name.now in
    let ws = c.self.inside.contents.sheets in
    let good = sym c.is_valid_sheet_name.ensures ∙ c.if-not-is_valid_sheet_name.false in
    let new = ap (list_any (agrees name)) (sym (seen_names ws)) ∙ sym c.is_taken.ensures ∙ c.if-is_taken.false in
    subst (λ (m : ModelState). TellsOnly c.id_for.result (first_refusal (insert_causes (whole_of m.book) name c.args.index c.args.given))) c.self.view_is
    (subst (TellsOnly c.id_for.result) (sym (id_told (held c.self.inside) name c.args.index c.args.given good new c.len.result (c.len.ensures ∙ sym (length-map ws sheet_of)) c.if-index-len.false))
    (subst (λ (m : ModelState). TellsOnly c.id_for.result (first_refusal ((is_live (core_of m.book) c.args.given, IdLive) ∷ (is_none (chosen_id (core_of m.book) c.args.given), IdsUsedUp) ∷ []))) (sym c.self.view_is) c.id_for.ensures.refused))
