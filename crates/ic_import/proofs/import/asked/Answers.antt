use Rattle.std.proofs.Common.{◌≡◌, None, SFits, ap, chars, false, of_z, refl, rules, subst, sym, to_z, w32, ◌∙◌}
use Rattle.std.proofs.lemmas.Int.{to_z-of_z}
use Rattle.ic_laws.specs.Position.{is_column, is_row}
use Rattle.std.specs.Prelude.{is_none}
use Rattle.ic_laws.specs.Refusal as refusals
use Rattle.ic_tables.specs.Tables.{TableSet, language_of, locale_of}
use Rattle.ic_machine.specs.Refusal.{InvalidColumn, InvalidRow, InvalidSheet, OfCore}
use Rattle.ic_machine.specs.Reply.{bool_field}
use Rattle.ic_parts.proofs.CellReads.{of_error}
use Rattle.ic_parts.specs.Refused.{TellsOnly, refusal_of}
use Rattle.ic_parts.specs.Whole.{whole_of}
use Rattle.ic_import.specs.Import.{request, request_refusal}
use Rattle.ic_import.proofs.ImportLemmas.{column_refused, language_refused, locale_found, locale_refused, not_none, nothing_refused, row_refused, sheet_lacked, sheet_refused, sheet_stands}
use Rattle.ic_import.proofs.import.asked.Goals as goal

pub returns-in_err-_empty-clause-refused : goal.returns-in_err-_empty-clause-refused
returns-in_err-_empty-clause-refused c =
    let asked = request c.args.at.now (chars c.args.locale_id.now) (chars c.args.language_id.now) in
    let b = whole_of c.args.model.now.book in
    let lacked = sheet_lacked bool_field c.args.model.now asked.sheet (to_z w32 (of_z w32 c.args.at.now.row)) (to_z w32 (of_z w32 c.args.at.now.column)) c.in_err-_empty.field-0.0 c.in_err-_empty.ensures.does in
    of_error (λ r. TellsOnly r (request_refusal asked b)) c.from_residual.result c.from_residual.ensures (λ f same. (InvalidSheet, ap refusal_of same ∙ lacked.0, sheet_refused asked b lacked.1))

pub returns-then-not-is_valid_row-clause-refused : goal.returns-then-not-is_valid_row-clause-refused
returns-then-not-is_valid_row-clause-refused c =
    let asked = request c.args.at.now (chars c.args.locale_id.now) (chars c.args.language_id.now) in
    let b = whole_of c.args.model.now.book in
    let stands = sheet_stands bool_field c.args.model.now asked.sheet (to_z w32 (of_z w32 c.args.at.now.row)) (to_z w32 (of_z w32 c.args.at.now.column)) c.in_ok-_empty._empty c.in_ok-_empty.ensures.does in
    let fits_row : SFits w32 c.args.at.now.row = search rules in
    let row_is = to_z-of_z w32 c.args.at.now.row fits_row in
    (InvalidRow, refl, row_refused asked b stands (ap is_row (sym row_is) ∙ sym c.is_valid_row.ensures ∙ c.if-not-is_valid_row.true))

pub returns-then-not-is_valid_column_number-clause-refused : goal.returns-then-not-is_valid_column_number-clause-refused
returns-then-not-is_valid_column_number-clause-refused c =
    let asked = request c.args.at.now (chars c.args.locale_id.now) (chars c.args.language_id.now) in
    let b = whole_of c.args.model.now.book in
    let stands = sheet_stands bool_field c.args.model.now asked.sheet (to_z w32 (of_z w32 c.args.at.now.row)) (to_z w32 (of_z w32 c.args.at.now.column)) c.in_ok-_empty._empty c.in_ok-_empty.ensures.does in
    let fits_row : SFits w32 c.args.at.now.row = search rules in
    let row_is = to_z-of_z w32 c.args.at.now.row fits_row in
    let row = ap is_row (sym row_is) ∙ sym c.is_valid_row.ensures ∙ c.if-not-is_valid_row.false in
    let fits_column : SFits w32 c.args.at.now.column = search rules in
    let column_is = to_z-of_z w32 c.args.at.now.column fits_column in
    (InvalidColumn, refl, column_refused asked b stands row (ap is_column (sym column_is) ∙ sym c.is_valid_column_number.ensures ∙ c.if-not-is_valid_column_number.true))

pub returns-in_default-clause-refused : goal.returns-in_default-clause-refused
returns-in_default-clause-refused c =
    let asked = request c.args.at.now (chars c.args.locale_id.now) (chars c.args.language_id.now) in
    let b = whole_of c.args.model.now.book in
    let stands = sheet_stands bool_field c.args.model.now asked.sheet (to_z w32 (of_z w32 c.args.at.now.row)) (to_z w32 (of_z w32 c.args.at.now.column)) c.in_ok-_empty._empty c.in_ok-_empty.ensures.does in
    let fits_row : SFits w32 c.args.at.now.row = search rules in
    let row_is = to_z-of_z w32 c.args.at.now.row fits_row in
    let row = ap is_row (sym row_is) ∙ sym c.is_valid_row.ensures ∙ c.if-not-is_valid_row.false in
    let fits_column : SFits w32 c.args.at.now.column = search rules in
    let column_is = to_z-of_z w32 c.args.at.now.column fits_column in
    let column = ap is_column (sym column_is) ∙ sym c.is_valid_column_number.ensures ∙ c.if-not-is_valid_column_number.false in
    let none : locale_of b.tables asked.locale ≡ None = subst (λ (t : TableSet). locale_of t asked.locale ≡ None) c.requires.tables c.in_default.ensures.found.1 in
    (OfCore refusals.InvalidLocale, refl, locale_refused asked b stands row column none)

pub returns-in_default-get_language-clause-refused : goal.returns-in_default-get_language-clause-refused
returns-in_default-get_language-clause-refused c =
    let asked = request c.args.at.now (chars c.args.locale_id.now) (chars c.args.language_id.now) in
    let b = whole_of c.args.model.now.book in
    let stands = sheet_stands bool_field c.args.model.now asked.sheet (to_z w32 (of_z w32 c.args.at.now.row)) (to_z w32 (of_z w32 c.args.at.now.column)) c.in_ok-_empty._empty c.in_ok-_empty.ensures.does in
    let fits_row : SFits w32 c.args.at.now.row = search rules in
    let row_is = to_z-of_z w32 c.args.at.now.row fits_row in
    let row = ap is_row (sym row_is) ∙ sym c.is_valid_row.ensures ∙ c.if-not-is_valid_row.false in
    let fits_column : SFits w32 c.args.at.now.column = search rules in
    let column_is = to_z-of_z w32 c.args.at.now.column fits_column in
    let column = ap is_column (sym column_is) ∙ sym c.is_valid_column_number.ensures ∙ c.if-not-is_valid_column_number.false in
    let found : is_none (locale_of b.tables asked.locale) ≡ false =
    subst (λ (t : TableSet). is_none (locale_of t asked.locale) ≡ false) c.requires.tables (locale_found c.args.tables.now asked.locale c.in-Ok.locale.now c.in-Ok.ensures.found) in
    let none : language_of b.tables asked.language ≡ None = subst (λ (t : TableSet). language_of t asked.language ≡ None) c.requires.tables c.in_default-get_language.ensures.found.1 in
    (OfCore refusals.InvalidLanguage, refl, language_refused asked b stands row column found none)

pub returns-clause-refused : goal.returns-clause-refused
returns-clause-refused c =
    let asked = request c.args.at.now (chars c.args.locale_id.now) (chars c.args.language_id.now) in
    let b = whole_of c.args.model.now.book in
    let stands = sheet_stands bool_field c.args.model.now asked.sheet (to_z w32 (of_z w32 c.args.at.now.row)) (to_z w32 (of_z w32 c.args.at.now.column)) c.in_ok-_empty._empty c.in_ok-_empty.ensures.does in
    let fits_row : SFits w32 c.args.at.now.row = search rules in
    let row_is = to_z-of_z w32 c.args.at.now.row fits_row in
    let row = ap is_row (sym row_is) ∙ sym c.is_valid_row.ensures ∙ c.if-not-is_valid_row.false in
    let fits_column : SFits w32 c.args.at.now.column = search rules in
    let column_is = to_z-of_z w32 c.args.at.now.column fits_column in
    let column = ap is_column (sym column_is) ∙ sym c.is_valid_column_number.ensures ∙ c.if-not-is_valid_column_number.false in
    let found : is_none (locale_of b.tables asked.locale) ≡ false =
    subst (λ (t : TableSet). is_none (locale_of t asked.locale) ≡ false) c.requires.tables (locale_found c.args.tables.now asked.locale c.in-Ok.locale.now c.in-Ok.ensures.found) in
    let spoken : is_none (language_of b.tables asked.language) ≡ false =
    subst (λ (t : TableSet). is_none (language_of t asked.language) ≡ false) c.requires.tables (not_none (language_of c.args.tables.now asked.language) _ c.in-Ok-get_language.ensures.found) in
    nothing_refused asked b stands row column found spoken
