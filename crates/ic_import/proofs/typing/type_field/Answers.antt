use Rattle.std.proofs.Common.{◌≡◌, [], ◌∷◌, ap, arith, chars, string_bytes, subst, sym, ◌∙◌}
use Rattle.std.proofs.lemmas.Bool.{and_parts}
use Rattle.std.proofs.lemmas.Int.{ints}
use Rattle.ic_laws.specs.CoreBook.{CellPlace}
use Rattle.ic_laws.specs.Position.{is_column, is_row}
use Rattle.ic_refs.proofs.ColumnLemmas.{number_of_column, number_of_row}
use Rattle.ic_machine.specs.Book.{Book, Stepped}
use Rattle.ic_parts.specs.Does.{Refused, WantedIn}
use Rattle.ic_parts.specs.Refused.{refusal_of}
use Rattle.ic_parts.specs.Whole.{whole_of}
use Rattle.ic_import.specs.Placed.{place_of}
use Rattle.ic_import.specs.Records.{Field}
use Rattle.ic_import.specs.Typed.{TellsBlocked, typed}
use Rattle.ic_import.proofs.TypingLemmas.{field_refused, field_step, place_cast}
use Rattle.ic_import.proofs.typing.type_field.Goals as goal

pub returns-in-Ok-set_user_input-clause-typed : goal.returns-in-Ok-set_user_input-clause-typed
returns-in-Ok-set_user_input-clause-typed c =
    let at : CellPlace = (c.args.at.now.row, c.args.at.now.column) in
    let f : Field = record { at_record = c.args.number.at_record; at_field = c.args.number.at_field; bytes = c.args.field.now } in
    let parts = and_parts (is_row (place_of at f).0) (is_column (place_of at f).1) c.requires.inside in
    let row = number_of_row at.0 c.requires.row in
    let column = number_of_column at.1 c.requires.column in
    let last_row = number_of_row (place_of at f).0 parts.0 in
    let last_column = number_of_column (place_of at f).1 parts.1 in
    let to_row = place_cast at.0 f.at_record (omega (arith, ints, row.same, row.low)) c.requires.record.0 (omega (arith, ints, last_row.same, last_row.high)) in
    let to_column = place_cast at.1 f.at_field (omega (arith, ints, column.same, column.low)) c.requires.field.0 (omega (arith, ints, last_column.same, last_column.high)) in
    let text : chars (string_bytes c.in-Ok-from_str.text) ≡ chars f.bytes = ap chars (c.in-Ok-from_str.ensures.ok ∙ c.in-Ok.ensures.cases.0) in
    sym (field_step c.args.at.now.sheet at f _ _ _ (whole_of c.args.model.now.book) to_row to_column text) ∙ c.in-Ok-set_user_input.ensures.does.done

pub returns-in-Err-clause-blocked : goal.returns-in-Err-clause-blocked
returns-in-Err-clause-blocked c =
    let sheet = c.args.at.now.sheet in
    let at : CellPlace = (c.args.at.now.row, c.args.at.now.column) in
    let f : Field = record { at_record = c.args.number.at_record; at_field = c.args.number.at_field; bytes = c.args.field.now } in
    let parts = and_parts (is_row (place_of at f).0) (is_column (place_of at f).1) c.requires.inside in
    let row = number_of_row at.0 c.requires.row in
    let column = number_of_column at.1 c.requires.column in
    let last_row = number_of_row (place_of at f).0 parts.0 in
    let last_column = number_of_column (place_of at f).1 parts.1 in
    let to_row = place_cast at.0 f.at_record (omega (arith, ints, row.same, row.low)) c.requires.record.0 (omega (arith, ints, last_row.same, last_row.high)) in
    let to_column = place_cast at.1 f.at_field (omega (arith, ints, column.same, column.low)) c.requires.field.0 (omega (arith, ints, last_column.same, last_column.high)) in
    let text : chars (string_bytes c.in-Ok-from_str.text) ≡ chars f.bytes = ap chars (c.in-Ok-from_str.ensures.ok ∙ c.in-Ok.ensures.cases.0) in
    let old = c.args.model.now in
    let new = c.set_user_input.new.self in
    let e = c.in-Err.e in
    let step = field_step sheet at f _ _ _ (whole_of old.book) to_row to_column text in
    subst (TellsBlocked (typed sheet at (f ∷ []) (whole_of old.book))) (sym c.blocked.ensures)
    (field_refused sheet at f old new e (subst (λ (m : Stepped Book). Refused WantedIn m old new (refusal_of e)) step c.in-Err.ensures.does.done))
