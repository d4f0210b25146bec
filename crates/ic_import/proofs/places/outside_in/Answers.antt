use Rattle.std.proofs.Common.{◌≡◌, ◌+◌, None, ap, arith, option_map, sym, ◌∙◌, false, true}
use Rattle.csv.specs.Records.{field_at, fields_of}
use Rattle.ic_laws.specs.CoreBook.{CellPlace}
use Rattle.ic_import.specs.Placed.{is_outside, number_of}
use Rattle.ic_import.proofs.FieldLemmas.{found_in, no_field, none_in, passed_in, place_is, some_field}
use Rattle.ic_import.proofs.places.outside_in.Goals as goal

pub returns-then-not-is_inside : goal.returns-then-not-is_inside
returns-then-not-is_inside c =
    let fields = fields_of c.args.fields.now in
    let start : CellPlace = (c.args.start.row, c.args.start.column) in
    let some = some_field fields c.fields.at (omega arith) in
    ap (option_map number_of) (sym (found_in (is_outside start) c.args.at_record c.fields.at fields some.0 some.1 (place_is start c.args.at_record (c.fields.at + 1) some.0 false (sym c.if-not-is_inside.true ∙ c.is_inside.ensures))) ∙ c.fields.invariant)

pub fields-preserved : goal.fields-preserved
fields-preserved c =
    let fields = fields_of c.args.fields.now in
    let start : CellPlace = (c.args.start.row, c.args.start.column) in
    let some = some_field fields c.fields.at (omega arith) in
    passed_in (is_outside start) c.args.at_record c.fields.at fields some.0 some.1 (place_is start c.args.at_record (c.fields.at + 1) some.0 true (sym c.if-not-is_inside.false ∙ c.is_inside.ensures)) ∙ c.fields.invariant

pub returns : goal.returns
returns c =
    let fields = fields_of c.args.fields.now in
    let start : CellPlace = (c.args.start.row, c.args.start.column) in
    let none : field_at fields c.fields.at ≡ None = no_field fields c.fields.at (omega arith) in
    ap (option_map number_of) (sym (none_in (is_outside start) c.args.at_record c.fields.at fields none) ∙ c.fields.invariant)
