use Rattle.std.proofs.Common.{◌≡◌, ◌+◌, None, Some, ap, option_map, sym, ◌∙◌}
use Rattle.csv.specs.Records.{field_at, fields_of}
use Rattle.ic_import.specs.Placed.{number_of}
use Rattle.ic_import.specs.Records.{Field, is_no_text}
use Rattle.ic_import.proofs.FieldLemmas.{found_in, is_text, isnt_text, none_in, passed_in}
use Rattle.ic_import.proofs.places.no_text_in.Goals as goal

pub returns-in_default-from_utf8 : goal.returns-in_default-from_utf8
returns-in_default-from_utf8 c =
    let fields = fields_of c.args.fields.now in
    let bytes = c.in-Some.field.now in
    let at : field_at fields c.fields.at ≡ Some bytes = rw c.in-Some.is at (sym c.get.ensures.value) in
    let field : Field = record { at_record = c.args.at_record; at_field = c.fields.at + 1; bytes = bytes } in
    ap (option_map number_of) (sym (found_in is_no_text c.args.at_record c.fields.at fields bytes at (isnt_text field c.in_default-from_utf8.ensures.cases.0)) ∙ c.fields.invariant)

pub fields-preserved : goal.fields-preserved
fields-preserved c =
    let fields = fields_of c.args.fields.now in
    let bytes = c.in-Some.field.now in
    let at : field_at fields c.fields.at ≡ Some bytes = rw c.in-Some.is at (sym c.get.ensures.value) in
    passed_in is_no_text c.args.at_record c.fields.at fields bytes at (is_text (record { at_record = c.args.at_record; at_field = c.fields.at + 1; bytes = bytes }) c.in-Ok.ensures.cases.1) ∙ c.fields.invariant

pub returns : goal.returns
returns c =
    let fields = fields_of c.args.fields.now in
    let none : field_at fields c.fields.at ≡ None = rw c.in_default.is at (sym c.get.ensures.value) in
    ap (option_map number_of) (sym (none_in is_no_text c.args.at_record c.fields.at fields none) ∙ c.fields.invariant)
