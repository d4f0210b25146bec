use Rattle.std.proofs.Common.{◌≡◌, ◌+◌, List, [], ◌∷◌, None, Some, ap, arith, subst, sym, ◌∙◌}
use Rattle.csv.specs.Records.{field_at, fields_of}
use Rattle.ic_laws.specs.CoreBook.{CellPlace}
use Rattle.ic_parts.specs.Whole.{whole_of}
use Rattle.ic_import.specs.Records.{Field, fields_in}
use Rattle.ic_import.specs.Typed.{TellsBlocked, Typable, typed}
use Rattle.ic_import.proofs.FieldLemmas.{left_in, left_next, left_none}
use Rattle.ic_import.proofs.TypingLemmas.{blocked_first, error_as, few_columns, field_taken, typable_first, typable_parts, typed_after}
use Rattle.ic_import.proofs.typing.type_record.Goals as goal

pub type_field-requires : goal.type_field-requires
type_field-requires c =
    let place : CellPlace = (c.args.at.now.row, c.args.at.now.column) in
    let fields = fields_of c.args.fields.now in
    let f : Field = record { at_record = c.args.at_record; at_field = c.fields.done + 1; bytes = c.in-Some.field.now } in
    let at : field_at fields c.fields.done ≡ Some f.bytes = rw c.in-Some.is at (sym c.get.ensures.value) in
    let next = left_next c.args.at_record c.fields.done fields f.bytes at in
    let first = typable_first place f (left_in c.args.at_record fields (c.fields.done + 1)) (subst (Typable place) next c.fields.invariant.typable) in
    let few = few_columns place c.requires.column f first.1 in
    record {
      row = c.requires.row;
      column = c.requires.column;
      «record» = c.requires.record;
      field = omega arith;
      text = first.0;
      inside = first.1;
    }

pub fields-preserved : goal.fields-preserved
fields-preserved c =
    let place : CellPlace = (c.args.at.now.row, c.args.at.now.column) in
    let sheet = c.args.at.now.sheet in
    let fields = fields_of c.args.fields.now in
    let f : Field = record { at_record = c.args.at_record; at_field = c.fields.done + 1; bytes = c.in-Some.field.now } in
    let at : field_at fields c.fields.done ≡ Some f.bytes = rw c.in-Some.is at (sym c.get.ensures.value) in
    let rest = left_in c.args.at_record fields (c.fields.done + 1) in
    let next : left_in c.args.at_record fields c.fields.done ≡ f ∷ rest = left_next c.args.at_record c.fields.done fields f.bytes at in
    let old = whole_of c.fields.model.book in
    let new = whole_of c.type_field.new.model.book in
    record {
      typed = sym (typed_after sheet place (f ∷ []) rest old new (field_taken sheet place f old new c.in_ok-type_field.ensures.typed)) ∙ ap (λ (fs : List Field). typed sheet place fs old) (sym next) ∙ c.fields.invariant.typed;
      typable = (typable_parts place (f ∷ []) rest (subst (Typable place) next c.fields.invariant.typable)).1;
    }

pub returns-in_err-type_field-clause-blocked : goal.returns-in_err-type_field-clause-blocked
returns-in_err-type_field-clause-blocked c =
    let place : CellPlace = (c.args.at.now.row, c.args.at.now.column) in
    let sheet = c.args.at.now.sheet in
    let fields = fields_of c.args.fields.now in
    let f : Field = record { at_record = c.args.at_record; at_field = c.fields.done + 1; bytes = c.in-Some.field.now } in
    let at : field_at fields c.fields.done ≡ Some f.bytes = rw c.in-Some.is at (sym c.get.ensures.value) in
    let rest = left_in c.args.at_record fields (c.fields.done + 1) in
    let next : left_in c.args.at_record fields c.fields.done ≡ f ∷ rest = left_next c.args.at_record c.fields.done fields f.bytes at in
    let old = whole_of c.fields.model.book in
    let all = typed sheet place (fields_in c.args.at_record 1 fields) (whole_of c.args.model.now.book) in
    let same : typed sheet place (f ∷ rest) old ≡ all = ap (λ (fs : List Field). typed sheet place fs old) (sym next) ∙ c.fields.invariant.typed in
    let e = c.in_err-type_field.field-0.0 in
    error_as c.from_residual.result e (TellsBlocked all) c.from_residual.ensures
    (subst (λ r. TellsBlocked r e) same (blocked_first sheet place (f ∷ []) rest old e c.in_err-type_field.ensures.blocked))

pub returns-clause-typed : goal.returns-clause-typed
returns-clause-typed c =
    let place : CellPlace = (c.args.at.now.row, c.args.at.now.column) in
    let sheet = c.args.at.now.sheet in
    let fields = fields_of c.args.fields.now in
    let none : field_at fields c.fields.done ≡ None = rw c.in_default.is at (sym c.get.ensures.value) in
    sym c.fields.invariant.typed ∙ ap (λ (fs : List Field). typed sheet place fs (whole_of c.fields.model.book)) (left_none c.args.at_record c.fields.done fields none)
