use Rattle.std.proofs.Common.{◌≡◌, ◌+◌, add-one, ◌∷◌, List, ℕ, None, Some, Option, ap, arith, length, option_map, sym, ◌∙◌}
use Rattle.csv.specs.Records.{fields_of}
use Rattle.ic_laws.specs.CoreBook.{CellPlace}
use Rattle.std.specs.Option.{option_or}
use Rattle.ic_import.specs.declared.places.FieldNumber.{FieldNumber}
use Rattle.ic_import.specs.Placed.{first_outside, is_outside, number_of}
use Rattle.ic_import.specs.Records.{first_no_text, fields_from, fields_in, is_no_text}
use Rattle.ic_import.proofs.FieldLemmas.{found_here, found_numbers, none_found, passed_here}
use Rattle.ic_import.proofs.places.survey_fields.Goals as goal

pub returns-in-Some : goal.returns-in-Some
returns-in-Some c =
    let n = c.records.at_record + 1 in
    let fields = fields_of c.take.new.fields in
    let takes : c.records.records ≡ fields ∷ c.take.new.self = rw c.if-branch.true at c.in_ok-take.ensures in
    let here : option_map number_of (first_no_text (fields_in n 1 fields)) ≡ Some c.in-Some.number = sym c.no_text_in.ensures ∙ c.in-Some.is in
    let all : option_map number_of (first_no_text (fields_from n (fields ∷ c.take.new.self))) ≡ Some c.in-Some.number = found_here is_no_text n fields c.take.new.self c.in-Some.number here in
    ap (option_map number_of) (sym c.records.invariant.text ∙ ap (λ (rows : List (List (List ℕ))). first_no_text (fields_from n rows)) takes) ∙ all

pub records-preserved : goal.records-preserved
records-preserved c =
    let n = c.records.at_record + 1 in
    let fields = fields_of c.take.new.fields in
    let takes : c.records.records ≡ fields ∷ c.take.new.self = rw c.if-branch.true at c.in_ok-take.ensures in
    let start : CellPlace = (c.args.start.row, c.args.start.column) in
    let none : first_no_text (fields_in n 1 fields) ≡ None = none_found (first_no_text (fields_in n 1 fields)) (sym c.no_text_in.ensures ∙ c.in_default.is) in
    let others : List (List (List ℕ)) = c.take.new.self in
    let size : length c.records.records ≡ length others + 1 = ap length takes ∙ sym (add-one (length others)) in
    record {
      text = passed_here is_no_text n fields others none ∙ (ap (λ (rows : List (List (List ℕ))). first_no_text (fields_from n rows)) (sym takes) ∙ c.records.invariant.text);
      outside =
          ap (λ (o : Option FieldNumber). option_or o (option_map number_of (first_outside start (fields_from (n + 1) others)))) (c.or-outside.ensures ∙ ap (option_or c.records.outside) c.outside_in.ensures)
          ∙ (found_numbers c.records.outside (is_outside start) n fields others
          ∙ (ap (λ (rows : List (List (List ℕ))). option_or c.records.outside (option_map number_of (first_outside start (fields_from n rows)))) (sym takes) ∙ c.records.invariant.outside));
      counted = omega (arith, c.records.invariant.counted);
    }
