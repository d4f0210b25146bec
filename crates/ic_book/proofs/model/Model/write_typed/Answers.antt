use Rattle.std.proofs.Common.{◌∙◌, ℕ, chars, inl, option_map, sym, ap, ap₂, subst}
use Rattle.ic_laws.specs.CoreBook.{CellPlace}
use Rattle.ic_cells.specs.declared.style.Style.{Style}
use Rattle.ic_machine.specs.Book as machine
use Rattle.ic_machine.specs.Book.{Stepped}
use Rattle.ic_machine.specs.Content.{Content}
use Rattle.ic_parts.specs.Book.{whole_of}
use Rattle.ic_parts.specs.Does.{DoesStep, Wanted, WantedIn}
use Rattle.ic_parts.specs.Fields.{no_fields}
use Rattle.ic_parts.specs.Values.{Shows, put_step, style_change, typed_step, value_content}
use Rattle.ic_parts.specs.Written.{put_formula_step, value_refusal}
use Rattle.ic_changes.proofs.TypedSteps.{either_look_up, formula_put, other_put, wanted_in}
use Rattle.ic_parts.proofs.WholeWritten.{writes}
use Rattle.ic_cells.proofs.MapLemmas.{stored_pair}
use Rattle.ic_book.proofs.model.Model.write_typed.Goals as goal

pub returns-in_default-clause-does : goal.returns-in_default-clause-does
returns-in_default-clause-does c =
    let old = c.args.self.now in
    let whole = whole_of old.book in
    let none = sym c.typed_formula.ensures ∙ ap (option_map (λ f. chars f.now)) c.in_default.is in
    let same =
    ap₂ (λ (change : Style → Style) (content : ℕ → Content). put_step whole c.args.sheet c.args.row c.args.column change content) c.typed_change-change.ensures c.typed_value-value.ensures
    ∙ other_put whole c.args.sheet c.args.row c.args.column c.args.typed.now none in
    wanted_in (typed_step whole c.args.sheet c.args.row c.args.column c.args.typed.now) no_fields old c.put_value.new.self c.put_value.result
    (subst (λ (made : Stepped machine.Book). DoesStep Wanted made no_fields c.put_value.result old c.put_value.new.self) same
    (subst (λ (p : CellPlace). DoesStep Wanted (put_step whole c.args.sheet p.0 p.1 (style_change c.typed_change-change.result) (value_content c.typed_value-value.result)) no_fields c.put_value.result old c.put_value.new.self) (stored_pair c.args.row c.args.column c.ranges.row c.ranges.column) c.put_value.ensures.does))

pub returns-in_default-clause-looks_up : goal.returns-in_default-clause-looks_up
returns-in_default-clause-looks_up c = inl c.put_value.ensures.looks_up

pub put_value-requires-clause-shows : goal.put_value-requires-clause-shows
put_value-requires-clause-shows c =
    subst (λ (p : CellPlace). Shows c.args.self.now.book c.args.sheet p.0 p.1 c.args.shown) (sym (stored_pair c.args.row c.args.column c.ranges.row c.ranges.column)) c.requires.shows

pub put_value-requires-clause-allowed : goal.put_value-requires-clause-allowed
put_value-requires-clause-allowed c =
    ap (λ (p : CellPlace). value_refusal c.args.self.now.book c.args.sheet p.0 p.1) (stored_pair c.args.row c.args.column c.ranges.row c.ranges.column) ∙ c.requires.allowed

pub write_formula-requires-clause-shows : goal.write_formula-requires-clause-shows
write_formula-requires-clause-shows c =
    subst (λ (p : CellPlace). Shows c.args.self.now.book c.args.sheet p.0 p.1 c.args.shown) (sym (stored_pair c.args.row c.args.column c.ranges.row c.ranges.column)) c.requires.shows

pub write_formula-requires-clause-allowed : goal.write_formula-requires-clause-allowed
write_formula-requires-clause-allowed c =
    ap (λ (p : CellPlace). value_refusal c.args.self.now.book c.args.sheet p.0 p.1) (stored_pair c.args.row c.args.column c.ranges.row c.ranges.column) ∙ c.requires.allowed

pub returns-clause-does : goal.returns-clause-does
returns-clause-does c =
    let old = c.args.self.now in
    let new = c.write_formula.new.self in
    let sheet = c.args.sheet in
    let body = chars c.in-Some.body.now in
    let some = sym c.typed_formula.ensures ∙ ap (option_map (λ f. chars f.now)) c.in-Some.is in
    let allowed = ap (λ (p : CellPlace). value_refusal old.book sheet p.0 p.1) (stored_pair c.args.row c.args.column c.ranges.row c.ranges.column) ∙ c.requires.allowed in
    let did =
    subst (λ (p : CellPlace). DoesStep WantedIn (put_formula_step (whole_of old.book) sheet p body) no_fields c.write_formula.result old new) (stored_pair c.args.row c.args.column c.ranges.row c.ranges.column)
    (writes c.write_formula.result old new c.write_formula.ensures.valid sheet _ body allowed c.write_formula.ensures.written c.write_formula.ensures.lacks c.write_formula.ensures.err) in
    subst (λ (made : Stepped machine.Book). DoesStep WantedIn made no_fields c.write_formula.result old new) (formula_put (whole_of old.book) sheet c.args.row c.args.column c.args.typed.now body some) did

pub returns-clause-looks_up : goal.returns-clause-looks_up
returns-clause-looks_up c = either_look_up c.write_formula.result c.args.sheet c.args.self.now c.write_formula.new.self c.write_formula.ensures.looks_up c.write_formula.ensures.left
