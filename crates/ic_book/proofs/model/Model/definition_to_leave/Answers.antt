use Rattle.std.proofs.Common.{chars, not, subst, sym, ap, ◌∙◌}
use Rattle.ic_machine.specs.subjects.Definitions.{update_of}
use Rattle.ic_parts.specs.Book.{whole_of}
use Rattle.ic_parts.specs.Translated.{IsToldAsked, why_meant}
use Rattle.ic_book.proofs.OwnDefinitions.{captures_gone, question_gone, spared_left}
use Rattle.ic_changes.proofs.OwnDefinitions.{not_hindered}
use Rattle.ic_book.proofs.model.Model.definition_to_leave.Goals as goal

pub returns-then-is_none : goal.returns-then-is_none
returns-then-is_none c =
    let u = update_of (chars c.args.name.now) c.args.scope (chars c.args.new_name.now) c.args.new_scope (chars c.args.formula.now) in
    let told = subst (IsToldAsked (whole_of c.args.self.now.book) u) c.in-Some.is c.in_ok-own.ensures in
    (told.0, λ target here some. absurd (not_hindered why_meant c.why_not.result _ (c.why_not.ensures target here) (c.is_none.ensures ∙ ap not c.if-is_none.true) some))

pub returns-in-Ok-true : goal.returns-in-Ok-true
returns-in-Ok-true c =
    let u = update_of (chars c.args.name.now) c.args.scope (chars c.args.new_name.now) c.args.new_scope (chars c.args.formula.now) in
    let told = subst (IsToldAsked (whole_of c.args.self.now.book) u) c.in-Some.is c.in_ok-own.ensures in
    captures_gone (whole_of c.args.self.now.book) u told.1 (sym c.in-Ok-true.ensures.ok ∙ c.in-Ok-true.field-0-test)

pub returns-in-Ok-false : goal.returns-in-Ok-false
returns-in-Ok-false c =
    let u = update_of (chars c.args.name.now) c.args.scope (chars c.args.new_name.now) c.args.new_scope (chars c.args.formula.now) in
    let told = subst (IsToldAsked (whole_of c.args.self.now.book) u) c.in-Some.is c.in_ok-own.ensures in
    (told.0, λ target here some. spared_left (whole_of c.args.self.now.book) u told.1 (sym c.in-Ok-false.ensures.ok ∙ c.in-Ok-false.field-0-test))

pub returns-in-None : goal.returns-in-None
returns-in-None c =
    let u = update_of (chars c.args.name.now) c.args.scope (chars c.args.new_name.now) c.args.new_scope (chars c.args.formula.now) in
    question_gone (whole_of c.args.self.now.book) u (subst (IsToldAsked (whole_of c.args.self.now.book) u) c.in-None.is c.in_ok-own.ensures)
