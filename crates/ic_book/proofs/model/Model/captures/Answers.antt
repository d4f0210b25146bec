use Rattle.std.proofs.Common.{chars, sym, ◌∙◌}
use Rattle.ic_machine.specs.Refusal.{first_refusal}
use Rattle.ic_machine.specs.subjects.Definitions.{question_causes, update_of}
use Rattle.ic_parts.specs.Whole.{whole_of}
use Rattle.ic_changes.proofs.UpdatedDoes.{question_wants}
use Rattle.ic_book.proofs.UpdatedHeld.{captures_held, leaves_held, none_held}
use Rattle.ic_book.proofs.model.Model.captures.Goals as goal

pub returns-in_err-change-clause-refused : goal.returns-in_err-change-clause-refused
returns-in_err-change-clause-refused c = question_wants (first_refusal (question_causes (whole_of c.args.self.now.book) (update_of (chars c.args.name.now) c.args.scope (chars c.args.new_name.now) c.args.new_scope (chars c.args.formula.now)))) c.in_ok-checked.ensures.checked.accepted c.from_residual-in_err-change.result c.from_residual-in_err-change.ensures

pub returns-then-not-may-clause-ok : goal.returns-then-not-may-clause-ok
returns-then-not-may-clause-ok c =
    none_held c.self.inside c.self.invariant.book c.args.self.now c.self.view_is
    (update_of (chars c.args.name.now) c.args.scope (chars c.args.new_name.now) c.args.new_scope (chars c.args.formula.now)) c.in_ok-checked.checked c.in_ok-checked.ensures.checked
    c.get_default_language-english.result.now c.get_default_language-english.ensures.found c.in_ok-change.change c.in_ok-change.ensures (sym c.in_ok-may.ensures ∙ c.if-not-may.true)

pub prepare_update-requires-clause-leaves : goal.prepare_update-requires-clause-leaves
prepare_update-requires-clause-leaves c = leaves_held c.self.inside c.self.invariant.book c.args.self.now c.self.view_is (update_of (chars c.args.name.now) c.args.scope (chars c.args.new_name.now) c.args.new_scope (chars c.args.formula.now)) c.in_ok-checked.checked c.in_ok-checked.ensures.checked c.get_default_language-english.result.now c.get_default_language-english.ensures.found c.in_ok-change.change c.in_ok-change.ensures

pub returns-in_err-prepared-clause-refused : goal.returns-in_err-prepared-clause-refused
returns-in_err-prepared-clause-refused c = question_wants (first_refusal (question_causes (whole_of c.args.self.now.book) (update_of (chars c.args.name.now) c.args.scope (chars c.args.new_name.now) c.args.new_scope (chars c.args.formula.now)))) c.in_ok-checked.ensures.checked.accepted c.from_residual-in_err-prepared.result c.from_residual-in_err-prepared.ensures

pub returns-clause-ok : goal.returns-clause-ok
returns-clause-ok c = c.captures-2.ensures ∙ captures_held c.self.inside c.self.invariant.book c.args.self.now c.self.view_is (update_of (chars c.args.name.now) c.args.scope (chars c.args.new_name.now) c.args.new_scope (chars c.args.formula.now)) c.in_ok-checked.checked c.in_ok-checked.ensures.checked c.get_default_language-english.result.now c.get_default_language-english.ensures.found c.in_ok-change.change c.in_ok-change.ensures c.in_ok-prepared.prepared c.in_ok-prepared.ensures
