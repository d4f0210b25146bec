use Rattle.std.proofs.Common.{List, Option, Some, ap, chars, inl, map, sym, ◌∙◌}
use Rattle.ic_machine.specs.Refusal.{Refusal, WouldCapture}
use Rattle.ic_machine.specs.subjects.Definitions.{update_of}
use Rattle.ic_parts.specs.Sites.{site_of}
use Rattle.ic_parts.specs.Whole.{whole_of}
use Rattle.ic_parts.specs.declared.sites.MentionSite.{MentionSite}
use Rattle.ic_changes.proofs.UpdatedDoes.{refused_by_checks, wanted_after}
use Rattle.ic_book.proofs.UpdatedHeld.{accepted_held, apart_held, fits_held, leaves_held, refused_held, updated_held, updated_looks_up, updated_whole, within_held}
use Rattle.ic_parts.proofs.NameIndexLemmas.{indexed_same}
use Rattle.ic_sheets.proofs.OwnLemmas.{same_ids, same_names}
use Rattle.ic_sheets.proofs.SearchLemmas.{ids, names}
use Rattle.ic_book.proofs.model.Model.update.Goals as goal

pub returns-in_err-checked-clause-refused : goal.returns-in_err-checked-clause-refused
returns-in_err-checked-clause-refused c = refused_by_checks (whole_of c.args.self.now.book) (update_of (chars c.args.name.now) c.args.scope (chars c.args.new_name.now) c.args.new_scope (chars c.args.formula.now)) c.in_err-checked.field-0.0 c.from_residual.result c.from_residual.ensures c.in_err-checked.ensures.refused

pub returns-in_err-change-clause-refused : goal.returns-in_err-change-clause-refused
returns-in_err-change-clause-refused c = wanted_after (whole_of c.args.self.now.book) (update_of (chars c.args.name.now) c.args.scope (chars c.args.new_name.now) c.args.new_scope (chars c.args.formula.now)) c.in_ok-checked.ensures.checked.accepted c.from_residual-in_err-change.result c.from_residual-in_err-change.ensures

pub prepare_update-requires-clause-leaves : goal.prepare_update-requires-clause-leaves
prepare_update-requires-clause-leaves c = leaves_held c.self.inside c.self.invariant.book c.args.self.now c.self.view_is (update_of (chars c.args.name.now) c.args.scope (chars c.args.new_name.now) c.args.new_scope (chars c.args.formula.now)) c.in_ok-checked.checked c.in_ok-checked.ensures.checked c.get_default_language-english.result.now c.get_default_language-english.ensures.found c.in_ok-change.change c.in_ok-change.ensures

pub returns-in_err-prepared-clause-refused : goal.returns-in_err-prepared-clause-refused
returns-in_err-prepared-clause-refused c = wanted_after (whole_of c.args.self.now.book) (update_of (chars c.args.name.now) c.args.scope (chars c.args.new_name.now) c.args.new_scope (chars c.args.formula.now)) c.in_ok-checked.ensures.checked.accepted c.from_residual-in_err-prepared.result c.from_residual-in_err-prepared.ensures

pub returns-then-captures-clause-refused : goal.returns-then-captures-clause-refused
returns-then-captures-clause-refused c = inl (refused_held c.self.inside c.self.invariant.book c.args.self.now c.self.view_is (update_of (chars c.args.name.now) c.args.scope (chars c.args.new_name.now) c.args.new_scope (chars c.args.formula.now)) c.in_ok-checked.checked c.in_ok-checked.ensures.checked c.get_default_language-english.result.now c.get_default_language-english.ensures.found c.in_ok-change.change c.in_ok-change.ensures c.in_ok-prepared.prepared c.in_ok-prepared.ensures (sym c.if-captures.true ∙ c.captures-2.ensures) ∙ ap (λ (sites : List MentionSite). let o : Option Refusal = Some (WouldCapture (map site_of sites)) in o) (sym c.into_sites.ensures))

pub returns-in_err-definition-clause-refused : goal.returns-in_err-definition-clause-refused
returns-in_err-definition-clause-refused c = wanted_after (whole_of c.args.self.now.book) (update_of (chars c.args.name.now) c.args.scope (chars c.args.new_name.now) c.args.new_scope (chars c.args.formula.now)) c.in_ok-checked.ensures.checked.accepted c.from_residual-in_err-definition.result c.from_residual-in_err-definition.ensures

pub apply-requires-clause-within : goal.apply-requires-clause-within
apply-requires-clause-within c = within_held c.self.inside c.self.invariant.book c.args.self.now c.self.view_is (update_of (chars c.args.name.now) c.args.scope (chars c.args.new_name.now) c.args.new_scope (chars c.args.formula.now)) c.in_ok-checked.checked c.in_ok-checked.ensures.checked c.get_default_language-english.result.now c.get_default_language-english.ensures.found c.in_ok-change.change c.in_ok-change.ensures c.in_ok-prepared.prepared c.in_ok-prepared.ensures (sym c.captures-2.ensures ∙ c.if-captures.false)

pub apply-requires-clause-apart : goal.apply-requires-clause-apart
apply-requires-clause-apart c = apart_held c.self.inside c.self.invariant.book c.args.self.now c.self.view_is (update_of (chars c.args.name.now) c.args.scope (chars c.args.new_name.now) c.args.new_scope (chars c.args.formula.now)) c.in_ok-checked.checked c.in_ok-checked.ensures.checked c.get_default_language-english.result.now c.get_default_language-english.ensures.found c.in_ok-change.change c.in_ok-change.ensures c.in_ok-prepared.prepared c.in_ok-prepared.ensures (sym c.captures-2.ensures ∙ c.if-captures.false) c.in_ok-definition.definition c.in_ok-definition.ensures

pub apply-requires-clause-formulas : goal.apply-requires-clause-formulas
apply-requires-clause-formulas c = fits_held c.self.inside c.self.invariant.book c.args.self.now c.self.view_is (update_of (chars c.args.name.now) c.args.scope (chars c.args.new_name.now) c.args.new_scope (chars c.args.formula.now)) c.in_ok-checked.checked c.in_ok-checked.ensures.checked c.get_default_language-english.result.now c.get_default_language-english.ensures.found c.in_ok-change.change c.in_ok-change.ensures c.in_ok-prepared.prepared c.in_ok-prepared.ensures (sym c.captures-2.ensures ∙ c.if-captures.false)

pub returns-in_err-apply-clause-refused : goal.returns-in_err-apply-clause-refused
returns-in_err-apply-clause-refused c = wanted_after (whole_of c.args.self.now.book) (update_of (chars c.args.name.now) c.args.scope (chars c.args.new_name.now) c.args.new_scope (chars c.args.formula.now)) c.in_ok-checked.ensures.checked.accepted c.from_residual-in_err-apply.result c.from_residual-in_err-apply.ensures

pub invariant_of-self-2 : goal.invariant_of-self-2
invariant_of-self-2 c =
    let same = indexed_same c.self.inside.names c.self.inside.contents.sheets c.apply.new.contents.sheets c.self.inside.contents.definitions c.self.invariant.names (ap names c.in_ok-apply.ensures.sheets ∙ same_names _ _) (ap ids c.in_ok-apply.ensures.sheets ∙ same_ids _ _) in
    record {
      book = updated_held c.self.inside c.self.invariant.book c.args.self.now c.self.view_is (update_of (chars c.args.name.now) c.args.scope (chars c.args.new_name.now) c.args.new_scope (chars c.args.formula.now)) c.in_ok-checked.checked c.in_ok-checked.ensures.checked c.get_default_language-english.result.now c.get_default_language-english.ensures.found c.in_ok-change.change c.in_ok-change.ensures c.in_ok-prepared.prepared c.in_ok-prepared.ensures (sym c.captures-2.ensures ∙ c.if-captures.false) c.in_ok-definition.definition c.in_ok-definition.ensures c.apply.new.contents.sheets c.apply.new.contents.definitions c.in_ok-apply.ensures.sheets c.in_ok-apply.ensures.definitions;
      names = record { sheets = same.sheets; names = c.apply.ensures.finds; numbers = same.numbers };
    }

pub returns-clause-ok : goal.returns-clause-ok
returns-clause-ok c = updated_whole c.self.inside c.self.invariant.book c.args.self.now c.self.view_is (update_of (chars c.args.name.now) c.args.scope (chars c.args.new_name.now) c.args.new_scope (chars c.args.formula.now)) c.in_ok-checked.checked c.in_ok-checked.ensures.checked c.get_default_language-english.result.now c.get_default_language-english.ensures.found c.in_ok-change.change c.in_ok-change.ensures c.in_ok-prepared.prepared c.in_ok-prepared.ensures (sym c.captures-2.ensures ∙ c.if-captures.false) c.in_ok-definition.definition c.in_ok-definition.ensures c.apply.new.contents.sheets c.apply.new.contents.definitions c.in_ok-apply.ensures.sheets c.in_ok-apply.ensures.definitions

pub returns-clause-looks_up : goal.returns-clause-looks_up
returns-clause-looks_up c = updated_looks_up c.self.inside c.self.invariant.book c.args.self.now c.self.view_is (update_of (chars c.args.name.now) c.args.scope (chars c.args.new_name.now) c.args.new_scope (chars c.args.formula.now)) c.in_ok-checked.checked c.in_ok-checked.ensures.checked c.get_default_language-english.result.now c.get_default_language-english.ensures.found c.in_ok-change.change c.in_ok-change.ensures c.in_ok-prepared.prepared c.in_ok-prepared.ensures (sym c.captures-2.ensures ∙ c.if-captures.false) c.in_ok-definition.definition c.in_ok-definition.ensures c.apply.new.contents.sheets c.apply.new.contents.definitions c.in_ok-apply.ensures.sheets c.in_ok-apply.ensures.definitions

pub returns-clause-refused : goal.returns-clause-refused
returns-clause-refused c = accepted_held c.self.inside c.self.invariant.book c.args.self.now c.self.view_is (update_of (chars c.args.name.now) c.args.scope (chars c.args.new_name.now) c.args.new_scope (chars c.args.formula.now)) c.in_ok-checked.checked c.in_ok-checked.ensures.checked c.get_default_language-english.result.now c.get_default_language-english.ensures.found c.in_ok-change.change c.in_ok-change.ensures c.in_ok-prepared.prepared c.in_ok-prepared.ensures (sym c.captures-2.ensures ∙ c.if-captures.false)

pub returns-clause-after : goal.returns-clause-after
returns-clause-after c = updated_held c.self.inside c.self.invariant.book c.args.self.now c.self.view_is (update_of (chars c.args.name.now) c.args.scope (chars c.args.new_name.now) c.args.new_scope (chars c.args.formula.now)) c.in_ok-checked.checked c.in_ok-checked.ensures.checked c.get_default_language-english.result.now c.get_default_language-english.ensures.found c.in_ok-change.change c.in_ok-change.ensures c.in_ok-prepared.prepared c.in_ok-prepared.ensures (sym c.captures-2.ensures ∙ c.if-captures.false) c.in_ok-definition.definition c.in_ok-definition.ensures c.apply.new.contents.sheets c.apply.new.contents.definitions c.in_ok-apply.ensures.sheets c.in_ok-apply.ensures.definitions
