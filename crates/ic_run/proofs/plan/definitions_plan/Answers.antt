use Rattle.std.proofs.Common.{ℕ, List, chars, refl, subst, sym}
use Rattle.ic_machine.specs.Command.{OnDefinitions}
use Rattle.ic_machine.specs.subjects.Definitions.{NewDefinedName, UpdateDefinedName, update_of}
use Rattle.ic_words.specs.subjects.Definitions.{definitions_meant}
use Rattle.ic_parts.specs.Translated.{IsToldOf, IsToldWhere}
use Rattle.ic_parts.specs.Whole.{whole_of}
use Rattle.ic_run.specs.Translate.{IsPlan}
use Rattle.ic_run.proofs.TurnLemmas.{told_where}
use Rattle.ic_run.proofs.plan.definitions_plan.Goals as goal

pub returns-in_ok-definition_to_add-in-NewDefinedName : goal.returns-in_ok-definition_to_add-in-NewDefinedName
returns-in_ok-definition_to_add-in-NewDefinedName c =
    let a = c.in-NewDefinedName in
    let target = c.args.target.now in
    let whole = whole_of c.args.model.now.book in
    let own = c.in_ok-definition_to_add-in-NewDefinedName.field-0 in
    subst (λ k. IsPlan target whole (OnDefinitions (definitions_meant k)) c.written.result) (sym a.is)
    (c.written.ensures target whole (OnDefinitions (NewDefinedName a.name a.scope a.body)) refl
    (told_where target whole (OnDefinitions (NewDefinedName a.name a.scope a.body)) own
    (subst (λ (t : List ℕ). IsToldOf whole (OnDefinitions (NewDefinedName a.name a.scope t)) own) c.as_str-in-NewDefinedName.ensures
    (subst (λ (t : List ℕ). IsToldOf whole (OnDefinitions (NewDefinedName t a.scope (chars c.as_str-in-NewDefinedName.result.now))) own) c.as_str.ensures c.in_ok-definition_to_add-in-NewDefinedName.ensures))))

pub returns-in_ok-definition_to_leave-in-UpdateDefinedName : goal.returns-in_ok-definition_to_leave-in-UpdateDefinedName
returns-in_ok-definition_to_leave-in-UpdateDefinedName c =
    let a = c.in-UpdateDefinedName in
    let u = a.update in
    let target = c.args.target.now in
    let whole = whole_of c.args.model.now.book in
    let own = c.in_ok-definition_to_leave-in-UpdateDefinedName.field-0 in
    let name = c.as_str-in-UpdateDefinedName in
    let new_name = c.as_str-in-UpdateDefinedName-2 in
    let body = c.as_str-in-UpdateDefinedName-3 in
    subst (λ k. IsPlan target whole (OnDefinitions (definitions_meant k)) c.written-in-UpdateDefinedName.result) (sym a.is)
    (c.written-in-UpdateDefinedName.ensures target whole (OnDefinitions (UpdateDefinedName (update_of u.name u.scope u.new_name u.new_scope u.body))) refl
    (subst (λ (t : List ℕ). IsToldWhere target whole (OnDefinitions (UpdateDefinedName (update_of u.name u.scope u.new_name u.new_scope t))) own) body.ensures
    (subst (λ (t : List ℕ). IsToldWhere target whole (OnDefinitions (UpdateDefinedName (update_of u.name u.scope t u.new_scope (chars body.result.now)))) own) new_name.ensures
    (subst (λ (t : List ℕ). IsToldWhere target whole (OnDefinitions (UpdateDefinedName (update_of t u.scope (chars new_name.result.now) u.new_scope (chars body.result.now)))) own) name.ensures c.in_ok-definition_to_leave-in-UpdateDefinedName.ensures))))
