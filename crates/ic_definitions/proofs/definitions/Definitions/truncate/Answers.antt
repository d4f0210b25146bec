use Rattle.std.proofs.Common.{◌≤◌, ap, ltb, rules, subst, sym, take, ◌∙◌}
use Rattle.std.proofs.lemmas.Map.Made.{filter_same_pairs}
use Rattle.ic_laws.specs.Greatest.{greatest}
use Rattle.ic_definitions.specs.Named.{FindsNames, scopes_of}
use Rattle.ic_definitions.proofs.AppendedNames.{finds_taken, named_taken}
use Rattle.ic_definitions.proofs.MentionedBodies.{knows_taken}
use Rattle.ic_definitions.proofs.ScopeLemmas.{greatest_taken}
use Rattle.ic_definitions.proofs.definitions.Definitions.truncate.Goals as goal

pub greatest_of-self-inside-requires : goal.greatest_of-self-inside-requires
greatest_of-self-inside-requires c =
    let ds = c.self.inside.list.items in
    subst (λ xs. greatest (scopes_of xs) ≤ c.self.inside.greatest) (sym (c.deref.ensures.value ∙ c.truncate.ensures.items))
    (subst (λ most. greatest (scopes_of (take c.args.count ds)) ≤ most) (sym c.self.invariant.0.greatest) (greatest_taken c.args.count ds))

pub invariant_of-self : goal.invariant_of-self
invariant_of-self c = (
  named_taken c.self.inside.greatest c.greatest_of-self-inside.result c.args.count c.self.inside.may_dangle c.self.inside.list.items c.truncate.new.self.items c.self.invariant.0
      (c.greatest_of-self-inside.ensures ∙ ap (λ xs. greatest (scopes_of xs)) c.deref.ensures.value) c.truncate.ensures.items,
  knows_taken c.self.inside.mentioned c.self.inside.list.items c.truncate.new.self.items c.args.count c.self.invariant.1 c.truncate.ensures.items,
)

pub returns-clause-finds : goal.returns-clause-finds
returns-clause-finds c =
    let left = filter_same_pairs _ (λ p. ltb p.1 c.args.count) _ (λ k v b w f' t. search rules) _ _ c.retain.ensures.filtered in
    finds_taken c.args.places.now c.retain.new.self c.args.count c.self.inside.list.items c.truncate.new.self.items (subst (FindsNames c.args.places.now) (sym c.self.view_is) c.requires)
    c.retain.ensures.was_ordered left c.truncate.ensures.items
