use Rattle.std.proofs.Common.{◌∙◌, List, ap, sym, subst, refl}
use Rattle.std.proofs.lemmas.Bool.{or_parts}
use Rattle.std.specs.List.{AllByRecursion}
use Rattle.ic_laws.specs.CoreBook.{Definition}
use Rattle.ic_laws.specs.CoreStep.{updated_at}
use Rattle.ic_definitions.specs.Bodies.{HasFoundAll}
use Rattle.ic_definitions.proofs.BodyLemmas.{body_set, found_set, keys_set, with_body}
use Rattle.ic_definitions.proofs.MentionedBodies.{knows_more, knows_renewed, knows_set}
use Rattle.ic_definitions.proofs.NamedLemmas.{finds_same, keys, named_same}
use Rattle.ic_definitions.proofs.definitions.Definitions.set_body.Goals as goal

pub invariant_of-self : goal.invariant_of-self
invariant_of-self c =
    let ds : List Definition = c.self.inside.list.items in
    let at = c.args.index in
    let now = body_set c.args.body ds _ at c.index_mut-definition.result.now c.set_body.new.self c.index_mut-definition.ensures.value c.set_body.ensures refl in (
      named_same c.self.inside.greatest c.self.inside.may_dangle _ ds _ c.self.invariant.0 (ap keys now ∙ keys_set c.args.body ds at)
          (λ e.
          let parts = or_parts c.self.inside.may_dangle c.has_dangling.result e in
          subst (AllByRecursion HasFoundAll) (sym now) (found_set c.args.body ds at (sym c.has_dangling.ensures ∙ parts.1) (c.self.invariant.0.dangles parts.0))),
      knows_renewed c.note.new.self c.renew.new.self _ c.deref.result.now c.deref.ensures.value c.renew.ensures
          (knows_set c.note.new.self ds _ at c.args.body (knows_more c.self.inside.mentioned c.note.new.self ds c.note.ensures.kept c.self.invariant.1) c.note.ensures.noted now),
    )

pub returns-clause-finds : goal.returns-clause-finds
returns-clause-finds c =
    let ds : List Definition = c.self.inside.list.items in
    let now = body_set c.args.body ds _ c.args.index c.index_mut-definition.result.now c.set_body.new.self c.index_mut-definition.ensures.value c.set_body.ensures refl in
    λ places finds. finds_same places c.args.self.now _ finds (ap keys now ∙ keys_set c.args.body ds c.args.index ∙ ap keys c.self.view_is)

pub returns-clause-bodies : goal.returns-clause-bodies
returns-clause-bodies c =
    let ds : List Definition = c.self.inside.list.items in
    body_set c.args.body ds _ c.args.index c.index_mut-definition.result.now c.set_body.new.self c.index_mut-definition.ensures.value c.set_body.ensures refl
    ∙ ap (updated_at (with_body c.args.body) c.args.index) c.self.view_is
