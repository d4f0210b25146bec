use Rattle.std.proofs.Common.{◌≡◌, ◌∙◌, ◌++◌, ◌∷◌, [], List, ap, sym, subst, false, max, length}
use Rattle.std.specs.List.{AllByRecursion, list_any}
use Rattle.std.proofs.lemmas.Bool.{or_parts}
use Rattle.ic_laws.specs.CoreBook.{Definition}
use Rattle.ic_laws.specs.CoreStep.{is_named}
use Rattle.ic_pool.specs.Mentions.{has_dangling}
use Rattle.ic_definitions.specs.Bodies.{HasFoundAll, with_bodies}
use Rattle.ic_definitions.specs.Mentioned.{KnowsBodies, KnowsFormula}
use Rattle.ic_definitions.specs.Named.{FindsNames}
use Rattle.ic_definitions.proofs.BodyLemmas.{keys_kept, written_back}
use Rattle.ic_definitions.proofs.MentionedBodies.{knows_more, knows_pushed, knows_written}
use Rattle.ic_definitions.proofs.NamedLemmas.{finds_pushed, named_pushed}
use Rattle.ic_definitions.proofs.definitions.Definitions.add_prepared.Goals as goal

pub invariant_of-self-2 : goal.invariant_of-self-2
invariant_of-self-2 c =
    let ds : List Definition = c.self.inside.list.items in
    let news = c.args.rewrites.bodies.items in
    let d : Definition = c.args.definition in
    let back : _ ≡ with_bodies news ds =
    written_back c.reserve.new.self.len news c.reserve.new.self.items c.deref_mut.result.now c.put.new.definitions c.put.ensures c.deref_mut.ensures.value c.reserve.new.self.ok.0 ∙ ap (with_bodies news) c.reserve.ensures.items in
    let free : list_any (is_named d.name d.scope) ds ≡ false = ap (list_any (is_named d.name d.scope)) c.self.view_is ∙ c.requires.free in
    let pushed = c.push_reserved.ensures.items ∙ ap (λ xs. xs ++ d ∷ []) back in
    let written : KnowsBodies c.note_all.new.self (with_bodies news ds) =
    knows_written c.self.inside.mentioned c.note_all.new.self news c.bodies.result.now ds c.bodies.ensures c.note_all.ensures.noted c.note_all.ensures.kept c.self.invariant.1 in (
      named_pushed c.self.inside.greatest c.max-self-inside.result c.self.inside.may_dangle _ ds (with_bodies news ds) c.push_reserved.new.self.items d
          c.self.invariant.0 (keys_kept news ds) free (c.max-self-inside.ensures ∙ ap (max c.self.inside.greatest) c.scope_or_zero.ensures)
          (λ e.
          let parts = or_parts c.args.rewrites.may_dangle c.has_dangling.result e in
          (subst (λ xs. AllByRecursion HasFoundAll (with_bodies news xs)) (sym c.self.view_is) (c.requires.fits.dangles parts.0), sym (c.has_dangling.ensures ∙ ap has_dangling c.body.ensures) ∙ parts.1))
          pushed,
      knows_pushed c.note.new.self (with_bodies news ds) _ d (knows_more c.note_all.new.self c.note.new.self (with_bodies news ds) c.note.ensures.kept written)
          (subst (KnowsFormula c.note.new.self) c.body-2.ensures c.note.ensures.noted) pushed,
    )

pub returns-clause-finds : goal.returns-clause-finds
returns-clause-finds c =
    let ds : List Definition = c.self.inside.list.items in
    let news = c.args.rewrites.bodies.items in
    let d : Definition = c.args.definition in
    let back : _ ≡ with_bodies news ds =
    written_back c.reserve.new.self.len news c.reserve.new.self.items c.deref_mut.result.now c.put.new.definitions c.put.ensures c.deref_mut.ensures.value c.reserve.new.self.ok.0 ∙ ap (with_bodies news) c.reserve.ensures.items in
    let free : list_any (is_named d.name d.scope) ds ≡ false = ap (list_any (is_named d.name d.scope)) c.self.view_is ∙ c.requires.free in
    finds_pushed c.args.places.now c.insert.new.self c.len-place.result ds (with_bodies news ds) c.push_reserved.new.self.items d c.in_ok-key.key
    (subst (FindsNames c.args.places.now) (sym c.self.view_is) c.requires.finds) (keys_kept news ds) free c.in_ok-key.ensures (c.len-place.ensures ∙ c.reserve.new.self.ok.0 ∙ ap length c.reserve.ensures.items) c.in_ok-insert.ensures.updates
    (c.push_reserved.ensures.items ∙ ap (λ xs. xs ++ d ∷ []) back)
