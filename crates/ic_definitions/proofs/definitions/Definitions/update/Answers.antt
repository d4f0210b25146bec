use Rattle.std.proofs.Common.{◌≡◌, ◌∙◌, ◌<◌, List, ap, max, slice_set, sym, subst, length, remove}
use Rattle.std.specs.List.{AllByRecursion, list_any}
use Rattle.std.proofs.lemmas.Bool.{or_parts}
use Rattle.ic_laws.specs.CoreBook.{Definition}
use Rattle.ic_laws.specs.Greatest.{greatest}
use Rattle.ic_laws.specs.Scene.{same_key}
use Rattle.ic_pool.specs.Mentions.{has_dangling}
use Rattle.ic_definitions.specs.Bodies.{HasFoundAll, with_bodies}
use Rattle.ic_definitions.specs.Mentioned.{KnowsBodies, KnowsFormula}
use Rattle.ic_definitions.specs.Named.{FindsNames, key_in, scopes_of}
use Rattle.ic_definitions.proofs.BodyLemmas.{keys_kept, written_back}
use Rattle.ic_definitions.proofs.MentionedBodies.{knows_more, knows_renewed, knows_replaced, knows_written}
use Rattle.ic_definitions.proofs.NamedLemmas.{keys}
use Rattle.ic_definitions.proofs.ReplacedNames.{finds_replaced, named_replaced, replaced_at}
use Rattle.ic_definitions.proofs.ScopeLemmas.{greatest_replaced}
use Rattle.ic_definitions.proofs.definitions.Definitions.update.Goals as goal

pub greatest_left-self-inside-requires : goal.greatest_left-self-inside-requires
greatest_left-self-inside-requires c =
    let ds : List Definition = c.self.inside.list.items in
    let news = c.args.bodies.bodies.items in
    let at = c.args.index in
    let new : Definition = c.args.definition in
    let back : _ ≡ with_bodies news ds =
    written_back c.self.inside.list.len news ds c.deref_mut.result.now c.put.new.definitions c.put.ensures c.deref_mut.ensures.value c.self.inside.list.ok.0 in
    greatest_replaced c.self.inside.greatest c.max-most.result c.scope_or_zero-gone.result at ds (with_bodies news ds) c.deref.result.now c.index-2.result.now new c.self.invariant.0.greatest (keys_kept news ds)
    (subst (λ xs. at < length xs) (sym c.self.view_is) c.requires.within) c.index-2.ensures
    (c.deref.ensures.value ∙ ap (λ xs. slice_set xs at new) back ∙ replaced_at (with_bodies news ds) at new)
    (c.max-most.ensures ∙ ap (max c.self.inside.greatest) c.scope_or_zero.ensures) c.scope_or_zero-gone.ensures

pub invariant_of-self : goal.invariant_of-self
invariant_of-self c =
    let ds : List Definition = c.self.inside.list.items in
    let news = c.args.bodies.bodies.items in
    let at = c.args.index in
    let new : Definition = c.args.definition in
    let back : _ ≡ with_bodies news ds =
    written_back c.self.inside.list.len news ds c.deref_mut.result.now c.put.new.definitions c.put.ensures c.deref_mut.ensures.value c.self.inside.list.ok.0 in
    let set = ap (λ xs. slice_set xs at new) back ∙ replaced_at (with_bodies news ds) at new in
    let written : KnowsBodies c.note_all.new.self (with_bodies news ds) =
    knows_written c.self.inside.mentioned c.note_all.new.self news c.bodies.result.now ds c.bodies.ensures c.note_all.ensures.noted c.note_all.ensures.kept c.self.invariant.1 in (
      named_replaced c.self.inside.greatest c.greatest_left-self-inside.result at c.self.inside.may_dangle _ ds (with_bodies news ds) _ new c.self.invariant.0 (keys_kept news ds)
          (ap (λ xs. list_any (same_key (key_in new)) (remove (keys xs) at)) c.self.view_is ∙ c.requires.apart)
          (c.greatest_left-self-inside.ensures ∙ ap (λ xs. greatest (scopes_of xs)) c.deref.ensures.value)
          (λ e.
          let parts = or_parts c.args.bodies.may_dangle c.has_dangling.result e in
          (subst (λ xs. AllByRecursion HasFoundAll (with_bodies news xs)) (sym c.self.view_is) (c.requires.fits.dangles parts.0), sym (c.has_dangling.ensures ∙ ap has_dangling c.body.ensures) ∙ parts.1))
          set,
      knows_renewed c.note.new.self c.renew.new.self _ c.deref-2.result.now c.deref-2.ensures.value c.renew.ensures
          (knows_replaced c.note.new.self (with_bodies news ds) _ at new (knows_more c.note_all.new.self c.note.new.self (with_bodies news ds) c.note.ensures.kept written)
          (subst (KnowsFormula c.note.new.self) c.body-2.ensures c.note.ensures.noted) set),
    )

pub returns-clause-finds : goal.returns-clause-finds
returns-clause-finds c =
    let ds : List Definition = c.self.inside.list.items in
    let news = c.args.bodies.bodies.items in
    let at = c.args.index in
    let new : Definition = c.args.definition in
    let back : _ ≡ with_bodies news ds =
    written_back c.self.inside.list.len news ds c.deref_mut.result.now c.put.new.definitions c.put.ensures c.deref_mut.ensures.value c.self.inside.list.ok.0 in
    finds_replaced c.args.places.now c.replace_key.new.places c.self.inside.greatest at c.self.inside.may_dangle ds (with_bodies news ds) _ c.index.result.now new
    c.in_ok-old.old c.in_ok-new.new c.self.invariant.0 (subst (FindsNames c.args.places.now) (sym c.self.view_is) c.requires.finds) (keys_kept news ds) (subst (λ xs. at < length xs) (sym c.self.view_is) c.requires.within) c.index.ensures
    c.in_ok-old.ensures c.in_ok-new.ensures c.in_ok-replace_key.ensures.ok
    (ap (λ xs. list_any (same_key (key_in new)) (remove (keys xs) at)) c.self.view_is ∙ c.requires.apart)
    (ap (λ xs. slice_set xs at new) back ∙ replaced_at (with_bodies news ds) at new)

pub returns-clause-ok : goal.returns-clause-ok
returns-clause-ok c =
    let ds : List Definition = c.self.inside.list.items in
    let news = c.args.bodies.bodies.items in
    ap (λ xs. slice_set xs c.args.index c.args.definition)
    (written_back c.self.inside.list.len news ds c.deref_mut.result.now c.put.new.definitions c.put.ensures c.deref_mut.ensures.value c.self.inside.list.ok.0 ∙ ap (with_bodies news) c.self.view_is)
    ∙ replaced_at (with_bodies news c.args.self.now) c.args.index c.args.definition
