use Rattle.std.proofs.Common.{◌≡◌, ◌+◌, ◌∙◌, ◌<◌, List, ap, arith, sym, subst, length, remove}
use Rattle.std.specs.List.{AllByRecursion}
use Rattle.std.proofs.lemmas.List.Edits.{length-remove}
use Rattle.ic_laws.specs.CoreBook.{Definition}
use Rattle.ic_laws.specs.Greatest.{greatest}
use Rattle.ic_definitions.specs.Bodies.{HasFoundAll, with_bodies}
use Rattle.ic_definitions.specs.Mentioned.{KnowsBodies}
use Rattle.ic_definitions.specs.Named.{FindsNames, scopes_of}
use Rattle.ic_definitions.proofs.BodyLemmas.{keys_kept, length_kept, written_back}
use Rattle.ic_definitions.proofs.MentionedBodies.{knows_removed, knows_renewed, knows_written}
use Rattle.ic_definitions.proofs.NamedLemmas.{differ_removed, finds_raised, named_removed}
use Rattle.ic_definitions.proofs.ScopeLemmas.{greatest_without}
use Rattle.ic_definitions.proofs.definitions.Definitions.delete_prepared.Goals as goal

pub invariant_of-self : goal.invariant_of-self
invariant_of-self c =
    let ds : List Definition = c.self.inside.list.items in
    let news = c.args.rewrites.bodies.items in
    let back : _ ≡ with_bodies news ds =
    written_back c.self.inside.list.len news ds c.deref_mut.result.now c.put.new.definitions c.put.ensures c.deref_mut.ensures.value c.self.inside.list.ok.0 in
    let removed = c.remove-2.ensures.items ∙ ap (λ xs. remove xs c.args.index) back in
    let written : KnowsBodies c.note_all.new.self (with_bodies news ds) =
    knows_written c.self.inside.mentioned c.note_all.new.self news c.bodies.result.now ds c.bodies.ensures c.note_all.ensures.noted c.note_all.ensures.kept c.self.invariant.1 in (
      named_removed c.self.inside.greatest c.greatest_left-self-inside.result c.args.index c.self.inside.may_dangle c.args.rewrites.may_dangle ds (with_bodies news ds)
          c.remove-2.new.self.items c.self.invariant.0 (keys_kept news ds)
          (c.greatest_left-self-inside.ensures ∙ ap (λ xs. greatest (scopes_of xs)) c.deref-2.ensures.value)
          (λ e. subst (λ xs. AllByRecursion HasFoundAll (with_bodies news xs)) (sym c.self.view_is) (c.requires.fits.dangles e))
          removed,
      knows_renewed c.note_all.new.self c.renew.new.self _ c.deref-3.result.now c.deref-3.ensures.value c.renew.ensures
          (knows_removed c.note_all.new.self (with_bodies news ds) _ c.args.index written removed),
    )

pub lower-requires : goal.lower-requires
lower-requires c =
    let ds : List Definition = c.self.inside.list.items in
    let news = c.args.rewrites.bodies.items in
    let at = c.args.index in
    let d : Definition = c.index.result.now in
    let lt : at < length ds = subst (λ xs. at < length xs) (sym c.self.view_is) c.requires.within in
    let back : _ ≡ with_bodies news ds =
    written_back c.self.inside.list.len news ds c.deref_mut.result.now c.put.new.definitions c.put.ensures c.deref_mut.ensures.value c.self.inside.list.ok.0 in
    let removed = c.deref.ensures.value ∙ c.remove-2.ensures.items ∙ ap (λ xs. remove xs at) back in
    let one_less =
    ap (λ xs. length xs + 1) removed ∙ length-remove (with_bodies news ds) at (subst (λ n. at < n) (sym (length_kept news ds)) lt) ∙ length_kept news ds in
    let finds = subst (FindsNames c.args.places.now) (sym c.self.view_is) c.requires.finds in record {
      differ = differ_removed ds (with_bodies news ds) c.deref.result.now at c.self.invariant.0.differ (keys_kept news ds) removed;
      within = omega (arith, lt, one_less);
      before = finds_raised c.args.places.now c.remove.new.self c.self.inside.greatest at c.self.inside.may_dangle ds (with_bodies news ds) c.deref.result.now
          d c.in_ok-key.key c.self.invariant.0 finds (keys_kept news ds) lt c.index.ensures c.in_ok-key.ensures c.remove.ensures.updates removed;
    }

pub greatest_left-self-inside-requires : goal.greatest_left-self-inside-requires
greatest_left-self-inside-requires c =
    let ds : List Definition = c.self.inside.list.items in
    let news = c.args.rewrites.bodies.items in
    let lt : c.args.index < length ds = subst (λ xs. c.args.index < length xs) (sym c.self.view_is) c.requires.within in
    let back : _ ≡ with_bodies news ds =
    written_back c.self.inside.list.len news ds c.deref_mut.result.now c.put.new.definitions c.put.ensures c.deref_mut.ensures.value c.self.inside.list.ok.0 in
    greatest_without c.self.inside.greatest c.scope_or_zero-gone.result c.args.index ds (with_bodies news ds) c.deref-2.result.now c.index-2.result.now c.self.invariant.0.greatest (keys_kept news ds) lt c.index-2.ensures
    (c.deref-2.ensures.value ∙ c.remove-2.ensures.items ∙ ap (λ xs. remove xs c.args.index) back) c.scope_or_zero-gone.ensures

pub returns-clause-finds : goal.returns-clause-finds
returns-clause-finds c = subst (FindsNames c.lower.new.places) c.deref.ensures.value c.lower.ensures
