use Rattle.std.proofs.Common.{◌∙◌, ap, sym, subst}
use Rattle.std.specs.List.{AllByRecursion}
use Rattle.ic_definitions.specs.Bodies.{HasFoundAll, with_bodies}
use Rattle.ic_definitions.specs.Mentioned.{KnowsBodies}
use Rattle.ic_definitions.proofs.BodyLemmas.{keys_kept, written_back}
use Rattle.ic_definitions.proofs.MentionedBodies.{knows_renewed, knows_written}
use Rattle.ic_definitions.proofs.NamedLemmas.{finds_same, keys, named_same}
use Rattle.ic_definitions.proofs.definitions.Definitions.apply.Goals as goal

pub invariant_of-self : goal.invariant_of-self
invariant_of-self c =
    let ds = c.self.inside.list.items in
    let news = c.args.rewrites.bodies.items in
    let back = written_back c.self.inside.list.len news ds c.deref_mut.result.now c.put.new.definitions c.put.ensures c.deref_mut.ensures.value c.self.inside.list.ok.0 in (
      named_same c.self.inside.greatest c.self.inside.may_dangle c.args.rewrites.may_dangle ds _ c.self.invariant.0 (ap keys back ∙ keys_kept news ds)
          (λ e. subst (AllByRecursion HasFoundAll) (sym (back ∙ ap (with_bodies news) c.self.view_is)) (c.requires.dangles e)),
      knows_renewed c.note_all.new.self c.renew.new.self _ c.deref.result.now c.deref.ensures.value c.renew.ensures
          (subst (KnowsBodies c.note_all.new.self) (sym back) (knows_written c.self.inside.mentioned c.note_all.new.self news c.bodies.result.now ds c.bodies.ensures c.note_all.ensures.noted c.note_all.ensures.kept c.self.invariant.1)),
    )

pub returns-clause-finds : goal.returns-clause-finds
returns-clause-finds c =
    let ds = c.self.inside.list.items in
    let news = c.args.rewrites.bodies.items in
    let back = written_back c.self.inside.list.len news ds c.deref_mut.result.now c.put.new.definitions c.put.ensures c.deref_mut.ensures.value c.self.inside.list.ok.0 in
    λ places finds. finds_same places c.args.self.now _ finds (ap keys back ∙ keys_kept news ds ∙ ap keys c.self.view_is)
