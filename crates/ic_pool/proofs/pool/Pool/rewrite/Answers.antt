use Rattle.std.proofs.Common.{◌≡◌, ◌∙◌, List, OnOk, ap, ap₂, sym, subst}
use Rattle.std.specs.List.{AllByRecursion}
use Rattle.ic_laws.specs.declared.tree.Formula.{Formula}
use Rattle.ic_pool.specs.MentionPlaces.{HasAt, KnowsAll}
use Rattle.ic_pool.specs.Pool.{PoolState, dangling_count}
use Rattle.ic_pool.specs.Rewrites.{FitsPool, changed_by}
use Rattle.ic_pool.specs.Topics.{topics_in}
use Rattle.ic_pool.specs.declared.pool.rewrites.Replacement.{Replacement}
use Rattle.ic_pool.proofs.LateLemmas.{look_up_taken, written_back}
use Rattle.ic_pool.proofs.MentionedLemmas.{noted_rewritten}
use Rattle.ic_pool.proofs.pool.Pool.rewrite.Goals as goal

pub renewed-self-inside-requires : goal.renewed-self-inside-requires
renewed-self-inside-requires c =
    let xs : List Formula = c.self.inside.formulas.items in
    let new : c.put-self-inside.new.formulas ≡ changed_by c.args.rewrites.changes xs = c.put-self-inside.ensures.formulas ∙ ap₂ changed_by c.take_out.ensures.changes c.deref_mut.ensures.value in
    let back = written_back c.self.inside.formulas.len c.args.rewrites.changes c.put-self-inside.new.formulas xs new c.self.inside.formulas.ok.0 in
    let noted =
    subst (λ (cs : List Replacement). OnOk c.note_in.result (AllByRecursion (λ change. HasAt c.note_in.new.mentions change.at (topics_in change.formula)) cs)) c.take_out.ensures.changes c.note_in.ensures.noted in
    noted_rewritten c.self.inside.mentions c.note_in.new.mentions c.args.rewrites.changes xs c.deref.result.now c.self.inside.knows_mentions c.is_ok.result c.note_in.result c.self.invariant.mentioned c.note_in.ensures.kept
    c.is_ok.ensures.value noted (c.deref.ensures.value ∙ back)

pub invariant_of-self : goal.invariant_of-self
invariant_of-self c =
    let xs : List Formula = c.self.inside.formulas.items in
    let same : xs ≡ c.args.self.now.formulas = ap (λ (s : PoolState). s.formulas) c.self.view_is in
    let new : c.put-self-inside.new.formulas ≡ changed_by c.args.rewrites.changes xs = c.put-self-inside.ensures.formulas ∙ ap₂ changed_by c.take_out.ensures.changes c.deref_mut.ensures.value in
    let back = written_back c.self.inside.formulas.len c.args.rewrites.changes c.put-self-inside.new.formulas xs new c.self.inside.formulas.ok.0 in
    record {
      look_up = look_up_taken c.self.inside.index c.take_out.new.index c.self.inside.late c.take_out.new.late c.args.rewrites c.self.inside.knows_rest c.take_out.result xs _ c.self.invariant.look_up.rest c.self.invariant.look_up.hashed
          (subst (FitsPool c.args.rewrites) (sym same) c.requires.fits) c.take_out.ensures.out c.take_out.ensures.given_up c.take_out.ensures.kept c.take_out.ensures.moved back;
      mentioned = λ e. subst (KnowsAll c.renewed-self-inside.new.mentions) c.deref.ensures.value (c.renewed-self-inside.ensures e);
      dangles = c.put-self-inside.ensures.counted ∙ ap dangling_count (new ∙ sym back);
      last_is_first = λ at e. cc;
    }
