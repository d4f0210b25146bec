use Rattle.std.proofs.Common.{◌≡◌, ◌∙◌, ap, arith, get_or-set_other, length-set, List, map, ◌≢◌, refl, set, sym, subst}
use Rattle.std.proofs.lemmas.Result.{on_ok_weaker}
use Rattle.ic_laws.proofs.binding.Again.{bound_node}
use Rattle.ic_laws.specs.Binding.{Binders, BoundPair, bound_under, pair_binds, pairs_bound, with_variables}
use Rattle.ic_laws.specs.declared.tree.Tree as trees
use Rattle.ic_laws.specs.declared.tree.Tree.TheOpen as one
use Rattle.ic_laws.specs.Tree.{Bound}
use Rattle.ic_tree.specs.LanguageWords.{function_of}
use Rattle.ic_tree.specs.Typed.{as_typed, pair_as_typed}
use Rattle.ic_tree.proofs.SettleLemmas.{all_done, all_step, pairs_done, pairs_put, pairs_seen, seen_done, settled, settled_let}
use Rattle.ic_tree.proofs.settling.+settle.Goals as goal

pub settle_all-loop-place-preserved : goal.settle_all-loop-place-preserved
settle_all-loop-place-preserved g t c = (
  all_step (function_of c.args.english.now) (g.N.Finder.scene c.args.names.now) c.args.scope c.args.ts.now c.loop-place.ts c.loop-place.place c.at_mut.result.now c.settle_under.new.tree c.args.seen.now (omega arith) c.loop-place.invariant.0 c.at_mut.ensures.value
      (c.in_ok-settle_under.ensures.bound ∙ ap (λ (s : Binders). settled (function_of c.args.english.now) (g.N.Finder.scene c.args.names.now) c.args.scope s c.at_mut.result.now) c.loop-place.invariant.1),
  c.in_ok-settle_under.ensures.seen ∙ c.loop-place.invariant.1,
)

pub settle_all-returns-clause-bound : goal.settle_all-returns-clause-bound
settle_all-returns-clause-bound g t c =
    all_done (function_of c.args.english.now) (g.N.Finder.scene c.args.names.now) c.args.scope c.args.ts.now c.loop-place.ts c.loop-place.place c.args.seen.now (omega arith) c.loop-place.invariant.0

pub settle_pairs-loop-place-preserved : goal.settle_pairs-loop-place-preserved
settle_pairs-loop-place-preserved g t c = (
  ap (λ (p : BoundPair). set c.loop-place.pairs c.loop-place.place p) c.in_ok-settle_pair.ensures.value
      ∙ pairs_put (function_of c.args.english.now) (g.N.Finder.scene c.args.names.now) c.args.scope c.args.pairs.now c.loop-place.pairs c.loop-place.place c.at_mut.result.now c.loop-place.seen c.args.seen.now (omega arith) c.loop-place.invariant.0 c.loop-place.invariant.1 c.at_mut.ensures.value _ refl,
  c.in_ok-settle_pair.ensures.variable
      ∙ pairs_seen (function_of c.args.english.now) (g.N.Finder.scene c.args.names.now) c.args.scope c.args.pairs.now c.loop-place.pairs c.loop-place.place c.at_mut.result.now c.loop-place.seen c.args.seen.now (omega arith) c.loop-place.invariant.0 c.loop-place.invariant.1 c.at_mut.ensures.value,
  length-set c.loop-place.pairs c.loop-place.place c.settle_pair.new.pair ∙ c.loop-place.invariant.2,
  λ k d h. let ne : k ≢ c.loop-place.place = omega (arith, h) in get_or-set_other c.loop-place.pairs c.loop-place.place k c.settle_pair.new.pair d ne ∙ c.loop-place.invariant.3 k d (omega (arith, h)),
)

pub settle_pairs-returns-clause-values : goal.settle_pairs-returns-clause-values
settle_pairs-returns-clause-values g t c =
    pairs_done (function_of c.args.english.now) (g.N.Finder.scene c.args.names.now) c.args.scope c.args.pairs.now c.loop-place.pairs c.loop-place.place c.args.seen.now (omega arith) c.loop-place.invariant.0

pub settle_pairs-returns-clause-variables : goal.settle_pairs-returns-clause-variables
settle_pairs-returns-clause-variables g t c =
    seen_done (function_of c.args.english.now) (g.N.Finder.scene c.args.names.now) c.args.scope c.args.pairs.now c.loop-place.place c.loop-place.seen c.args.seen.now (omega arith) c.loop-place.invariant.1

pub settle_under-returns-in_ok-settle_under-in-Let-clause-bound : goal.settle_under-returns-in_ok-settle_under-in-Let-clause-bound
unfolding trees.roll-Tree denote.Hole.Carrier.roll
settle_under-returns-in_ok-settle_under-in-Let-clause-bound g t c =
    on_ok_weaker c.leave.result
    (λ h. subst (λ (u : Bound). bound_node (one.Let c.settle_pairs.new.pairs c.settle_under-in-Let.new.tree) ≡ bound_under (function_of c.args.english.now) (g.N.Finder.scene c.args.names.now) c.args.scope (as_typed u) c.args.seen.now) (sym c.in-Let.is)
    (settled_let (function_of c.args.english.now) (g.N.Finder.scene c.args.names.now) c.args.scope c.in-Let.pairs c.in-Let.body c.settle_pairs.new.pairs c.settle_under-in-Let.new.tree _ c.args.seen.now
    (c.in_ok-settle_pairs-in-Let.ensures.values ∙ ap (λ (ps : List BoundPair). pairs_bound (map (pair_binds (function_of c.args.english.now) (g.N.Finder.scene c.args.names.now) c.args.scope) (map pair_as_typed ps)) c.args.seen.now) c.in-Let.pairs-is)
    (c.in_ok-settle_pairs-in-Let.ensures.variables ∙ ap (λ (ps : List BoundPair). with_variables (map (pair_binds (function_of c.args.english.now) (g.N.Finder.scene c.args.names.now) c.args.scope) (map pair_as_typed ps)) c.args.seen.now) c.in-Let.pairs-is)
    (c.in_ok-settle_under-in-Let.ensures.bound ∙ ap (λ (b : Bound). bound_under (function_of c.args.english.now) (g.N.Finder.scene c.args.names.now) c.args.scope (as_typed b) c.settle_pairs.new.seen) (c.as_mut-in-Let.ensures.value ∙ c.in-Let.body-is)))) c.leave.ensures
