use Rattle.std.proofs.Common.{◌≡◌, ◌∙◌, ◌++◌, ◌∷◌, [], ap, chars, map, sym, subst, List}
use Rattle.ic_laws.specs.Parse.{Pair}
use Rattle.ic_laws.specs.Tree.{Spelled}
use Rattle.ic_laws.specs.declared.tree.Tree as trees
use Rattle.ic_laws.specs.declared.tree.Tree.TheOpen as one
use Rattle.ic_laws.specs.Binding.{bound_under, pairs_bound, with_variables, pair_binds, Binders}
use Rattle.ic_laws.proofs.binding.Again.{bound_node}
use Rattle.ic_laws.proofs.binding.PairLemmas.{pairs_step, let_made}
use Rattle.ic_tree.specs.LanguageWords.{function_of}
use Rattle.ic_tree.proofs.binding.+bind.Goals as goal

pub bind_pairs-loop-pair-preserved : goal.bind_pairs-loop-pair-preserved
bind_pairs-loop-pair-preserved g t c =
    pairs_step (pair_binds (function_of c.args.english.now) (g.N.Finder.scene c.args.names.now) c.args.scope) c.args.pairs.now c.args.seen.now c.loop-pair.pair-index c.pair-item.result _ _ _ _ _ _ _
    c.loop-pair-test.true c.pair-item.is c.loop-pair.invariant.0 c.loop-pair.invariant.1 c.in_ok-value.ensures.bound
    (c.in_ok-variable.ensures ∙ c.as_str.ensures.characters) c.as_str-in-loop-pair.ensures.characters c.in_ok-push.ensures.items
    (c.in_ok-push-2.ensures.ok ∙ ap (λ (s : Binders). s ++ chars c.as_str-in-loop-pair.result.now ∷ []) c.in_ok-value.ensures.seen)

pub bind_under-returns-in_ok-leave-in-Let-clause-bound : goal.bind_under-returns-in_ok-leave-in-Let-clause-bound
unfolding trees.roll-Tree denote.Hole.Carrier.roll
bind_under-returns-in_ok-leave-in-Let-clause-bound g t c =
    subst (λ (u : Spelled). bound_node (one.Let c.from-in-Let.result c.in_ok-body-in-Let.body) ≡ bound_under (function_of c.args.english.now) (g.N.Finder.scene c.args.names.now) c.args.scope u c.args.seen.now) (sym c.in-Let.is)
    (let_made (function_of c.args.english.now) (g.N.Finder.scene c.args.names.now) c.args.scope c.in-Let.pairs c.in-Let.body c.args.seen.now c.from-in-Let.result c.in_ok-body-in-Let.body
    (c.from-in-Let.ensures
    ∙ (c.in_ok-pairs-in-Let.ensures.values
    ∙ ap (λ (ps : List Pair). pairs_bound (map (pair_binds (function_of c.args.english.now) (g.N.Finder.scene c.args.names.now) c.args.scope) ps) c.args.seen.now) c.as_slice-in-Let.ensures))
    (c.in_ok-body-in-Let.ensures.bound
    ∙ ap (λ (s : Binders). bound_under (function_of c.args.english.now) (g.N.Finder.scene c.args.names.now) c.args.scope c.in-Let.body s)
    (c.in_ok-pairs-in-Let.ensures.variables
    ∙ ap (λ (ps : List Pair). with_variables (map (pair_binds (function_of c.args.english.now) (g.N.Finder.scene c.args.names.now) c.args.scope) ps) c.args.seen.now) c.as_slice-in-Let.ensures)))
