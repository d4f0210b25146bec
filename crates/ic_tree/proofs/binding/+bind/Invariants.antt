use Rattle.std.proofs.Common.{◌≡◌, take, map}
use Rattle.ic_laws.specs.Binding.{bound_under, all_bound, pairs_bound, with_variables, pair_binds}
use Rattle.ic_tree.specs.LanguageWords.{function_of}
use Rattle.ic_tree.proofs.binding.+bind.Given as goal

abbrev pub invariant-bind_all-loop-t : goal.invariant-bind_all-loop-t
invariant-bind_all-loop-t g l =
    (l.out.items ≡ all_bound (map (bound_under (function_of l.english) (g.N.Finder.scene l.names) l.scope) (take l.t-index l.ts)) l.initial.seen)
    × (l.seen ≡ l.initial.seen)

abbrev pub invariant-bind_pairs-loop-pair : goal.invariant-bind_pairs-loop-pair
invariant-bind_pairs-loop-pair g l =
    (l.out.items ≡ pairs_bound (map (pair_binds (function_of l.english) (g.N.Finder.scene l.names) l.scope) (take l.pair-index l.pairs)) l.initial.seen)
    × (l.seen ≡ with_variables (map (pair_binds (function_of l.english) (g.N.Finder.scene l.names) l.scope) (take l.pair-index l.pairs)) l.initial.seen)
