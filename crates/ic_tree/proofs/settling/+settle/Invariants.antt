use Rattle.std.proofs.Common.{◌≡◌, ◌++◌, ◌≤◌, ℕ, get_or, length, take, drop, map}
use Rattle.ic_laws.specs.Binding.{BoundPair, pairs_bound, with_variables}
use Rattle.ic_tree.specs.LanguageWords.{function_of}
use Rattle.ic_tree.proofs.SettleLemmas.{pair_settles, settled}
use Rattle.ic_tree.proofs.settling.+settle.Given as goal

abbrev pub invariant-settle_all-loop-place : goal.invariant-settle_all-loop-place
invariant-settle_all-loop-place g l =
    (l.ts ≡ map (settled (function_of l.english) (g.N.Finder.scene l.names) l.scope l.initial.seen) (take l.place l.initial.ts) ++ drop l.place l.initial.ts)
    × (l.seen ≡ l.initial.seen)

abbrev pub invariant-settle_pairs-loop-place : goal.invariant-settle_pairs-loop-place
invariant-settle_pairs-loop-place g l =
    (l.pairs ≡ pairs_bound (map (pair_settles (function_of l.english) (g.N.Finder.scene l.names) l.scope) (take l.place l.initial.pairs)) l.initial.seen ++ drop l.place l.initial.pairs)
    × (l.seen ≡ with_variables (map (pair_settles (function_of l.english) (g.N.Finder.scene l.names) l.scope) (take l.place l.initial.pairs)) l.initial.seen)
    × (length l.pairs ≡ length l.initial.pairs)
    × ((k : ℕ) (d : BoundPair) → l.place ≤ k → get_or l.pairs k d ≡ get_or l.initial.pairs k d)
