use Rattle.std.proofs.Common.{◌≡◌, ◌++◌, map, take}
use Rattle.ic_laws.specs.Name.{fold}
use Rattle.ic_tables.proofs.fold.fold_onto.Given as goal

abbrev pub invariant-loop-word : goal.invariant-loop-word
invariant-loop-word g l = l.folded.items ≡ l.fn.folded.items ++ map fold (map g.T.HasId.id_of (take l.word-index l.words))
