use Rattle.std.proofs.Common.{map}
use Rattle.ic_tables.proofs.FoldLemmas.{one_agrees, one_behind}
use Rattle.ic_tables.proofs.fold.no_two_agree.Goals as goal

pub returns-then-not-branch : goal.returns-then-not-branch
returns-then-not-branch g c =
    let behind = c.loop-word.invariant in
    let put = c.in_ok-put_folding.ensures (map g.T.HasId.id_of behind.behind) behind.finds in
    one_agrees g.T.HasId.id_of c.loop-word.behind c.put_folding.new.folded c.loop-word.rest.now c.in-Some.front.now c.args.words.now c.in-Some.word.now c.in_ok-put_folding.field-0 behind c.in-Some.ensures.cases.0 (rw (← c.id.ensures) put) c.if-not-branch.true

pub loop-word-preserved : goal.loop-word-preserved
loop-word-preserved g c =
    let behind = c.loop-word.invariant in
    let put = c.in_ok-put_folding.ensures (map g.T.HasId.id_of behind.behind) behind.finds in
    one_behind g.T.HasId.id_of c.loop-word.behind c.put_folding.new.folded c.loop-word.rest.now c.in-Some.front.now c.args.words.now c.in-Some.word.now c.in_ok-put_folding.field-0 behind c.in-Some.ensures.cases.0 (rw (← c.id.ensures) put) c.if-not-branch.false
