use Rattle.ic_lines.specs.Bytes.{IfTold}
use Rattle.ic_run.specs.Answering.{AnswersAll, LeavesAnswered}
use Rattle.ic_run.proofs.RunLemmas.{told_of_count, told_of_error, told_of_ok}
use Rattle.ic_share.specs.Share.{AppendsShared, LeavesShared, SharesAll}
use Rattle.ic_share.proofs.SharedRuns.{Does, Stays, language_stays, leaves_shared, shared_appended, shares_all}
use Rattle.ic_share.proofs.lines.share.Goals as goal

pub returns-clause-book : goal.returns-clause-book
returns-clause-book g c =
    let before = g.K.Sink.written c.args.sink.now in
    let now = g.K.Sink.written c.answer_each.new.sink in
    told_of_count (g.S.Source.left c.args.source.now) (g.S.Source.left c.answer_each.new.source) c.answer_each.result (λ n x y. AnswersAll Does _ _ before now n x y) (λ n x y. SharesAll c.args.model.now.book c.answer_each.new.model.book n x y)
    (λ n x y h. shares_all _ c.in_ok-users.ensures.none _ before now n x y h) c.answer_each.ensures.all

pub returns-clause-replies : goal.returns-clause-replies
returns-clause-replies g c =
    let before = g.K.Sink.written c.args.sink.now in
    let now = g.K.Sink.written c.answer_each.new.sink in
    told_of_ok (g.S.Source.left c.args.source.now) (g.S.Source.left c.answer_each.new.source) c.answer_each.result (λ n x y. AnswersAll Does _ _ before now n x y) (λ x y. IfTold before now (AppendsShared c.args.model.now.book x))
    (λ n x y h. shared_appended _ c.in_ok-users.ensures.none _ before now n x y h) c.answer_each.ensures.all

pub returns-clause-language : goal.returns-clause-language
returns-clause-language g c = language_stays _ _ c.answer_each.ensures.some

pub returns-clause-front : goal.returns-clause-front
returns-clause-front g c =
    let before = g.K.Sink.written c.args.sink.now in
    let now = g.K.Sink.written c.answer_each.new.sink in
    told_of_error (g.S.Source.left c.args.source.now) (g.S.Source.left c.answer_each.new.source) c.answer_each.result (λ e x y. LeavesAnswered Does Stays e _ _ x y before now)
    (λ e x y. LeavesShared e c.args.model.now.book c.answer_each.new.model.book x y before now) (λ e x y h. leaves_shared _ c.in_ok-users.ensures.none e _ x y before now h) c.answer_each.ensures.front
