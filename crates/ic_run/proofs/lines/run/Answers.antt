use Rattle.std.proofs.Common.{ℕ, List}
use Rattle.ic_laws.specs.Lines.{texts_of}
use Rattle.ic_lines.specs.Bytes.{IfTold}
use Rattle.ic_parts.specs.Book.{core_of, notations_in}
use Rattle.ic_parts.specs.Whole.{whole_of}
use Rattle.ic_run.specs.Answering.{AnswersAll, LeavesAnswered}
use Rattle.ic_run.specs.Core.{AreCore, IsPlainBook, identity_machine, whole_machine}
use Rattle.ic_run.specs.Run.{AppendsReplies, IsAfterAll, LeavesRun, LinesDo, TakesAll}
use Rattle.ic_run.proofs.AnsweredRuns.{Does, Stays, all_do, core_appended, is_after, leaves_run, takes_all, whole_appended}
use Rattle.ic_run.proofs.RunLemmas.{told_of_count, told_of_error, told_of_ok}
use Rattle.ic_run.proofs.lines.run.Goals as goal

pub returns-clause-book : goal.returns-clause-book
returns-clause-book g c =
    let source = g.S.Source.left c.args.source.now in
    let left = g.S.Source.left c.answer_each.new.source in
    let before = g.K.Sink.written c.args.sink.now in
    let now = g.K.Sink.written c.answer_each.new.sink in
    let r = c.answer_each.result in
    let old = c.args.model.now in
    let new = c.answer_each.new.model in
    let All : ℕ → List ℕ → List ℕ → Type 0 = λ n x y. AnswersAll Does _ _ before now n x y in
    told_of_count source left r All (λ n x y. TakesAll old.book new.book n x y) (λ n x y h. takes_all _ _ before now n x y h) c.answer_each.ensures.all

pub returns-clause-replies : goal.returns-clause-replies
returns-clause-replies g c =
    let source = g.S.Source.left c.args.source.now in
    let left = g.S.Source.left c.answer_each.new.source in
    let before = g.K.Sink.written c.args.sink.now in
    let now = g.K.Sink.written c.answer_each.new.sink in
    let r = c.answer_each.result in
    let old = c.args.model.now in
    let new = c.answer_each.new.model in
    let All : ℕ → List ℕ → List ℕ → Type 0 = λ n x y. AnswersAll Does _ _ before now n x y in
    told_of_ok source left r All (λ x y. IsPlainBook (whole_of old.book) → AreCore old.book.tables (texts_of x) → IfTold before now (AppendsReplies (identity_machine (notations_in old.book)) (core_of old.book) x))
    (λ n x y h. core_appended _ _ before now n x y h) c.answer_each.ensures.all

pub returns-clause-whole : goal.returns-clause-whole
returns-clause-whole g c =
    let source = g.S.Source.left c.args.source.now in
    let left = g.S.Source.left c.answer_each.new.source in
    let before = g.K.Sink.written c.args.sink.now in
    let now = g.K.Sink.written c.answer_each.new.sink in
    let r = c.answer_each.result in
    let old = c.args.model.now in
    let new = c.answer_each.new.model in
    let All : ℕ → List ℕ → List ℕ → Type 0 = λ n x y. AnswersAll Does _ _ before now n x y in
    told_of_ok source left r All (IsAfterAll old.book new.book) (λ n x y h. is_after _ _ before now n x y h) c.answer_each.ensures.all

pub returns-clause-all_replies : goal.returns-clause-all_replies
returns-clause-all_replies g c =
    let source = g.S.Source.left c.args.source.now in
    let left = g.S.Source.left c.answer_each.new.source in
    let before = g.K.Sink.written c.args.sink.now in
    let now = g.K.Sink.written c.answer_each.new.sink in
    let r = c.answer_each.result in
    let old = c.args.model.now in
    let new = c.answer_each.new.model in
    let All : ℕ → List ℕ → List ℕ → Type 0 = λ n x y. AnswersAll Does _ _ before now n x y in
    told_of_ok source left r All (λ x y. IfTold before now (AppendsReplies whole_machine (whole_of old.book) x)) (λ n x y h. whole_appended _ _ before now n x y h) c.answer_each.ensures.all

pub returns-clause-does : goal.returns-clause-does
returns-clause-does g c =
    let source = g.S.Source.left c.args.source.now in
    let left = g.S.Source.left c.answer_each.new.source in
    let before = g.K.Sink.written c.args.sink.now in
    let now = g.K.Sink.written c.answer_each.new.sink in
    let r = c.answer_each.result in
    let old = c.args.model.now in
    let new = c.answer_each.new.model in
    let All : ℕ → List ℕ → List ℕ → Type 0 = λ n x y. AnswersAll Does _ _ before now n x y in
    told_of_ok source left r All (λ x y. LinesDo (texts_of x) old new) (λ n x y h. all_do _ _ before now n x y h) c.answer_each.ensures.all

pub returns-clause-front : goal.returns-clause-front
returns-clause-front g c =
    let source = g.S.Source.left c.args.source.now in
    let left = g.S.Source.left c.answer_each.new.source in
    let before = g.K.Sink.written c.args.sink.now in
    let now = g.K.Sink.written c.answer_each.new.sink in
    let r = c.answer_each.result in
    let old = c.args.model.now in
    let new = c.answer_each.new.model in
    told_of_error source left r (λ e x y. LeavesAnswered Does Stays e _ _ x y before now) (λ e x y. LeavesRun e old.book new.book x y before now) (λ e x y h. leaves_run e _ _ x y before now h) c.answer_each.ensures.front
