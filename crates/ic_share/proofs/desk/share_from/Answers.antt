use Rattle.std.proofs.Common.{[], ◌≡◌, sym, subst, ◌∙◌}
use Rattle.ic_lines.specs.Bytes.{IfTold}
use Rattle.ic_parts.specs.Book.{Book}
use Rattle.ic_run.specs.Desk.{start_book}
use Rattle.ic_run.specs.Start.{setting}
use Rattle.ic_run.proofs.DeskLemmas.{at_error_status, completes_so, on_ok_at_0}
use Rattle.ic_run.proofs.RunLemmas.{told_of_ok}
use Rattle.ic_share.specs.Share.{AppendsShared, LeavesShared, SharesAll}
use Rattle.ic_share.proofs.SharedRuns.{leaves_from, some_moment}
use Rattle.ic_share.proofs.desk.share_from.Goals as goal

pub returns-in-Ok-clause-taken : goal.returns-in-Ok-clause-taken
returns-in-Ok-clause-taken g c at_0 =
    let r = c.share-answer.result in
    let source = g.S.Source.left c.args.source.now in
    let left = g.S.Source.left c.share-answer.new.source in
    on_ok_at_0 r (IfTold source left (λ bytes rest. rest ≡ []))
    (told_of_ok source left r (λ n x y. SharesAll c.in-Ok.model.book c.share-answer.new.model.book n x y) (λ bytes rest. rest ≡ []) (λ n x y h. h.all) c.share-answer.ensures.book) (sym c.status_of.ensures ∙ at_0)

pub returns-in-Ok-clause-replies : goal.returns-in-Ok-clause-replies
returns-in-Ok-clause-replies g c at_0 =
    let left = g.S.Source.left in
    let written = g.K.Sink.written in
    let book = c.in-Ok.model.book in
    let Told : Book → Type 0 = λ b. IfTold (left c.args.source.now) (left c.share-answer.new.source) (λ bytes _. IfTold (written c.args.sink.now) (written c.share-answer.new.sink) (AppendsShared b bytes)) in
    let told : Told book = on_ok_at_0 c.share-answer.result (Told book) c.share-answer.ensures.replies (sym c.status_of.ensures ∙ at_0) in
    some_moment (left c.args.source.now) (left c.share-answer.new.source) (written c.args.sink.now) (written c.share-answer.new.sink) (λ created. start_book (setting c.args.start.now) created c.args.tables.now) book.metadata.created
    (subst Told c.in-Ok.ensures.start told)

pub returns-in-Ok-clause-stopped : goal.returns-in-Ok-clause-stopped
returns-in-Ok-clause-stopped g c e stopped =
    let left = g.S.Source.left in
    let written = g.K.Sink.written in
    let book = c.in-Ok.model.book in
    let new = c.share-answer.new.model.book in
    leaves_from e book new (λ created. start_book (setting c.args.start.now) created c.args.tables.now) book.metadata.created (left c.args.source.now) (left c.share-answer.new.source) (written c.args.sink.now) (written c.share-answer.new.sink)
    c.in-Ok.ensures.start
    (at_error_status c.share-answer.result e (λ x. IfTold (left c.args.source.now) (left c.share-answer.new.source) (λ bytes rest. LeavesShared x book new bytes rest (written c.args.sink.now) (written c.share-answer.new.sink)))
    (sym c.status_of.ensures ∙ stopped) c.share-answer.ensures.front)

pub returns-in-Ok-clause-completes : goal.returns-in-Ok-clause-completes
returns-in-Ok-clause-completes g c = λ none few read write. completes_so c.share-answer.result c.status_of.result c.status_of.ensures (c.share-answer.ensures.completes few read write)
