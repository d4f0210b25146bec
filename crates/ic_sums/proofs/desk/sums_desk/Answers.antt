use Rattle.std.proofs.Common.{subst}
use Rattle.ic_parts.specs.Whole.{whole_of}
use Rattle.ic_lines.proofs.ToldLemmas.{IfTold-weaker}
use Rattle.ic_lines.specs.Bytes.{IfTold}
use Rattle.ic_machine.specs.Book.{Book}
use Rattle.ic_run.specs.Prepared.{IsBookAfter}
use Rattle.ic_sums.specs.Told.{AppendsValues, AppendsValuesFront, WritesValues, WritesValuesFront}
use Rattle.ic_sums.proofs.desk.sums_desk.Goals as goal

pub returns-in-Ok-clause-written : goal.returns-in-Ok-clause-written
returns-in-Ok-clause-written g c at_0 =
    let left = g.S.Source.left in
    let written = g.K.Sink.written in
    let tables = c.args.tables.now in
    let book = c.in-Ok.model.book in
    IfTold-weaker (left c.args.source.now) (left c.book_after.new.source) (IsBookAfter tables book) (λ bytes _. IfTold (written c.args.sink.now) (written c.tell-status.new.sink) (AppendsValues tables bytes))
    (λ bytes rest is. IfTold-weaker (written c.args.sink.now) (written c.tell-status.new.sink) (WritesValues (whole_of book)) (AppendsValues tables bytes)
    (λ before now told. (is.0, subst (λ (b : Book). WritesValues b before now) is.1 told)) (c.tell-status.ensures.written at_0)) c.in-Ok.ensures.book

pub returns-in-Ok-clause-front : goal.returns-in-Ok-clause-front
returns-in-Ok-clause-front g c at_4 =
    let left = g.S.Source.left in
    let written = g.K.Sink.written in
    let tables = c.args.tables.now in
    let book = c.in-Ok.model.book in
    IfTold-weaker (left c.args.source.now) (left c.book_after.new.source) (IsBookAfter tables book) (λ bytes _. IfTold (written c.args.sink.now) (written c.tell-status.new.sink) (AppendsValuesFront tables bytes))
    (λ bytes rest is. IfTold-weaker (written c.args.sink.now) (written c.tell-status.new.sink) (WritesValuesFront (whole_of book)) (AppendsValuesFront tables bytes)
    (λ before now told. (is.0, subst (λ (b : Book). WritesValuesFront b before now) is.1 told)) (c.tell-status.ensures.front at_4)) c.in-Ok.ensures.book
