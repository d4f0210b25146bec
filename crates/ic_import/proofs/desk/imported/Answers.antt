use Rattle.std.proofs.Common.{◌≡◌, subst, ap}
use Rattle.ic_parts.specs.Whole.{whole_of}
use Rattle.ic_lines.proofs.ToldLemmas.{IfTold-weaker}
use Rattle.ic_machine.specs.Book.{Book}
use Rattle.ic_run.specs.Make.{made_start}
use Rattle.ic_run.proofs.DeskLemmas.{start_plain}
use Rattle.ic_import.specs.Desk.{HasWritten, HasWrittenPart, Writes, WritesPart, target}
use Rattle.ic_import.proofs.desk.imported.Goals as goal

pub returns-in-Ok-clause-written : goal.returns-in-Ok-clause-written
returns-in-Ok-clause-written g c at =
    let left = g.S.Source.left in
    let written = g.K.Sink.written in
    let t = target c.args.asked.now in
    let tables = c.args.tables.now in
    let book = c.in-Ok.model.book in
    let is : whole_of book ≡ made_start book.metadata.created tables = ap whole_of c.in-Ok.ensures.start in
    IfTold-weaker (left c.args.source.now) (left c.import_into-status.new.source) (Writes t (whole_of book) c.import_into-status.result (written c.args.sink.now) (written c.import_into-status.new.sink))
    (HasWritten t tables c.import_into-status.result (written c.args.sink.now) (written c.import_into-status.new.sink))
    (λ bytes rest w. (book.metadata.created, subst (λ (b : Book). Writes t b c.import_into-status.result (written c.args.sink.now) (written c.import_into-status.new.sink) bytes rest) is w)) (c.import_into-status.ensures.written at)

pub returns-in-Ok-clause-front : goal.returns-in-Ok-clause-front
returns-in-Ok-clause-front g c at =
    let left = g.S.Source.left in
    let written = g.K.Sink.written in
    let t = target c.args.asked.now in
    let tables = c.args.tables.now in
    let book = c.in-Ok.model.book in
    let is : whole_of book ≡ made_start book.metadata.created tables = ap whole_of c.in-Ok.ensures.start in
    IfTold-weaker (left c.args.source.now) (left c.import_into-status.new.source) (WritesPart t (whole_of book) (written c.args.sink.now) (written c.import_into-status.new.sink)) (HasWrittenPart t tables (written c.args.sink.now) (written c.import_into-status.new.sink))
    (λ bytes rest w. (book.metadata.created, subst (λ (b : Book). WritesPart t b (written c.args.sink.now) (written c.import_into-status.new.sink) bytes rest) is w)) (c.import_into-status.ensures.front at)

pub import_into-status-requires-clause-plain : goal.import_into-status-requires-clause-plain
import_into-status-requires-clause-plain g c = start_plain c.in-Ok.model.book _ _ _ _ c.in-Ok.model.book.metadata.created c.args.tables.now c.in-Ok.ensures.start
