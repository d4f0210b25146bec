use Rattle.std.proofs.Common.{◌≡◌}
use Rattle.ic_run.specs.Desk.{start_book}
use Rattle.ic_run.specs.Make.{made_setting}
use Rattle.ic_run.specs.Start.{target}
use Rattle.ic_run.proofs.AcceptedLemmas.{translated_due}
use Rattle.ic_run.proofs.TranslationLemmas.{translated_front, translated_told}
use Rattle.ic_run.proofs.translation.translation.Goals as goal

pub returns-in-Ok-clause-told : goal.returns-in-Ok-clause-told
returns-in-Ok-clause-told g c at =
    let left = g.S.Source.left in
    let written = g.K.Sink.written in
    let tables = c.args.tables.now in
    let created = c.in-Ok.model.book.metadata.created in
    let is : c.in-Ok.model.book ≡ start_book made_setting created tables = c.in-Ok.ensures.start in
    translated_told (target c.args.wanted.now) tables c.in-Ok.model.book created is (left c.args.source.now) (left c.from_book.new.source) (written c.args.sink.now) (written c.from_book.new.sink) c.from_book.result (c.from_book.ensures.told at)

pub returns-in-Ok-clause-due : goal.returns-in-Ok-clause-due
returns-in-Ok-clause-due g c at =
    let left = g.S.Source.left in
    let tables = c.args.tables.now in
    let created = c.in-Ok.model.book.metadata.created in
    let is : c.in-Ok.model.book ≡ start_book made_setting created tables = c.in-Ok.ensures.start in
    translated_due (target c.args.wanted.now) tables c.in-Ok.model.book created is (left c.args.source.now) (left c.from_book.new.source) c.from_book.result (c.from_book.ensures.due at)

pub returns-in-Ok-clause-front : goal.returns-in-Ok-clause-front
returns-in-Ok-clause-front g c at_4 =
    let left = g.S.Source.left in
    let written = g.K.Sink.written in
    let tables = c.args.tables.now in
    let created = c.in-Ok.model.book.metadata.created in
    let is : c.in-Ok.model.book ≡ start_book made_setting created tables = c.in-Ok.ensures.start in
    translated_front (target c.args.wanted.now) tables c.in-Ok.model.book created is (left c.args.source.now) (left c.from_book.new.source) (written c.args.sink.now) (written c.from_book.new.sink) (c.from_book.ensures.front at_4)
