use Rattle.std.proofs.Common.{◌≡◌, ap, subst, ◌∙◌}
use Rattle.ic_parts.specs.Book as held
use Rattle.ic_parts.specs.Whole.{whole_of}
use Rattle.ic_laws.specs.Lines.{texts_of}
use Rattle.ic_lines.proofs.ToldLemmas.{IfTold-weaker}
use Rattle.ic_machine.specs.Run.{after}
use Rattle.ic_run.specs.Core.{whole_machine}
use Rattle.ic_run.specs.Desk.{start_book}
use Rattle.ic_run.specs.Make.{made_setting}
use Rattle.ic_run.specs.Prepared.{IsBookAfter, SomeLead}
use Rattle.ic_run.proofs.prepared.book_after.Goals as goal

pub returns-in-Ok-clause-book : goal.returns-in-Ok-clause-book
returns-in-Ok-clause-book g c =
    let left = g.S.Source.left in
    let tables = c.args.tables.now in
    let old = c.in_ok-model.model.book in
    let new = c.answer_all.new.model.book in
    let created = old.metadata.created in
    let is : old ≡ start_book made_setting created tables = c.in_ok-model.ensures.start in
    IfTold-weaker (left c.args.source.now) (left c.answer_all.new.source) (λ bytes _. whole_of new ≡ after whole_machine (whole_of old) (texts_of bytes)) (IsBookAfter tables new)
    (λ bytes rest made. (created, made ∙ ap (λ b. after whole_machine (whole_of b) (texts_of bytes)) is)) c.in-Ok.ensures.book

pub returns-in-Ok-clause-lines : goal.returns-in-Ok-clause-lines
returns-in-Ok-clause-lines g c =
    let old = c.in_ok-model.model.book in
    (old.metadata.created, subst (λ (b : held.Book). SomeLead (whole_of b) (whole_of c.answer_all.new.model.book)) c.in_ok-model.ensures.start c.in-Ok.ensures.lines)
