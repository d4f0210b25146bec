use Rattle.std.proofs.Common.{ℕ, List, ◌∙◌, sym, subst}
use Rattle.ic_laws.specs.CoreBook.{CoreBook}
use Rattle.ic_laws.specs.Lines.{texts_of}
use Rattle.ic_tables.specs.Tables.{TableSet}
use Rattle.ic_lines.proofs.ToldLemmas.{IfTold-weaker}
use Rattle.ic_lines.specs.Bytes.{IfTold}
use Rattle.ic_parts.specs.Book.{Book, core_of}
use Rattle.ic_parts.specs.Whole.{whole_of}
use Rattle.ic_run.specs.Desk.{start_book}
use Rattle.ic_run.specs.Start.{setting}
use Rattle.ic_run.specs.Core.{AreCore, IsPlainBook, identity_machine, whole_machine}
use Rattle.ic_run.specs.Run.{AppendsReplies, LeavesReplies}
use Rattle.ic_tree.specs.Notations.{notations_of}
use Rattle.ic_run.proofs.DeskLemmas.{all_taken, completes_so, leaves_core_told, leaves_whole_told, on_ok_at_0, start_core, start_plain}
use Rattle.ic_run.proofs.LeftLemmas.{some_moment}
use Rattle.ic_run.proofs.program.run_from.Goals as goal

pub returns-in-Ok-clause-taken : goal.returns-in-Ok-clause-taken
returns-in-Ok-clause-taken g c at_0 =
    on_ok_at_0 c.run-answer.result _ (all_taken c.run-answer.result _ _ (g.S.Source.left c.args.source.now) (g.S.Source.left c.run-answer.new.source) c.run-answer.ensures.book) (sym c.status_of.ensures ∙ at_0)

pub returns-in-Ok-clause-replies : goal.returns-in-Ok-clause-replies
returns-in-Ok-clause-replies g c at_0 =
    let left = g.S.Source.left in
    let written = g.K.Sink.written in
    let book = c.in-Ok.model.book in
    let Told : TableSet → CoreBook → Type 0 = λ t core. IfTold (left c.args.source.now) (left c.run-answer.new.source) (λ bytes _. AreCore t (texts_of bytes) → IfTold (written c.args.sink.now) (written c.run-answer.new.sink) (AppendsReplies (identity_machine (notations_of t)) core bytes)) in
    let Given : List ℕ → List ℕ → Type 0 = λ bytes _. IsPlainBook (whole_of book) → AreCore book.tables (texts_of bytes) → IfTold (written c.args.sink.now) (written c.run-answer.new.sink) (AppendsReplies (identity_machine (notations_of book.tables)) (core_of book) bytes) in
    let plain = start_plain book _ _ _ _ _ _ c.in-Ok.ensures.start in
    let told : Told book.tables (core_of book) =
    IfTold-weaker (left c.args.source.now) (left c.run-answer.new.source) Given (λ bytes _. AreCore book.tables (texts_of bytes) → IfTold (written c.args.sink.now) (written c.run-answer.new.sink) (AppendsReplies (identity_machine (notations_of book.tables)) (core_of book) bytes))
    (λ bytes rest h. h plain) (on_ok_at_0 c.run-answer.result (IfTold (left c.args.source.now) (left c.run-answer.new.source) Given) c.run-answer.ensures.replies (sym c.status_of.ensures ∙ at_0)) in
    subst (Told c.args.tables.now) (start_core book _ _ _ _ _ _ c.in-Ok.ensures.start) (subst (λ (b : Book). Told b.tables (core_of book)) c.in-Ok.ensures.start told)

pub returns-in-Ok-clause-stopped : goal.returns-in-Ok-clause-stopped
returns-in-Ok-clause-stopped g c e stopped =
    let left = g.S.Source.left in
    let written = g.K.Sink.written in
    let book = c.in-Ok.model.book in
    let Told : TableSet → CoreBook → Type 0 = λ t core. IfTold (left c.args.source.now) (left c.run-answer.new.source) (λ bytes rest. LeavesReplies (identity_machine (notations_of t)) core (AreCore t) e bytes rest (written c.args.sink.now) (written c.run-answer.new.sink)) in
    let told : Told book.tables (core_of book) =
    leaves_core_told c.run-answer.result e book c.run-answer.new.model.book (left c.args.source.now) (left c.run-answer.new.source) (written c.args.sink.now) (written c.run-answer.new.sink) (start_plain book _ _ _ _ _ _ c.in-Ok.ensures.start) (sym c.status_of.ensures ∙ stopped) c.run-answer.ensures.front in
    subst (Told c.args.tables.now) (start_core book _ _ _ _ _ _ c.in-Ok.ensures.start) (subst (λ (b : Book). Told b.tables (core_of book)) c.in-Ok.ensures.start told)

pub returns-in-Ok-clause-all_replies : goal.returns-in-Ok-clause-all_replies
returns-in-Ok-clause-all_replies g c at_0 =
    let left = g.S.Source.left in
    let written = g.K.Sink.written in
    let book = c.in-Ok.model.book in
    let tables = c.args.tables.now in
    let Told : Book → Type 0 = λ b. IfTold (left c.args.source.now) (left c.run-answer.new.source) (λ bytes _. IfTold (written c.args.sink.now) (written c.run-answer.new.sink) (AppendsReplies whole_machine (whole_of b) bytes)) in
    let told : Told book = on_ok_at_0 c.run-answer.result (Told book) c.run-answer.ensures.all_replies (sym c.status_of.ensures ∙ at_0) in
    some_moment (left c.args.source.now) (left c.run-answer.new.source) (written c.args.sink.now) (written c.run-answer.new.sink) (λ created. start_book (setting c.args.first.now) created tables) book.metadata.created
    (subst Told c.in-Ok.ensures.start told)

pub returns-in-Ok-clause-stopped_whole : goal.returns-in-Ok-clause-stopped_whole
returns-in-Ok-clause-stopped_whole g c e stopped =
    let left = g.S.Source.left in
    let written = g.K.Sink.written in
    let book = c.in-Ok.model.book in
    leaves_whole_told c.run-answer.result e book c.run-answer.new.model.book (λ created. start_book (setting c.args.first.now) created c.args.tables.now) book.metadata.created (left c.args.source.now) (left c.run-answer.new.source)
    (written c.args.sink.now) (written c.run-answer.new.sink) c.in-Ok.ensures.start (sym c.status_of.ensures ∙ stopped) c.run-answer.ensures.front

pub returns-in-Ok-clause-completes : goal.returns-in-Ok-clause-completes
returns-in-Ok-clause-completes g c = λ none few read write. completes_so c.run-answer.result c.status_of.result c.status_of.ensures (c.run-answer.ensures.completes few read write)
