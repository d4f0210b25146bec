use Rattle.std.proofs.Common.{List, Option, IsSome, subst, sym, ◌∙◌}
use Rattle.ic_parts.specs.Whole.{whole_of}
use Rattle.ic_lines.proofs.ToldLemmas.{IfTold-weaker}
use Rattle.ic_lines.specs.Bytes.{IfTold}
use Rattle.ic_machine.specs.Refusal.{Site}
use Rattle.ic_run.specs.Prepared.{IsBookAfter}
use Rattle.ic_audit.specs.Asked.{question, sites_asked}
use Rattle.ic_audit.specs.Listed.{AppendsSites, AppendsSitesFront, FindsNothing, FindsSome, TellsSites, TellsSitesFront}
use Rattle.ic_audit.proofs.MomentLemmas.{asked_anytime}
use Rattle.ic_audit.proofs.desk.answered.Goals as goal

pub returns-in-Ok-clause-listed : goal.returns-in-Ok-clause-listed
returns-in-Ok-clause-listed g c at_0 =
    let left = g.S.Source.left in
    let written = g.K.Sink.written in
    let q = question c.args.asked.now in
    let tables = c.args.tables.now in
    let book = c.in-Ok.model.book in
    IfTold-weaker (left c.args.source.now) (left c.book_after.new.source) (IsBookAfter tables book) (λ bytes _. IfTold (written c.args.sink.now) (written c.tell-status.new.sink) (AppendsSites q tables bytes))
    (λ bytes rest is. IfTold-weaker (written c.args.sink.now) (written c.tell-status.new.sink) (TellsSites (sites_asked q (whole_of book))) (AppendsSites q tables bytes)
    (λ before now told other. subst (λ (o : Option (List Site)). TellsSites o before now) (asked_anytime q tables bytes book is other) told) (c.tell-status.ensures.listed at_0)) c.in-Ok.ensures.book

pub returns-in-Ok-clause-front : goal.returns-in-Ok-clause-front
returns-in-Ok-clause-front g c at_4 =
    let left = g.S.Source.left in
    let written = g.K.Sink.written in
    let q = question c.args.asked.now in
    let tables = c.args.tables.now in
    let book = c.in-Ok.model.book in
    IfTold-weaker (left c.args.source.now) (left c.book_after.new.source) (IsBookAfter tables book) (λ bytes _. IfTold (written c.args.sink.now) (written c.tell-status.new.sink) (AppendsSitesFront q tables bytes))
    (λ bytes rest is. IfTold-weaker (written c.args.sink.now) (written c.tell-status.new.sink) (TellsSitesFront (sites_asked q (whole_of book))) (AppendsSitesFront q tables bytes)
    (λ before now told other. subst (λ (o : Option (List Site)). TellsSitesFront o before now) (asked_anytime q tables bytes book is other) told) (c.tell-status.ensures.front at_4)) c.in-Ok.ensures.book

pub returns-in-Ok-clause-none : goal.returns-in-Ok-clause-none
returns-in-Ok-clause-none g c at_8 =
    let left = g.S.Source.left in
    let q = question c.args.asked.now in
    let tables = c.args.tables.now in
    let book = c.in-Ok.model.book in
    IfTold-weaker (left c.args.source.now) (left c.book_after.new.source) (IsBookAfter tables book) (FindsNothing q tables) (λ bytes rest is other. sym (asked_anytime q tables bytes book is other) ∙ c.tell-status.ensures.none at_8) c.in-Ok.ensures.book

pub returns-in-Ok-clause-found : goal.returns-in-Ok-clause-found
returns-in-Ok-clause-found g c at =
    let left = g.S.Source.left in
    let q = question c.args.asked.now in
    let tables = c.args.tables.now in
    let book = c.in-Ok.model.book in
    IfTold-weaker (left c.args.source.now) (left c.book_after.new.source) (IsBookAfter tables book) (FindsSome q tables)
    (λ bytes rest is other. subst (λ (o : Option (List Site)). IsSome o) (asked_anytime q tables bytes book is other) (c.tell-status.ensures.found at)) c.in-Ok.ensures.book
