use Rattle.std.proofs.Common.{◌≡◌, ◌∙◌, ◌⊎◌, arith, inl, inr, sym, ℕ}
use Rattle.ic_pool.proofs.PlaceLemmas.{no_items}
use Rattle.ic_parts.specs.Whole.{whole_of}
use Rattle.ic_lines.proofs.ToldLemmas.{IfTold-weaker}
use Rattle.ic_lines.specs.Bytes.{AppendsFront, IfTold}
use Rattle.ic_run.specs.Prepared.{IsBookAfter}
use Rattle.ic_dump.specs.Told.{AppendsCannot, AppendsDump, AppendsToldFront, TellsCannot, TellsDump, told_of}
use Rattle.ic_dump.proofs.NeverRaw.{never_raw}
use Rattle.ic_dump.proofs.MomentLemmas.{cannot_anytime, dump_anytime, front_anytime}
use Rattle.ic_dump.proofs.desk.dump_desk.Goals as goal

pub returns-in-Ok-clause-dumped : goal.returns-in-Ok-clause-dumped
returns-in-Ok-clause-dumped g c at_0 =
    let left = g.S.Source.left in
    let written = g.K.Sink.written in
    let tables = c.args.tables.now in
    let book = c.in-Ok.model.book in
    IfTold-weaker (left c.args.source.now) (left c.book_after.new.source) (IsBookAfter tables book) (λ bytes _. IfTold (written c.args.sink.now) (written c.tell-status.new.sink) (AppendsDump tables bytes))
    (λ bytes rest is. IfTold-weaker (written c.args.sink.now) (written c.tell-status.new.sink) (TellsDump (whole_of book)) (AppendsDump tables bytes)
    (λ before now told. dump_anytime before now tables bytes book is told) (c.tell-status.ensures.dumped at_0)) c.in-Ok.ensures.book

pub returns-in-Ok-clause-cannot : goal.returns-in-Ok-clause-cannot
returns-in-Ok-clause-cannot g c at_7 =
    let left = g.S.Source.left in
    let written = g.K.Sink.written in
    let tables = c.args.tables.now in
    let book = c.in-Ok.model.book in
    IfTold-weaker (left c.args.source.now) (left c.book_after.new.source) (IsBookAfter tables book) (λ bytes _. IfTold (written c.args.sink.now) (written c.tell-status.new.sink) (AppendsCannot tables bytes))
    (λ bytes rest is. IfTold-weaker (written c.args.sink.now) (written c.tell-status.new.sink) (TellsCannot (whole_of book)) (AppendsCannot tables bytes)
    (λ before now told. cannot_anytime before now tables bytes book is told) (c.tell-status.ensures.cannot at_7)) c.in-Ok.ensures.book

pub returns-in-Ok-clause-front : goal.returns-in-Ok-clause-front
returns-in-Ok-clause-front g c at_4 =
    let left = g.S.Source.left in
    let written = g.K.Sink.written in
    let tables = c.args.tables.now in
    let book = c.in-Ok.model.book in
    IfTold-weaker (left c.args.source.now) (left c.book_after.new.source) (IsBookAfter tables book) (λ bytes _. IfTold (written c.args.sink.now) (written c.tell-status.new.sink) (AppendsToldFront tables bytes))
    (λ bytes rest is. IfTold-weaker (written c.args.sink.now) (written c.tell-status.new.sink) (AppendsFront (told_of (whole_of book))) (AppendsToldFront tables bytes)
    (λ before now told. front_anytime before now tables bytes book is told) (c.tell-status.ensures.front at_4)) c.in-Ok.ensures.book

pub tell-status-requires : goal.tell-status-requires
tell-status-requires g c = never_raw c.args.tables.now c.in-Ok.model.book c.in-Ok.ensures.lines

not_one : (status : ℕ) → (status ≡ 0) ⊎ ((status ≡ 4) ⊎ ((status ≡ 6) ⊎ (status ≡ 7))) → status ≡ 1 → ⊥
not_one status (inl e) one = omega (arith, e, one)
not_one status (inr (inl e)) one = omega (arith, e, one)
not_one status (inr (inr (inl e))) one = omega (arith, e, one)
not_one status (inr (inr (inr e))) one = omega (arith, e, one)

pub returns-in-Ok-clause-usage : goal.returns-in-Ok-clause-usage
returns-in-Ok-clause-usage g c =
    (λ one. absurd (not_one c.tell-status.result c.tell-status.ensures.which one), λ some. absurd (some (no_items c.args.words.now (sym c.is_empty.ensures ∙ c.if-not-is_empty.false))))
