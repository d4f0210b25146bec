use Rattle.std.proofs.Common.{◌≡◌, ◌∙◌, ◌++◌, ℕ, List, Some, ap, subst}
use Rattle.ic_lines.proofs.ToldLemmas.{IfTold-weaker}
use Rattle.ic_lines.specs.Bytes.{AppendsFront}
use Rattle.ic_parts.specs.Book.{core_of, notations_in}
use Rattle.ic_parts.specs.Sites.{site_of}
use Rattle.ic_parts.specs.Whole.{whole_of}
use Rattle.ic_dump.specs.Refused.{RawBody, Rereads, cause_of}
use Rattle.ic_dump.specs.Told.{TellsCannot, TellsDump, told_cannot, told_lines, told_of}
use Rattle.ic_dump.proofs.NeverRaw.{never_caused}
use Rattle.ic_dump.proofs.ToldLemmas.{fronts_cannot, fronts_dump, tells_cannot, tells_dump}
use Rattle.ic_dump.proofs.desk.tell.Goals as goal

pub returns-in-Ok-clause-dumped : goal.returns-in-Ok-clause-dumped
returns-in-Ok-clause-dumped g c at_0 =
    let written = g.K.Sink.written in
    let b = c.args.model.now.book in
    let lines = c.in-Ok.lines.items in
    IfTold-weaker (written c.args.sink.now) (written c.write_lines.new.sink) (λ before now. now ≡ before ++ told_lines c.deref.result.now) (TellsDump (whole_of b))
    (λ before now w. tells_dump b before now lines c.in-Ok.ensures.refused c.in-Ok.ensures.lines c.in-Ok.ensures.rebuilds (w ∙ ap (λ ls. before ++ told_lines ls) c.deref.ensures.value)) (c.write_lines.ensures.ok at_0)

pub returns-in-Ok-clause-front : goal.returns-in-Ok-clause-front
returns-in-Ok-clause-front g c at_4 =
    let written = g.K.Sink.written in
    let b = c.args.model.now.book in
    let lines = c.in-Ok.lines.items in
    IfTold-weaker (written c.args.sink.now) (written c.write_lines.new.sink) (AppendsFront (told_lines c.deref.result.now)) (AppendsFront (told_of (whole_of b)))
    (λ before now w. fronts_dump b before now lines c.in-Ok.ensures.refused c.in-Ok.ensures.lines (subst (λ ls. AppendsFront (told_lines ls) before now) c.deref.ensures.value w)) (c.write_lines.ensures.front at_4)

pub returns-in-Err-Rereads-clause-cannot : goal.returns-in-Err-Rereads-clause-cannot
returns-in-Err-Rereads-clause-cannot g c at_7 =
    let written = g.K.Sink.written in
    let b = c.args.model.now.book in
    let site = site_of c.in-Err-Rereads.field-0-0 in
    let cause : cause_of (notations_in b) (core_of b) ≡ Some (Rereads site) = rw c.in-Err-Rereads.field-0-is at c.in-Err-Rereads.ensures.refused in
    let bytes : c.as_bytes.result.now ≡ told_cannot = c.as_bytes.ensures.value in
    IfTold-weaker (written c.args.sink.now) (written c.written.new.sink) (λ before now. now ≡ before ++ c.as_bytes.result.now) (TellsCannot (whole_of b))
    (λ before now w. tells_cannot b before now site cause (w ∙ ap (λ (t : List ℕ). before ++ t) bytes)) (c.written.ensures.ok at_7)

pub returns-in-Err-Rereads-clause-front : goal.returns-in-Err-Rereads-clause-front
returns-in-Err-Rereads-clause-front g c at_4 =
    let written = g.K.Sink.written in
    let b = c.args.model.now.book in
    let site = site_of c.in-Err-Rereads.field-0-0 in
    let cause : cause_of (notations_in b) (core_of b) ≡ Some (Rereads site) = rw c.in-Err-Rereads.field-0-is at c.in-Err-Rereads.ensures.refused in
    let bytes : c.as_bytes.result.now ≡ told_cannot = c.as_bytes.ensures.value in
    IfTold-weaker (written c.args.sink.now) (written c.written.new.sink) (AppendsFront c.as_bytes.result.now) (AppendsFront (told_of (whole_of b)))
    (λ before now w. fronts_cannot b before now site cause (subst (λ (t : List ℕ). AppendsFront t before now) bytes w)) (c.written.ensures.front at_4)

pub unreachable-requires : goal.unreachable-requires
unreachable-requires g c =
    let b = c.args.model.now.book in
    let key = c.in-Err-RawBody.field-0-0 in
    let cause : cause_of (notations_in b) (core_of b) ≡ Some (RawBody key) = rw c.in-Err-RawBody.field-0-is at c.in-Err-RawBody.ensures.refused in
    never_caused (notations_in b) (core_of b) key c.requires cause
