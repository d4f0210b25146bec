use Rattle.std.proofs.Common.{ℕ, List, ◌≡◌, ◌++◌, ap, subst, ◌∙◌}
use Rattle.ic_lines.proofs.ToldLemmas.{IfTold-weaker}
use Rattle.ic_lines.specs.Bytes.{AppendsFront}
use Rattle.ic_parts.specs.Whole.{whole_of}
use Rattle.ic_run.specs.Make.{AppendsSummary, AppendsSummaryFront, made_start, summary_of}
use Rattle.ic_run.proofs.make.make.Goals as goal

pub returns-in-Ok-told-clause-made : goal.returns-in-Ok-told-clause-made
returns-in-Ok-told-clause-made g c at_0 =
    let written = g.K.Sink.written in
    let making = c.args.making.now in
    let tables = c.args.tables.now in
    let created = c.in-Ok.model.book.metadata.created in
    let text = c.as_bytes.result.now in
    let tells : text ≡ summary_of making (made_start created tables) =
    c.as_bytes.ensures.value ∙ c.in-Ok-told.ensures ∙ ap (λ b. summary_of making (whole_of b)) c.in-Ok.ensures.start in
    IfTold-weaker (written c.args.sink.now) (written c.written.new.sink) (λ before now. now ≡ before ++ text) (AppendsSummary making tables)
    (λ before now q. (created, q ∙ ap (λ (t : List ℕ). before ++ t) tells)) (c.written.ensures.ok at_0)

pub returns-in-Ok-told-clause-front : goal.returns-in-Ok-told-clause-front
returns-in-Ok-told-clause-front g c at_4 =
    let written = g.K.Sink.written in
    let making = c.args.making.now in
    let tables = c.args.tables.now in
    let created = c.in-Ok.model.book.metadata.created in
    let text = c.as_bytes.result.now in
    let tells : text ≡ summary_of making (made_start created tables) =
    c.as_bytes.ensures.value ∙ c.in-Ok-told.ensures ∙ ap (λ b. summary_of making (whole_of b)) c.in-Ok.ensures.start in
    IfTold-weaker (written c.args.sink.now) (written c.written.new.sink) (AppendsFront text) (AppendsSummaryFront making tables)
    (λ before now q. (created, subst (λ (t : List ℕ). AppendsFront t before now) tells q)) (c.written.ensures.front at_4)
