use Rattle.std.proofs.Common.{◌≡◌, ◌+◌, ◌*◌, ◌≤◌, [], length, Bool, true, false, Some, Err, chars, subst, sym, ap, ◌∙◌, refl, arith, inl, inr}
use Rattle.ic_lines.specs.Bytes.{IfTold}
use Rattle.ic_lines.specs.Reading.{GivesHeld, Reading, SeesEnd, budget, passed}
use Rattle.ic_lines.proofs.TakeLemmas.{SeesEnd-join, SeesEnd-start}
use Rattle.ic_lines.proofs.ToldLemmas.{IfTold-join, IfTold-same}
use Rattle.ic_parts.specs.Book.{ModelState}
use Rattle.ic_run.specs.Answering.{LeavesAnswered}
use Rattle.ic_run.proofs.AnsweringLemmas.{Next, Progress, Progress-step, answers_all_told, came_further, came_nowhere, fewer_left, first_progress, gives_none, gives_told, leaves_at_line, leaves_at_reader, next_told, some_at_line, some_came}
use Rattle.ic_run.proofs.RunLemmas.{IfErr-given}
use Rattle.ic_run.proofs.answering.answer_each.Goals as goal

pub returns-in_err-find_line-clause-front : goal.returns-in_err-find_line-clause-front
returns-in_err-find_line-clause-front g c =
    let left = g.S.Source.left in
    let written = g.K.Sink.written in
    let a = g.A.Answers in
    let e = c.in_err-find_line.field-0.0 in
    let h = c.in_err-find_line.ensures in
    let old : g.row.A.Denot × ModelState = (c.args.answerer.now, c.args.model.now) in
    let mid : g.row.A.Denot × ModelState = (c.lines.answerer, c.lines.model) in
    let given = leaves_at_reader a.does a.stays old mid c.lines.count c.lines.reader c.find_line.new.self c.find_line.new.self (written c.args.sink.now) (written c.lines.sink) _ _ _ e
    c.lines.invariant.done h.taken refl (λ which. elim which [ inl p ↦ (h.read_fault (ap Err p)).1 | inr p ↦ (h.too_many (ap Err p)).1 ]) (λ p. h.no_write (ap Err p)) in
    IfErr-given c.from_residual.result e
    (λ x. IfTold (left c.args.source.now) (left c.find_line.new.source) (λ bytes b. LeavesAnswered a.does a.stays x old mid bytes b (written c.args.sink.now) (written c.lines.sink)))
    c.from_residual.ensures.1 given

pub returns-in_err-answer_to-clause-front : goal.returns-in_err-answer_to-clause-front
returns-in_err-answer_to-clause-front g c =
    let left = g.S.Source.left in
    let written = g.K.Sink.written in
    let a = g.A.Answers in
    let old : g.row.A.Denot × ModelState = (c.args.answerer.now, c.args.model.now) in
    let mid : g.row.A.Denot × ModelState = (c.lines.answerer, c.lines.model) in
    let new : g.row.A.Denot × ModelState = (c.answer_to.new.answerer, c.answer_to.new.model) in
    let before = c.lines.reader in
    let asked = c.find_line.new.self in
    let after = passed asked in
    let line = chars c.line.result.now in
    let e = c.in_err-answer_to.field-0.0 in
    let h = c.in_err-answer_to.ensures in
    let reads = c.in_ok-find_line.ensures in
    let held = c.line.ensures.given in
    let gives = gives_told line before asked after (left c.lines.source) (left c.find_line.new.source) reads.kept held in
    let given = leaves_at_line a.does a.stays old mid new c.lines.count before after (written c.args.sink.now) (written c.lines.sink) (written c.answer_to.new.sink) _ _ _ line e
    c.lines.invariant.done (next_told line before asked after _ _ reads.taken held gives reads.ends) h.which
    (λ p. let k = h.no_memory (ap Err p) in (k.0, ap written k.1)) (λ p. let k = h.write_fault (ap Err p) in (k.1, k.2, k.3)) in
    IfErr-given c.from_residual-in_err-answer_to.result e
    (λ x. IfTold (left c.args.source.now) (left c.find_line.new.source) (λ bytes b. LeavesAnswered a.does a.stays x old new bytes b (written c.args.sink.now) (written c.answer_to.new.sink)))
    c.from_residual-in_err-answer_to.ensures.1 given

pub returns-in_err-find_line-clause-some : goal.returns-in_err-find_line-clause-some
returns-in_err-find_line-clause-some g c = some_came g.A.Answers.does g.A.Answers.stays (c.args.answerer.now, c.args.model.now) (c.lines.answerer, c.lines.model) c.lines.invariant.came

pub returns-in_err-answer_to-clause-some : goal.returns-in_err-answer_to-clause-some
returns-in_err-answer_to-clause-some g c =
    let a = g.A.Answers in
    let h = c.in_err-answer_to.ensures in
    some_at_line a.does a.stays (c.args.answerer.now, c.args.model.now) (c.lines.answerer, c.lines.model) (c.answer_to.new.answerer, c.answer_to.new.model) (chars c.line.result.now) c.in_err-answer_to.field-0.0
    c.lines.invariant.came h.which (λ p. (h.no_memory (ap Err p)).0) (λ p. let k = h.write_fault (ap Err p) in (k.1, k.2))

pub returns-clause-some : goal.returns-clause-some
returns-clause-some g c = some_came g.A.Answers.does g.A.Answers.stays (c.args.answerer.now, c.args.model.now) (c.lines.answerer, c.lines.model) c.lines.invariant.came

pub lines-init : goal.lines-init
lines-init g c =
    let a = g.A.Answers in
    let left = g.S.Source.left c.args.source.now in
    let is = sym c.new-reader.ensures in
    let written = g.K.Sink.written c.args.sink.now in
    record {
      ready = c.requires.ready;
      came = came_nowhere a.does (c.args.answerer.now, c.args.model.now);
      done = subst (λ r. IfTold left left (Progress a.does (c.args.answerer.now, c.args.model.now) (c.args.answerer.now, c.args.model.now) 0 r written written)) is
          (first_progress a.does (c.args.answerer.now, c.args.model.now) written left);
      turns = subst (λ (r : Reading). IfTold left left (λ bytes a. r.turns + length a ≤ length bytes)) is (IfTold-same left (λ bytes a. 0 + length a ≤ length bytes) (λ x. omega arith));
      few = subst (λ (r : Reading). 0 + budget r ≤ 4096 * 4294967296) is (omega arith);
      shown = subst (λ (r : Reading). SeesEnd false r.ended (g.S.Source.ended c.args.source.now) (g.S.Source.ended c.args.source.now)) is (SeesEnd-start false (g.S.Source.ended c.args.source.now));
      source_quiet = refl;
      sink_quiet = refl;
    }

pub lines-preserved : goal.lines-preserved
lines-preserved g c =
    let left = g.S.Source.left in
    let written = g.K.Sink.written in
    let a = g.A.Answers in
    let old : g.row.A.Denot × ModelState = (c.args.answerer.now, c.args.model.now) in
    let mid : g.row.A.Denot × ModelState = (c.lines.answerer, c.lines.model) in
    let new : g.row.A.Denot × ModelState = (c.answer_to.new.answerer, c.answer_to.new.model) in
    let before = c.lines.reader in
    let asked = c.find_line.new.self in
    let after = c.pass.new.self in
    let line = chars c.line.result.now in
    let i = c.lines.invariant in
    let e = c.in_ok-find_line.ensures in
    let one = c.in_ok-answer_to.ensures.does in
    let held : GivesHeld (Some line) asked after = subst (λ (r : Reading). GivesHeld (Some line) asked r) (sym c.pass.ensures) c.line.ensures.given in
    let gives = gives_told line before asked after (left c.lines.source) (left c.find_line.new.source) e.kept held in
    let ends : before.ended ≡ false → IfTold (left c.lines.source) (left c.find_line.new.source) (λ x y. after.ended ≡ true → y ≡ []) =
    λ unseen. subst (λ (b : Bool). IfTold (left c.lines.source) (left c.find_line.new.source) (λ x y. b ≡ true → y ≡ [])) (sym held.ended) (e.ends unseen) in
    record {
      ready = c.in_ok-answer_to.ensures.ready;
      came = came_further a.does old mid new line one.0 i.came one.1;
      done = IfTold-join _ _ _
          (Progress a.does old mid c.lines.count before (written c.args.sink.now) (written c.lines.sink)) (Next line before after)
          (Progress a.does old new (c.lines.count + 1) after (written c.args.sink.now) (written c.answer_to.new.sink))
          (λ bytes x y p n. Progress-step a.does old mid c.lines.count before after _ _ bytes x y line p n new one.0 _ one.1 one.2)
          i.done (next_told line before asked after _ _ e.taken held gives ends);
      turns = IfTold-join _ _ _ (λ bytes a. before.turns + length a ≤ length bytes) (λ a b. asked.turns + length b ≤ before.turns + length a) (λ bytes b. after.turns + length b ≤ length bytes)
          (λ bytes a b p q. omega (arith, p, q, held.turns)) i.turns e.turns;
      few = omega (arith, i.few, e.room, fewer_left line asked after held);
      shown = subst (λ (b : Bool). SeesEnd false b (g.S.Source.ended c.args.source.now) (g.S.Source.ended c.find_line.new.source)) (sym held.ended) (SeesEnd-join _ _ _ _ _ _ i.shown e.shown);
      source_quiet = e.quiet ∙ i.source_quiet;
      sink_quiet = c.in_ok-answer_to.ensures.quiet ∙ i.sink_quiet;
    }

pub returns-clause-all : goal.returns-clause-all
returns-clause-all g c =
    let left = g.S.Source.left in
    let before = c.lines.reader in
    let asked = c.find_line.new.self in
    let h = c.in_ok-find_line.ensures in
    let end = h.none c.if-branch.false in
    answers_all_told g.A.Answers.does (c.args.answerer.now, c.args.model.now) (c.lines.answerer, c.lines.model) c.lines.count before asked asked (g.K.Sink.written c.args.sink.now) (g.K.Sink.written c.lines.sink) _ _ _ c.lines.invariant.done h.taken
    (gives_none before asked (left c.lines.source) (left c.find_line.new.source) h.kept end.0 end.1)
