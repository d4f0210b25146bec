use Rattle.std.proofs.Common.{◌≡◌, ◌+◌, ◌*◌, ◌≤◌, false, length}
use Rattle.ic_lines.specs.Bytes.{IfTold}
use Rattle.ic_lines.specs.Reading.{SeesEnd, budget}
use Rattle.ic_run.proofs.AnsweringLemmas.{Came, Progress}
use Rattle.ic_run.proofs.answering.answer_each.Given as goal

-- some of the first lines are answered, and the others are still to be given; no fault was counted
abbrev pub invariant-lines : goal.invariant-lines
invariant-lines g l =
    let source = g.S.Source in
    let sink = g.K.Sink in
    let does = g.A.Answers.does in
    record {
      ready : g.A.Answers.is_ready l.answerer l.model;
      came : Came does (l.fn.answerer, l.fn.model) (l.answerer, l.model);
      done : IfTold (source.left l.fn.source) (source.left l.source) (Progress does (l.fn.answerer, l.fn.model) (l.answerer, l.model) l.count l.reader (sink.written l.fn.sink) (sink.written l.sink));
      turns : IfTold (source.left l.fn.source) (source.left l.source) (λ bytes left. l.reader.turns + length left ≤ length bytes);
      few : l.count + budget l.reader ≤ 4096 * 4294967296;
      shown : SeesEnd false l.reader.ended (source.ended l.fn.source) (source.ended l.source);
      source_quiet : source.faults l.source ≡ source.faults l.fn.source;
      sink_quiet : sink.faults l.sink ≡ sink.faults l.fn.sink;
    }

-- the bytes that the reader can still give
abbrev pub decreases-lines : goal.decreases-lines
decreases-lines g l = budget l.reader
