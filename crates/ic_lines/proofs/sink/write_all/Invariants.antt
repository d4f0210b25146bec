use Rattle.std.proofs.Common.{◌≡◌, ◌≤◌, ◌-◌, ◌++◌, length, take, drop}
use Rattle.ic_lines.specs.Bytes.{IfTold}
use Rattle.ic_lines.proofs.sink.write_all.Given as goal

-- what isn't in the rest was written after what was there, and no fault was counted
abbrev pub invariant-loop-rest : goal.invariant-loop-rest
invariant-loop-rest g l =
    let sink = g.K.Sink in
    record {
      within : length l.rest ≤ length l.bytes;
      rest : l.rest ≡ drop (length l.bytes - length l.rest) l.bytes;
      written : IfTold (sink.written l.fn.sink) (sink.written l.sink) (λ old new. new ≡ old ++ take (length l.bytes - length l.rest) l.bytes);
      quiet : sink.faults l.sink ≡ sink.faults l.fn.sink;
    }

abbrev pub decreases-loop-rest : goal.decreases-loop-rest
decreases-loop-rest g l = length l.rest
