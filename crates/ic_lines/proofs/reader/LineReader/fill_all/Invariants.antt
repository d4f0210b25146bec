use Rattle.std.proofs.Common.{◌≡◌, ◌+◌, ◌-◌, ◌≤◌, [], true, false, length, if◌then◌else◌}
use Rattle.ic_lines.specs.Bytes.{IfTold}
use Rattle.ic_lines.specs.Reading.{SeesEnd, most_turns, unread}
use Rattle.ic_lines.proofs.reader.LineReader.fill_all.Given as goal

-- what is still to be given stays, and no fault was counted
abbrev pub invariant-fills : goal.invariant-fills
invariant-fills g l =
    let source = g.S.Source in
    record {
      kept : IfTold (source.left l.fn.source) (source.left l.source) (λ before now. unread l.self now ≡ unread l.fn.self before);
      ends : l.fn.self.ended ≡ false → IfTold (source.left l.fn.source) (source.left l.source) (λ before now. l.self.ended ≡ true → now ≡ []);
      turns : IfTold (source.left l.fn.source) (source.left l.source) (λ before now. l.self.turns + length now ≤ l.fn.self.turns + length before);
      shown : SeesEnd l.fn.self.ended l.self.ended (source.ended l.fn.source) (source.ended l.source);
      quiet : source.faults l.source ≡ source.faults l.fn.source;
    }

-- each read gives a byte, of which there are so many, or sees the end
abbrev pub decreases-fills : goal.decreases-fills
decreases-fills g l = (most_turns - l.self.turns) + (if l.self.ended then 0 else 1)
