use Rattle.std.proofs.Common.{◌≡◌, ◌⊎◌, ◌+◌, ◌-◌, ◌≤◌, [], true, false, length, Contains, if◌then◌else◌}
use Rattle.ic_lines.specs.Bytes.{IfTold}
use Rattle.ic_lines.specs.Reading.{SeesEnd, TakesLine, budget, most_turns, unread}
use Rattle.ic_lines.proofs.reader.LineReader.find_line.Given as goal

-- what is still to be given stays, no fault was counted, and each read but the last brought no line feed; as long as
-- nothing had to be asked nothing has happened
abbrev pub invariant-reads : goal.invariant-reads
invariant-reads g l =
    let source = g.S.Source in
    record {
      kept : IfTold (source.left l.fn.source) (source.left l.source) (λ before now. unread l.self now ≡ unread l.fn.self before);
      ends : l.fn.self.ended ≡ false → IfTold (source.left l.fn.source) (source.left l.source) (λ before now. l.self.ended ≡ true → now ≡ []);
      turns : IfTold (source.left l.fn.source) (source.left l.source) (λ before now. l.self.turns + length now ≤ l.fn.self.turns + length before);
      quiet : source.faults l.source ≡ source.faults l.fn.source;
      taken : TakesLine l.fn.self l.self (source.left l.fn.source) (source.left l.source);
      shown : SeesEnd l.fn.self.ended l.self.ended (source.ended l.fn.source) (source.ended l.source);
      room : budget l.self ≤ budget l.fn.self;
      unasked : Contains l.fn.self.held 10 ⊎ (l.fn.self.ended ≡ true) → (l.self ≡ l.fn.self) × (l.source ≡ l.fn.source);
    }

-- each read gives a byte, of which there are so many, or sees the end
abbrev pub decreases-reads : goal.decreases-reads
decreases-reads g l = (most_turns - l.self.turns) + (if l.self.ended then 0 else 1)
