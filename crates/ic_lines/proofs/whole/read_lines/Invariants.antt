use Rattle.std.proofs.Common.{◌≡◌, ◌+◌, ◌++◌, ◌≤◌, [], true, false, length}
use Rattle.ic_laws.specs.Lines.{texts_of}
use Rattle.ic_lines.specs.Bytes.{IfTold, TakesFirst}
use Rattle.ic_lines.specs.Reading.{SeesEnd, budget, unread}
use Rattle.ic_lines.proofs.whole.read_lines.Given as goal

-- some of the first lines are there, the others are still to be given, and no fault was counted
abbrev pub invariant-lines : goal.invariant-lines
invariant-lines g l =
    let source = g.S.Source in
    record {
      given : IfTold (source.left l.fn.source) (source.left l.source) (λ before now. texts_of before ≡ l.lines.items ++ texts_of (unread l.reader now));
      front : IfTold (source.left l.fn.source) (source.left l.source) TakesFirst;
      ends : IfTold (source.left l.fn.source) (source.left l.source) (λ before now. l.reader.ended ≡ true → now ≡ []);
      turns : IfTold (source.left l.fn.source) (source.left l.source) (λ before now. l.reader.turns + length now ≤ length before);
      shown : SeesEnd false l.reader.ended (source.ended l.fn.source) (source.ended l.source);
      quiet : source.faults l.source ≡ source.faults l.fn.source;
    }

-- the bytes that the reader can still give
abbrev pub decreases-lines : goal.decreases-lines
decreases-lines g l = budget l.reader
