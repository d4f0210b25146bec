use Rattle.std.proofs.Common.{arith}
use Rattle.ic_parts.proofs.TakenLemmas.{notes_tried}
use Rattle.ic_parts.proofs.taken_numbers.note_at.Goals as goal

pub returns : goal.returns
returns c =
    notes_tried c.args.number (omega arith) c.args.notes.now c.insert.new.self c.insert.result c.in-Ok.key c.args.key.now
    c.in-Ok.ensures.ok c.insert.ensures.updates c.insert.ensures.err
