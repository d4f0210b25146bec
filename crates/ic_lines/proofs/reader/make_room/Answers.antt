use Rattle.std.proofs.Common.{arith}
use Rattle.ic_lines.proofs.reader.make_room.Goals as goal

pub overflow_add-len : goal.overflow_add-len
overflow_add-len c = omega (arith, c.args.bytes.now.ok.1, c.args.bytes.now.small)
