use Rattle.std.proofs.Common.{◌++◌, chars}
use Rattle.std.specs.Fmt.{decimal}
use Rattle.ic_parts.proofs.taken_numbers.lowered_word.Goals as goal

pub returns-in-Ok : goal.returns-in-Ok
returns-in-Ok c = λ gone is. c.lowered.ensures (λ n. chars c.args.word.now ++ decimal n) gone (c.in-Ok.ensures gone is)
