use Rattle.ic_parts.proofs.NumberedTexts.{suffix_pushed}
use Rattle.std.proofs.Common.{arith}
use Rattle.ic_parts.proofs.sheet_names.push_suffix.Goals as goal

pub returns-clause-chars : goal.returns-clause-chars
returns-clause-chars c =
    suffix_pushed c.args.text.now c.push_str.new.self c.write.new.self c.push_str-2.new.self c.args.number (omega arith)
    c.in_ok-push_str.ensures.bytes c.in_ok-write.ensures.bytes c.in_ok-push_str-2.ensures.bytes
