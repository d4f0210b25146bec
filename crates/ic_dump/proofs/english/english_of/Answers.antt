use Rattle.std.specs.Str.{chars}
use Rattle.ic_dump.proofs.EnglishLemmas.{refused_never}
use Rattle.ic_dump.proofs.english.english_of.Goals as goal

pub unreachable-requires : goal.unreachable-requires
unfolding chars
unreachable-requires c = refused_never c.args.model.now.book c.in-Err.ensures.valid c.in-Err.field-0 c.in-Err.ensures.refused

pub returns-clause-named : goal.returns-clause-named
unfolding chars
returns-clause-named c = c.in-Ok.ensures.named
