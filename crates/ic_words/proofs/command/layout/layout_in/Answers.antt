use Rattle.std.proofs.Common.{rules}
use Rattle.ic_machine.specs.subjects.Layout.{layout_rows}
use Rattle.ic_words.specs.Words.{words_left}
use Rattle.ic_words.proofs.SubjectLemmas.{unnamed}
use Rattle.ic_words.proofs.command.layout.layout_in.Goals as goal

pub returns-in_default-clause-exact : goal.returns-in_default-clause-exact
returns-in_default-clause-exact c = unnamed layout_rows c.args.name.now (words_left c.args.rest) (search rules)
