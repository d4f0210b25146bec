use Rattle.std.proofs.Common.{ap, sym, ◌∙◌, option_map}
use Rattle.ic_tables.specs.Words.{error_words}
use Rattle.ic_words.specs.Words.{words_left}
use Rattle.ic_words.specs.subjects.Arrays.{arrays_meant}
use Rattle.ic_words.proofs.SubjectLemmas.{of_arrays}
use Rattle.ic_words.proofs.command.subject.in_arrays.Goals as goal

pub returns-in-Some-clause-exact : goal.returns-in-Some-clause-exact
returns-in-Some-clause-exact c =
    of_arrays (error_words c.args.english.now) c.args.name.now (words_left c.args.rest) c.utf8.name c.requires (ap (option_map arrays_meant) (sym c.in-Some.is) ∙ c.in_ok-command.ensures.exact)

pub returns-in-None-clause-exact : goal.returns-in-None-clause-exact
returns-in-None-clause-exact c =
    of_arrays (error_words c.args.english.now) c.args.name.now (words_left c.args.rest) c.utf8.name c.requires (ap (option_map arrays_meant) (sym c.in-None.is) ∙ c.in_ok-command.ensures.exact)
