use Rattle.std.proofs.Common.{[], ap, sym, ◌∙◌, option_map}
use Rattle.ic_words.specs.Words.{words_left}
use Rattle.ic_words.specs.declared.command.subject.Subject.TheVariants as subjects
use Rattle.ic_words.specs.subjects.Writing.{writing_meant}
use Rattle.ic_words.proofs.SubjectLemmas.{writing_first, of_told}
use Rattle.ic_words.proofs.command.subject.in_writing.Goals as goal

pub returns-in-Some-clause-exact : goal.returns-in-Some-clause-exact
returns-in-Some-clause-exact c =
    of_told [] c.args.name.now (words_left c.args.rest) subjects.Writing writing_first c.requires (λ none. none) (ap (option_map writing_meant) (sym c.in-Some.is) ∙ c.in_ok-command.ensures.exact)

pub returns-in-None-clause-exact : goal.returns-in-None-clause-exact
returns-in-None-clause-exact c =
    of_told [] c.args.name.now (words_left c.args.rest) subjects.Writing writing_first c.requires (λ none. none) (ap (option_map writing_meant) (sym c.in-None.is) ∙ c.in_ok-command.ensures.exact)
