use Rattle.std.proofs.Common.{codes, refl, rules}
use Rattle.ic_machine.specs.subjects.Arrays.{array_rows}
use Rattle.ic_words.specs.Words.{words_left}
use Rattle.ic_words.proofs.SubjectLemmas.{other_than, unnamed}
use Rattle.ic_words.proofs.command.arrays.plain_arrays_in.Goals as goal

pub returns-in_default-clause-exact : goal.returns-in_default-clause-exact
returns-in_default-clause-exact c =
    λ other.
    let not_value = other_than c.args.name.now (codes "put_formula_value") refl other in
    let not_spill = other_than c.args.name.now (codes "put_spill") refl other in
    unnamed array_rows c.args.name.now (words_left c.args.rest) (search rules)
