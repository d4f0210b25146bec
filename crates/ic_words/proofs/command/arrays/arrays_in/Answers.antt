use Rattle.std.proofs.Common.{ap, inl, inr, ◌∙◌}
use Rattle.std.proofs.lemmas.Result.{IfOk-weaker, on_err_weaker}
use Rattle.ic_tables.specs.Words.{error_words}
use Rattle.ic_machine.specs.Row.{joined}
use Rattle.ic_words.specs.Words.{copies_values, words_left}
use Rattle.ic_words.proofs.SubjectLemmas.{not_values, plain_named, spill_named, value_named}
use Rattle.ic_words.proofs.WordsLemmas.{always}
use Rattle.ic_words.proofs.command.arrays.arrays_in.Goals as goal

pub returns-in-put_formula_value-clause-exact : goal.returns-in-put_formula_value-clause-exact
returns-in-put_formula_value-clause-exact c =
    IfOk-weaker c.value_put.result _ _ (λ made e. e ∙ value_named (error_words c.args.english.now) (words_left c.args.rest) c.args.name.now c.in-put_formula_value.is) c.value_put.ensures

pub returns-in-put_formula_value-clause-memory : goal.returns-in-put_formula_value-clause-memory
returns-in-put_formula_value-clause-memory c = always _ (inr (ap copies_values c.in-put_formula_value.is))

pub returns-in-put_spill-clause-exact : goal.returns-in-put_spill-clause-exact
returns-in-put_spill-clause-exact c =
    IfOk-weaker c.spill_put.result _ _ (λ made e. e ∙ spill_named (error_words c.args.english.now) (words_left c.args.rest) c.args.name.now c.in-put_spill.is) c.spill_put.ensures

pub returns-in-put_spill-clause-memory : goal.returns-in-put_spill-clause-memory
returns-in-put_spill-clause-memory c = always _ (inr (ap copies_values c.in-put_spill.is))

pub returns-in_default-clause-exact : goal.returns-in_default-clause-exact
returns-in_default-clause-exact c =
    let other = not_values c.args.name.now c.in_default.not-put_formula_value c.in_default.not-put_spill in
    IfOk-weaker c.plain_arrays_in.result _ _ (λ made e. e ∙ ap joined (plain_named (error_words c.args.english.now) (words_left c.args.rest) c.args.name.now other)) (c.plain_arrays_in.ensures.exact other)

pub returns-in_default-clause-memory : goal.returns-in_default-clause-memory
returns-in_default-clause-memory c = on_err_weaker c.plain_arrays_in.result inl c.plain_arrays_in.ensures.memory
