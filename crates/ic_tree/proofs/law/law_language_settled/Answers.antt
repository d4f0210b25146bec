use Rattle.ic_laws.proofs.binding.Settled.{bound_is_settled}
use Rattle.ic_tree.proofs.BindLemmas.{functions_by_folding}
use Rattle.ic_tree.specs.LanguageWords.{function_of}
use Rattle.ic_tree.proofs.law.law_language_settled.Goals as goal

pub returns : goal.returns
returns c = λ l scene scope sheets t. bound_is_settled (function_of l) scene scope sheets (functions_by_folding l) t
