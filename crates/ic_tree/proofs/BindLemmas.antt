-- Binding: function words are told by folding alone.
use Rattle.ic_laws.specs.Binding.{RespectsFolding}
use Rattle.ic_laws.specs.declared.dialect.WordKind.TheVariants as kinds
use Rattle.ic_tables.proofs.WordLemmas.{finds_alike}
use Rattle.ic_tables.specs.Words.{words_of}
use Rattle.ic_tables.specs.declared.language.Language.{Language}
use Rattle.ic_tree.specs.LanguageWords.{function_of}

-- words that agree are the same function of a language
pub functions_by_folding : (l : Language) → RespectsFolding (function_of l)
unfolding function_of
functions_by_folding l a b agreeing = finds_alike (words_of l kinds.Function) a b agreeing
