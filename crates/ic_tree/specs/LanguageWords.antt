-- Which texts are words of a language: its functions, and its words for true and false.
use Rattle.std.specs.Prelude.{ℕ, List, Bool, Option}
use Rattle.std.specs.Option.{is_some}
use Rattle.ic_laws.specs.declared.dialect.WordKind.TheVariants as kinds
use Rattle.ic_tables.specs.declared.language.Language.{Language}
use Rattle.ic_tables.specs.Words.{first_agreeing, words_of}

-- the function that a text means in a language, by the first word that agrees
unfoldable pub function_of : Language → List ℕ → Option ℕ
function_of language text = first_agreeing (words_of language kinds.Function) text

-- 0 where a text agrees with the language's word for true, 1 where it does with the one for false
unfoldable pub boolean_of : Language → List ℕ → Option ℕ
boolean_of language text = first_agreeing (words_of language kinds.Boolean) text

-- a text agrees with a function word of the language
abbrev pub is_function_word : Language → List ℕ → Bool
is_function_word language text = is_some (function_of language text)

-- a text agrees with the language's word for true or for false
abbrev pub is_boolean_word : Language → List ℕ → Bool
is_boolean_word language text = is_some (boolean_of language text)
