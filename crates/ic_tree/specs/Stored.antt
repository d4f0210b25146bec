-- What the stored form means: English words, `,` and `.`, and references by distances.
use Rattle.std.specs.Prelude.{◌≡◌, [], true, length}
use Rattle.std.specs.List.{slice_get}
use Rattle.ic_laws.specs.Character.{comma, dot}
use Rattle.ic_laws.specs.Dialect.{DialectMeaning}
use Rattle.ic_refs.specs.Sheet.{reference_at}
use Rattle.ic_refs.specs.Stored.{is_stored_spellable, stored_place_at, stored_text}
use Rattle.ic_tables.specs.Words.{first_agreeing, has_boolean_words, has_error_words, has_function_words, numbers_functions, tells_booleans, tells_errors, words_of}
use Rattle.ic_tables.specs.declared.language.Language.{Language}

-- The stored form in a language: arguments stand between `,`, and `.` is the decimal separator; the words are those of
-- the language, and a text is the first word that it agrees with; references are in the stored form.
abbrev pub stored_meaning : Language → DialectMeaning
stored_meaning l = record {
  list = comma;
  decimal = dot;
  word = λ kind n. slice_get (words_of l kind) n;
  find = λ kind text. first_agreeing (words_of l kind) text;
  let_fn = l.functions.let_fn;
  lambda_fn = l.functions.lambda_fn;
  read_ref = reference_at stored_place_at;
  can_spell = is_stored_spellable;
  spell_ref = stored_text;
}

-- what is asked of a language's words: they are as many as its functions, look like words of their kind and can be told
-- apart
pub record SpeaksWell (l : Language) : Type 0 where
  pub numbers : numbers_functions (length l.functions.words) l ≡ true
  pub booleans : has_boolean_words l ≡ true
  pub booleans_told : tells_booleans l ≡ true
  pub functions : has_function_words l ≡ true
  pub errors : has_error_words l ≡ true
  pub errors_told : tells_errors [] l ≡ true
