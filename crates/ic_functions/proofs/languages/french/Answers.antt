use Rattle.std.proofs.Common.{refl, sym, ◌∙◌}
use Rattle.std.specs.Str.{chars}
use Rattle.ic_tables.specs.LanguageWords.{language_in}
use Rattle.ic_tables.specs.Sample.{french_words}
use Rattle.ic_tables.specs.WordList.{words_in}
use Rattle.ic_functions.specs.All.{with_column}
use Rattle.ic_functions.proofs.languages.french.Goals as goal

-- there are two words of booleans and twelve of error values
pub unwrap-requires : goal.unwrap-requires
unfolding with_column language_in words_in chars
unwrap-requires c = rw c.in_ok-language.ensures refl

pub returns : goal.returns
unfolding with_column french_words language_in words_in chars
returns c = sym c.unwrap.ensures ∙ c.in_ok-language.ensures
