use Rattle.std.proofs.Common.{◌≡◌, true, take}
use Rattle.std.specs.List.{list_all}
use Rattle.ic_tables.specs.Words.{has_function_words}
use Rattle.ic_tables.proofs.conditions.have_function_words.Given as goal

-- the languages so far pass
abbrev pub invariant-loop-language : goal.invariant-loop-language
invariant-loop-language l = list_all has_function_words (take l.language-index l.languages) ≡ true
