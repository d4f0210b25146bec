use Rattle.std.proofs.Common.{◌≡◌, true, take}
use Rattle.std.specs.List.{list_all}
use Rattle.ic_tables.specs.Tables.{english, error_words_in}
use Rattle.ic_tables.specs.Words.{tells_errors}
use Rattle.ic_tables.proofs.conditions.tell_errors.Given as goal

-- the languages so far pass
abbrev pub invariant-loop-language : goal.invariant-loop-language
invariant-loop-language l =
    list_all (tells_errors (error_words_in (english l.languages))) (take l.language-index l.languages) ≡ true
