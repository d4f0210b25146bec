use Rattle.std.proofs.Common.{◌≡◌, map, take}
use Rattle.ic_tables.specs.LocaleWords.{locale_in}
use Rattle.ic_functions.proofs.places.locales_in.Given as goal

-- the locales so far
abbrev pub invariant-loop-words : goal.invariant-loop-words
invariant-loop-words l = l.locales.items ≡ map locale_in (take l.words-index l.places)
