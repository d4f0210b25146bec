-- When a formula can't be written in a language: one of its names is a word of that language.
use Rattle.std.specs.Prelude.{ℕ, List, Bool, false, ◌||◌}
use Rattle.std.specs.List.{list_any}
use Rattle.ic_laws.specs.Tree.{Bound}
use Rattle.ic_laws.specs.declared.tree.NameMention.{NameMention}
use Rattle.ic_laws.specs.declared.tree.NameMention.TheVariants as names
use Rattle.ic_laws.specs.declared.tree.SheetMention.{SheetMention}
use Rattle.ic_laws.specs.declared.tree.Tree.{Tree-F, fold-Tree}
use Rattle.ic_laws.specs.declared.tree.Tree.TheOpen.{LetPair-F}
use Rattle.ic_laws.specs.declared.tree.Tree.TheOpen as one

-- the name that a word stands for: as it was typed, or the folded name of the definition that was found
abbrev pub mentioned_name : NameMention → List ℕ
mentioned_name (names.Var word) = word
mentioned_name (names.Name key) = key.name
mentioned_name (names.Dangling word) = word

-- one of these clashes
abbrev pub one_clashes : List Bool → Bool
one_clashes parts = list_any (λ part. part) parts

module _ (is_boolean is_function : List ℕ → Bool) where
  -- A node clashes where its word, or a variable that it binds, is a word for true or false, where the word that it calls
  -- is a function word, or where a part of it clashes.
  abbrev pub clashes_step : Tree-F SheetMention NameMention Bool Bool → Bool
  clashes_step (one.Word word) = is_boolean (mentioned_name word)
  clashes_step (one.Paren x) = x
  clashes_step (one.Prefix sign x) = x
  clashes_step (one.Percent x) = x
  clashes_step (one.Spill x) = x
  clashes_step (one.Binary sign a b) = a || b
  clashes_step (one.Fun number arguments) = one_clashes arguments
  clashes_step (one.Call word arguments) = is_function (mentioned_name word) || one_clashes arguments
  clashes_step (one.Let pairs body) = one_clashes pairs || body
  clashes_step (one.Lambda parameters body) = list_any is_boolean parameters || body
  clashes_step (one.Apply x arguments) = x || one_clashes arguments
  clashes_step kind = false

  -- a variable of LET clashes as a word does, or its value clashes
  abbrev pub pair_clashes : LetPair-F SheetMention NameMention Bool Bool → Bool
  pair_clashes pair = is_boolean pair.variable || pair.value

  -- a formula clashes with a language that has these words
  abbrev pub clashes_with : Bound → Bool
  clashes_with t = fold-Tree SheetMention NameMention Bool Bool clashes_step pair_clashes t
