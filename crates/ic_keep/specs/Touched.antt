-- Which formulas an update of a definition can change: those that mention the definition, and those with a word that could
-- come to mean it, or no longer mean another one because of it.
use Rattle.std.specs.Prelude.{ℕ, List, Bool, false, ◌||◌, Option, bytes_eq}
use Rattle.ic_laws.specs.Binding.{IsSettled}
use Rattle.ic_laws.specs.Mentions.{some_mention}
use Rattle.ic_laws.specs.Name.{fold}
use Rattle.ic_laws.specs.Scene.{same_key}
use Rattle.ic_laws.specs.Tree.{Bound}
use Rattle.ic_laws.specs.declared.scene.Scene.{Scene}
use Rattle.ic_laws.specs.declared.tree.Formula.{Formula}
use Rattle.ic_laws.specs.declared.tree.Formula.TheVariants as formulas
use Rattle.ic_laws.specs.declared.tree.NameKey.{NameKey}
use Rattle.ic_laws.specs.declared.tree.NameMention.{NameMention}
use Rattle.ic_laws.specs.declared.tree.NameMention.TheVariants as names

-- a word means the definition with the old key, or has the name that the definition gets
abbrev pub touches_word : NameKey → NameKey → NameMention → Bool
touches_word old new (names.Var word) = false
touches_word old new (names.Name key) = same_key old key || bytes_eq new.name key.name
touches_word old new (names.Dangling word) = bytes_eq new.name (fold word)

-- so does some word of a formula, by itself or with its sheet
abbrev pub touches : NameKey → NameKey → Bound → Bool
touches old new t = some_mention (λ sheet. false) (touches_word old new) (λ sheet word. touches_word old new word) t

-- a text that doesn't read has no words
abbrev pub is_touched : NameKey → NameKey → Formula → Bool
is_touched old new (formulas.Tree t) = touches old new t
is_touched old new (formulas.Raw text) = false

-- a formula that stays the same when it is written out and bound again; so does a text that doesn't read
abbrev pub IsSettledFormula : (List ℕ → Option ℕ) → Scene → Option ℕ → Formula → Type 0
IsSettledFormula english scene scope (formulas.Tree t) = IsSettled english scene scope t
IsSettledFormula english scene scope (formulas.Raw text) = Unit {0}
