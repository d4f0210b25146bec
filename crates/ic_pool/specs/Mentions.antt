-- What a formula mentions.
use Rattle.std.specs.Prelude.{◌≡◌, ℕ, Bool, true, false, Option}
use Rattle.ic_laws.specs.BookTrees.{with_tree}
use Rattle.ic_laws.specs.Changes.{Change, changed_tree, changes_local, changes_sheet, changes_word}
use Rattle.ic_laws.specs.Mentions.{some_mention}
use Rattle.ic_laws.specs.declared.tree.Formula.{Formula}
use Rattle.ic_laws.specs.declared.tree.Formula.TheVariants as formulas
use Rattle.ic_laws.specs.declared.tree.NameMention.{NameMention}
use Rattle.ic_laws.specs.declared.tree.NameMention.TheVariants as names
use Rattle.ic_laws.specs.declared.tree.SheetMention.{SheetMention}
use Rattle.ic_laws.specs.declared.tree.SheetMention.TheVariants as sheets

-- the sheet that a reference names wasn't found
abbrev pub is_dangling : SheetMention → Bool
is_dangling (sheets.Dangling name) = true
is_dangling mention = false

-- what a word names wasn't found
abbrev pub is_dangling_word : NameMention → Bool
is_dangling_word (names.Dangling word) = true
is_dangling_word mention = false

-- nor what a word with its sheet names; whether the sheet was found is asked of the sheet
abbrev pub is_dangling_local : SheetMention → NameMention → Bool
is_dangling_local sheet mention = is_dangling_word mention

-- Some mention of a formula passes a test. A text that doesn't read as a formula has no mentions.
abbrev pub some_in : (SheetMention → Bool) → (NameMention → Bool) → (SheetMention → NameMention → Bool) → Formula → Bool
some_in is_sheet is_word is_local (formulas.Tree t) = some_mention is_sheet is_word is_local t
some_in is_sheet is_word is_local (formulas.Raw text) = false

-- some mention of a formula found nothing
abbrev pub has_dangling : Formula → Bool
has_dangling formula = some_in is_dangling is_dangling_word is_dangling_local formula

-- some mention of a formula whose words are looked up from this sheet is one that a change changes
abbrev pub is_changed_by : Change → Option ℕ → Formula → Bool
is_changed_by change scope formula = some_in (changes_sheet change) (changes_word change scope) (changes_local change) formula

-- what a change does to a formula whose words are looked up from this sheet
abbrev pub formula_after : Change → Option ℕ → Formula → Formula
formula_after change scope formula = with_tree (changed_tree change scope) formula

-- a change changes no mention of a formula in which all was found
abbrev pub SparesFound : Change → Option ℕ → Type 0
SparesFound change scope = (formula : Formula) → has_dangling formula ≡ false → is_changed_by change scope formula ≡ false
