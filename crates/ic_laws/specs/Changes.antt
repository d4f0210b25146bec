-- What a change of the sheets or the definitions does to formulas: which of their mentions it changes, and to what. Each
-- such change turns mentions of one kind into one mention, and leaves all others.
use Rattle.std.specs.Prelude.{◌≡◌, ℕ, List, Bool, true, false, ◌&&◌, ◌||◌, Option, Some, None, nat_eq, bytes_eq, if◌then◌else◌}
use Rattle.std.specs.List.{list_any}
use Rattle.ic_laws.specs.Binding.{bound_local, bound_sheet, name_or_dangling, spelled_sheet, spelled_word}
use Rattle.ic_laws.specs.Keeping.{kept_name, kept_sheet, same_keys}
use Rattle.ic_laws.specs.Mentions.{AllMentions, LocalMention, mapped, some_mention}
use Rattle.ic_laws.specs.Name.{agrees, fold}
use Rattle.ic_laws.specs.Scene.{definition_spelling, found_local, found_name, found_sheet, key_found, key_of, local_key, same_key, same_scope}
use Rattle.ic_laws.specs.Tree.{Bound}
use Rattle.ic_laws.specs.declared.scene.NameSpelling.{NameSpelling}
use Rattle.ic_laws.specs.declared.scene.Scene.{Scene}
use Rattle.ic_laws.specs.declared.tree.NameKey.{NameKey}
use Rattle.ic_laws.specs.declared.tree.NameMention.{NameMention}
use Rattle.ic_laws.specs.declared.tree.NameMention.TheVariants as names
use Rattle.ic_laws.specs.declared.tree.SheetMention.{SheetMention}
use Rattle.ic_laws.specs.declared.tree.SheetMention.TheVariants as sheets

-- what a mention becomes over a change: what its spelling finds in the scene after
abbrev pub sheet_after : Scene → Scene → SheetMention → SheetMention
sheet_after before after mention = bound_sheet after (spelled_sheet (kept_sheet before after) mention)

abbrev pub word_after : Scene → Scene → Option ℕ → NameMention → NameMention
word_after before after scope (names.Var word) = names.Var word
word_after before after scope (names.Name key) = name_or_dangling (kept_name before after same_keys key) (found_name after scope (kept_name before after same_keys key))
word_after before after scope (names.Dangling word) = name_or_dangling word (found_name after scope word)

-- a word with its sheet: the sheet first, then the word among what is local to that
abbrev pub local_after : Scene → Scene → SheetMention → NameMention → LocalMention
local_after before after sheet word =
    (sheet_after before after sheet, bound_local after (sheet_after before after sheet) (spelled_word (kept_name before after same_keys) word))

-- A mention holds in a scene: what was found is there and is found there, and nothing is found for what dangles.
abbrev pub SheetHolds : Scene → SheetMention → Type 0
SheetHolds scene sheets.Own = Unit {0}
SheetHolds scene (sheets.Sheet id) = list_any (λ sheet. nat_eq sheet.id id) scene.sheets ≡ true
SheetHolds scene (sheets.Dangling name) = found_sheet scene name ≡ None

abbrev pub WordHolds : Scene → Option ℕ → NameMention → Type 0
WordHolds scene scope (names.Var word) = Unit {0}
WordHolds scene scope (names.Name key) = key_found scene scope key.name ≡ Some key
WordHolds scene scope (names.Dangling word) = found_name scene scope word ≡ None

-- of a word with its sheet: nothing is found for it where the sheet dangles
abbrev pub LocalHolds : Scene → SheetMention → NameMention → Type 0
LocalHolds scene (sheets.Sheet id) (names.Name key) = local_key scene id key.name ≡ Some key
LocalHolds scene (sheets.Sheet id) (names.Dangling word) = found_local scene id word ≡ None
LocalHolds scene (sheets.Sheet id) mention = ⊥
LocalHolds scene sheet (names.Dangling word) = Unit {0}
LocalHolds scene sheet mention = ⊥

-- each mention of a formula holds
abbrev pub MentionsHold : Scene → Option ℕ → Bound → Type 0
MentionsHold scene scope t = AllMentions (SheetHolds scene) (WordHolds scene scope) (LocalHolds scene) t

-- the mentions that are changed, of sheets or of words, and what they become; words by the sheet that they are looked up
-- from. Where a sheet is that of a word, the word becomes another with it; a word with its sheet is changed by the sheet.
pub data Change : Type 0 where
  OfSheets : (is_changed : SheetMention → Bool) (to : SheetMention) (word_to : NameMention → NameMention) → Change
  OfWords : (is_changed : Option ℕ → NameMention → Bool) (to : NameMention) (is_local_changed : SheetMention → NameMention → Bool) (local_to : NameMention) → Change

-- the change can change this mention
abbrev pub changes_sheet : Change → SheetMention → Bool
changes_sheet (OfSheets is_changed to word_to) mention = is_changed mention
changes_sheet (OfWords is_changed to is_local_changed local_to) mention = false

abbrev pub changes_word : Change → Option ℕ → NameMention → Bool
changes_word (OfSheets is_changed to word_to) scope mention = false
changes_word (OfWords is_changed to is_local_changed local_to) scope mention = is_changed scope mention

-- or the word of this sheet, while the sheet stays
abbrev pub changes_local : Change → SheetMention → NameMention → Bool
changes_local (OfSheets is_changed to word_to) sheet mention = false
changes_local (OfWords is_changed to is_local_changed local_to) sheet mention = is_local_changed sheet mention

-- or some mention of a formula
abbrev pub changes_tree : Change → Option ℕ → Bound → Bool
changes_tree change scope t = some_mention (changes_sheet change) (changes_word change scope) (changes_local change) t

-- none of a formula's mentions is one that it can change
abbrev pub IsSpared : Change → Option ℕ → Bound → Type 0
IsSpared change scope t =
    AllMentions (λ mention. changes_sheet change mention ≡ false) (λ mention. changes_word change scope mention ≡ false) (λ sheet mention. changes_local change sheet mention ≡ false) t

-- what the change makes of a mention
abbrev pub changed_sheet : Change → SheetMention → SheetMention
changed_sheet (OfSheets is_changed to word_to) mention = if is_changed mention then to else mention
changed_sheet (OfWords is_changed to is_local_changed local_to) mention = mention

abbrev pub changed_word : Change → Option ℕ → NameMention → NameMention
changed_word (OfSheets is_changed to word_to) scope mention = mention
changed_word (OfWords is_changed to is_local_changed local_to) scope mention = if is_changed scope mention then to else mention

abbrev pub changed_local : Change → SheetMention → NameMention → LocalMention
changed_local (OfSheets is_changed to word_to) sheet mention = if is_changed sheet then (to, word_to mention) else (sheet, mention)
changed_local (OfWords is_changed to is_local_changed local_to) sheet mention = (sheet, if is_local_changed sheet mention then local_to else mention)

-- and of a formula
abbrev pub changed_tree : Change → Option ℕ → Bound → Bound
changed_tree change scope t = mapped (changed_sheet change) (changed_word change scope) (changed_local change) t

-- the four changes ----

-- it dangles by a name that agrees with this one
abbrev pub dangles_by : List ℕ → SheetMention → Bool
dangles_by name (sheets.Dangling typed) = agrees name typed
dangles_by name mention = false

-- none of a formula's mentions does
abbrev pub NoneDanglesBy : List ℕ → Bound → Type 0
NoneDanglesBy name t = AllMentions (λ mention. dangles_by name mention ≡ false) (λ mention. Unit {0}) (λ sheet mention. Unit {0}) t

-- what a word that dangled with its sheet means where that is this sheet
abbrev pub found_with_sheet : Scene → ℕ → NameMention → NameMention
found_with_sheet scene id (names.Dangling word) = name_or_dangling word (found_local scene id word)
found_with_sheet scene id mention = mention

-- A sheet, a new one or one that was there, gets a name: what dangled by an agreeing one means that sheet, and a word that
-- dangled with it means the definition of an agreeing name that is local to that sheet, where there is one.
abbrev pub sheet_named : Scene → ℕ → List ℕ → Change
sheet_named scene id name = OfSheets (dangles_by name) (sheets.Sheet id) (found_with_sheet scene id)

-- it means the sheet with this id
abbrev pub is_of_sheet : ℕ → SheetMention → Bool
is_of_sheet id (sheets.Sheet found) = nat_eq found id
is_of_sheet id mention = false

-- A sheet goes: what meant it dangles by its name, and a word with that sheet dangles with it.
abbrev pub sheet_gone : Scene → ℕ → List ℕ → Change
sheet_gone scene id name = OfSheets (is_of_sheet id) (sheets.Dangling name) (λ mention. names.Dangling (spelled_word (definition_spelling scene) mention))

-- In a formula whose words are looked up from this sheet, it could mean the definition with this key: a word that meant
-- nothing, where the definition is local to that sheet or to none; one that meant another definition, where it is local
-- to that sheet.
abbrev pub could_mean : NameKey → Option ℕ → NameMention → Bool
could_mean key scope (names.Var word) = false
could_mean key scope (names.Name found) = bytes_eq key.name found.name && same_scope key.scope scope
could_mean key scope (names.Dangling word) = bytes_eq key.name (fold word) && (same_scope key.scope scope || same_scope key.scope None)

-- so could a word with its sheet that meant nothing, where the definition is local to that sheet
abbrev pub could_mean_local : NameKey → SheetMention → NameMention → Bool
could_mean_local key (sheets.Sheet id) (names.Dangling word) = bytes_eq key.name (fold word) && same_scope key.scope (Some id)
could_mean_local key sheet mention = false

-- A definition comes: what could mean it does.
abbrev pub definition_added : NameSpelling → Change
definition_added definition =
    OfWords (could_mean (key_of definition)) (names.Name (key_of definition)) (could_mean_local (key_of definition)) (names.Name (key_of definition))

-- it means the definition with this key
abbrev pub is_of_name : NameKey → NameMention → Bool
is_of_name key (names.Name found) = same_key found key
is_of_name key mention = false

-- A definition goes: what meant it means the one of an agreeing name that is local to none, and dangles by its name where
-- there is no such one; a word with its sheet dangles in any case.
abbrev pub definition_gone : Scene → NameSpelling → Change
definition_gone after definition =
    OfWords (λ scope mention. is_of_name (key_of definition) mention) (name_or_dangling definition.name (found_name after None definition.name))
    (λ sheet mention. is_of_name (key_of definition) mention) (names.Dangling definition.name)
