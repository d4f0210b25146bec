-- What formulas mention, each thing told by a number, its topic.
use Rattle.std.specs.Prelude.{◌≡◌, ◌+◌, ◌*◌, ◌%◌, ◌^◌, ℕ, List, [], ◌∷◌, ◌++◌, Bool, false, Option, flat_map}
use Rattle.std.specs.List.{list_any}
use Rattle.ic_laws.specs.Changes.{Change}
use Rattle.ic_laws.specs.Name.{fold}
use Rattle.ic_laws.specs.Tree.{Bound}
use Rattle.ic_laws.specs.declared.tree.Formula.{Formula}
use Rattle.ic_laws.specs.declared.tree.Formula.TheVariants as formulas
use Rattle.ic_laws.specs.declared.tree.NameMention.{NameMention}
use Rattle.ic_laws.specs.declared.tree.NameMention.TheVariants as names
use Rattle.ic_laws.specs.declared.tree.SheetMention.{SheetMention}
use Rattle.ic_laws.specs.declared.tree.SheetMention.TheVariants as sheets
use Rattle.ic_laws.specs.declared.tree.Tree.{Tree-F, fold-Tree}
use Rattle.ic_laws.specs.declared.tree.Tree.TheOpen as one
use Rattle.ic_pool.specs.Mentions.{is_changed_by}
use Rattle.ic_pool.specs.Pool.{is_among}

-- a number below 2^40 with a character mixed in
unfoldable pub mixed : ℕ → ℕ → ℕ
mixed number c = (number * 1000003 + c) % 2 ^ 40

-- with the characters of a text, one after another
abbrev pub all_mixed : ℕ → List ℕ → ℕ
all_mixed number [] = number
all_mixed number (c ∷ cs) = all_mixed (mixed number c) cs

-- the topic of a sheet, by its id
abbrev pub sheet_topic : ℕ → ℕ
sheet_topic id = id

-- the topic of a folded name: past those of sheets. Some names share one.
abbrev pub folded_topic : List ℕ → ℕ
folded_topic name = 2 ^ 32 + all_mixed 0 name

-- the topic of a name, in whatever case it is written
abbrev pub name_topic : List ℕ → ℕ
name_topic name = folded_topic (fold name)

-- the topic of a reference's sheet, where that isn't the formula's own
abbrev pub sheet_topics : SheetMention → List ℕ
sheet_topics sheets.Own = []
sheet_topics (sheets.Sheet id) = sheet_topic id ∷ []
sheet_topics (sheets.Dangling name) = name_topic name ∷ []

-- the topic of a word, where it is no variable
abbrev pub word_topics : NameMention → List ℕ
word_topics (names.Var word) = []
word_topics (names.Name key) = folded_topic key.name ∷ []
word_topics (names.Dangling word) = name_topic word ∷ []

-- the topics of a node's mentions, and those below it
abbrev pub topics_step : Tree-F SheetMention NameMention (List ℕ) (List ℕ) → List ℕ
topics_step (one.Reference sheet place) = sheet_topics sheet
topics_step (one.Local sheet word) = sheet_topics sheet ++ word_topics word
topics_step (one.Word word) = word_topics word
topics_step (one.Paren x) = x
topics_step (one.Prefix sign x) = x
topics_step (one.Percent x) = x
topics_step (one.Spill x) = x
topics_step (one.Binary sign a b) = a ++ b
topics_step (one.Fun number arguments) = flat_map (λ topics. topics) arguments
topics_step (one.Call word arguments) = word_topics word ++ flat_map (λ topics. topics) arguments
topics_step (one.Let pairs body) = flat_map (λ topics. topics) pairs ++ body
topics_step (one.Lambda parameters body) = body
topics_step (one.Apply x arguments) = x ++ flat_map (λ topics. topics) arguments
topics_step kind = []

-- the topics of all mentions of a tree
abbrev pub tree_topics : Bound → List ℕ
tree_topics t = fold-Tree SheetMention NameMention (List ℕ) (List ℕ) topics_step (λ pair. pair.value) t

-- of a formula; a text that doesn't read mentions nothing
abbrev pub topics_in : Formula → List ℕ
topics_in (formulas.Tree t) = tree_topics t
topics_in (formulas.Raw text) = []

-- a formula mentions something with one of these topics
abbrev pub mentions_some : List ℕ → Formula → Bool
mentions_some topics formula = list_any (λ topic. is_among topic (topics_in formula)) topics

-- a change changes no formula that mentions nothing with one of these topics
abbrev pub SparesOthers : Change → List ℕ → Type 0
SparesOthers change topics = (scope : Option ℕ) (formula : Formula) → mentions_some topics formula ≡ false → is_changed_by change scope formula ≡ false
