-- The canonical text of a bound formula: that of the formula with all that it mentions in its own spelling.
use Rattle.std.specs.Prelude.{List, Option, ℕ}
use Rattle.ic_laws.specs.Binding.{spelled, spelled_sheet, spelled_word}
use Rattle.ic_laws.specs.Dialect.{DialectMeaning}
use Rattle.ic_laws.specs.Scene.{definition_spelling, sheet_spelling}
use Rattle.ic_laws.specs.Tree.{Bound}
use Rattle.ic_laws.specs.declared.scene.Scene.{Scene}
use Rattle.ic_laws.specs.declared.tree.NameMention.{NameMention}
use Rattle.ic_laws.specs.declared.tree.SheetMention.{SheetMention}
use Rattle.ic_tree.specs.Printed.{tree_text}

-- the text of a bound formula, in a scene
unfoldable pub bound_text : Scene → DialectMeaning → Bound → List ℕ
bound_text scene d t = tree_text d (spelled scene t)

-- the name of a sheet that is mentioned, if one is written, and the text of a word
abbrev pub sheet_in : Scene → SheetMention → Option (List ℕ)
sheet_in scene m = spelled_sheet (sheet_spelling scene) m

abbrev pub word_in : Scene → NameMention → List ℕ
word_in scene m = spelled_word (definition_spelling scene) m
