-- How the mentions of a formula are bound: which sheet each sheet name means, which variable or definition each word;
-- and how a bound formula is spelled again.
use Rattle.std.specs.Prelude.{◌≡◌, ℕ, List, [], ◌∷◌, ◌++◌, map, Bool, Option, Some, None, if◌then◌else◌}
use Rattle.std.specs.List.{list_any}
use Rattle.ic_laws.specs.Name.{Agree, agrees}
use Rattle.ic_laws.specs.Parse.{Pair, pair_of}
use Rattle.ic_laws.specs.Scene.{found_local, found_name, found_sheet, definition_spelling, sheet_spelling}
use Rattle.ic_laws.specs.Tree.{Bound, Kind, Spelled}
use Rattle.ic_laws.specs.declared.scene.Scene.{Scene}
use Rattle.ic_laws.specs.declared.tree.LetPair.{LetPair, roll-LetPair}
use Rattle.ic_laws.specs.declared.tree.NameKey.{NameKey}
use Rattle.ic_laws.specs.declared.tree.NameMention.{NameMention}
use Rattle.ic_laws.specs.declared.tree.NameMention.TheVariants as names
use Rattle.ic_laws.specs.declared.tree.SheetMention.{SheetMention}
use Rattle.ic_laws.specs.declared.tree.SheetMention.TheVariants as sheets
use Rattle.ic_laws.specs.declared.tree.Tree.{Tree-F, roll-Tree, fold-Tree}
use Rattle.ic_laws.specs.declared.tree.Tree.TheOpen.{LetPair-F}
use Rattle.ic_laws.specs.declared.tree.Tree.TheOpen as one

-- words that agree are the same function
abbrev pub RespectsFolding : (List ℕ → Option ℕ) → Type 0
RespectsFolding english = (a b : List ℕ) → Agree a b → english a ≡ english b

-- the variables of LET and LAMBDA that are seen at a place, as they were typed
abbrev pub Binders : Type 0
Binders = List (List ℕ)

-- a word means a variable where one of its name is seen
abbrev pub is_bound_by : Binders → List ℕ → Bool
is_bound_by binders word = list_any (λ variable. agrees variable word) binders

-- a sheet that wasn't found is kept by the name that was typed
abbrev pub sheet_or_dangling : List ℕ → Option ℕ → SheetMention
sheet_or_dangling name (Some id) = sheets.Sheet id
sheet_or_dangling name None = sheets.Dangling name

-- a definition that wasn't found is kept by the word that was typed
abbrev pub name_or_dangling : List ℕ → Option NameKey → NameMention
name_or_dangling word (Some key) = names.Name key
name_or_dangling word None = names.Dangling word

-- A reference without a sheet name is to the formula's own sheet; a sheet name is the sheet that it finds, or dangles.
abbrev pub bound_sheet : Scene → Option (List ℕ) → SheetMention
bound_sheet scene None = sheets.Own
bound_sheet scene (Some name) = sheet_or_dangling name (found_sheet scene name)

-- A word is the variable that is seen there, else the definition that it finds, else it dangles.
abbrev pub bound_word : Scene → Option ℕ → Binders → List ℕ → NameMention
bound_word scene scope binders word = if is_bound_by binders word then names.Var word else name_or_dangling word (found_name scene scope word)

-- A word with its sheet is the definition that it finds among those that are local to that sheet, else it dangles.
abbrev pub bound_local : Scene → SheetMention → List ℕ → NameMention
bound_local scene (sheets.Sheet id) word = name_or_dangling word (found_local scene id word)
bound_local scene mention word = names.Dangling word

-- what a formula is bound to, by the variables that are seen where it stands
abbrev pub Binds : Type 0
Binds = Binders → Bound

-- a variable of LET, and what its value is bound to
pub record BindsPair : Type 0 where
  pub variable : List ℕ
  pub value : Binds

-- each argument sees what the whole call sees
abbrev pub all_bound : List Binds → Binders → List Bound
all_bound parts binders = map (λ part. part binders) parts

-- a variable of LET with its value, and both in a bound formula
abbrev pub BoundPair : Type 0
BoundPair = LetPair SheetMention NameMention

abbrev pub bound_pair_of : List ℕ → Bound → BoundPair
bound_pair_of variable value = roll-LetPair SheetMention NameMention (record { variable = variable; value = value })

-- a variable of LET is seen in the values of later variables, not in its own
abbrev pub pairs_bound : List BindsPair → Binders → List BoundPair
pairs_bound [] binders = []
pairs_bound (pair ∷ pairs) binders = bound_pair_of pair.variable (pair.value binders) ∷ pairs_bound pairs (binders ++ pair.variable ∷ [])

-- the body of LET sees all its variables
abbrev pub with_variables : List BindsPair → Binders → Binders
with_variables pairs binders = binders ++ map (λ pair. pair.variable) pairs

-- the body of LAMBDA sees its parameters
abbrev pub with_parameters : List (List ℕ) → Binders → Binders
with_parameters parameters binders = binders ++ parameters

module _ (english : List ℕ → Option ℕ) (scene : Scene) (scope : Option ℕ) where
  -- a called word that is an English function word is a call of that function, whatever variables are seen
  abbrev pub bound_call : Option ℕ → List ℕ → List Binds → Binders → Kind SheetMention NameMention
  bound_call (Some number) word arguments binders = one.Fun number (all_bound arguments binders)
  bound_call None word arguments binders = one.Call (bound_word scene scope binders word) (all_bound arguments binders)

  -- one node of a formula, where these variables are seen
  abbrev pub bound_kind : Tree-F (Option (List ℕ)) (List ℕ) Binds BindsPair → Binders → Kind SheetMention NameMention
  bound_kind (one.Num units) binders = one.Num units
  bound_kind (one.Str text) binders = one.Str text
  bound_kind (one.Bool value) binders = one.Bool value
  bound_kind (one.Err error) binders = one.Err error
  bound_kind (one.Reference sheet place) binders = one.Reference (bound_sheet scene sheet) place
  bound_kind (one.Local sheet word) binders = one.Local (bound_sheet scene sheet) (bound_local scene (bound_sheet scene sheet) word)
  bound_kind (one.Word word) binders = one.Word (bound_word scene scope binders word)
  bound_kind one.Empty binders = one.Empty
  bound_kind (one.Paren x) binders = one.Paren (x binders)
  bound_kind (one.Prefix sign x) binders = one.Prefix sign (x binders)
  bound_kind (one.Percent x) binders = one.Percent (x binders)
  bound_kind (one.Spill x) binders = one.Spill (x binders)
  bound_kind (one.Binary sign a b) binders = one.Binary sign (a binders) (b binders)
  bound_kind (one.Fun number arguments) binders = one.Fun number (all_bound arguments binders)
  bound_kind (one.Call word arguments) binders = bound_call (english word) word arguments binders
  bound_kind (one.Let pairs body) binders = one.Let (pairs_bound pairs binders) (body (with_variables pairs binders))
  bound_kind (one.Lambda parameters body) binders = one.Lambda parameters (body (with_parameters parameters binders))
  bound_kind (one.Apply x arguments) binders = one.Apply (x binders) (all_bound arguments binders)
  bound_kind (one.Array rows) binders = one.Array rows

  -- the same as a tree
  abbrev pub bound_step : Tree-F (Option (List ℕ)) (List ℕ) Binds BindsPair → Binds
  bound_step kind binders = roll-Tree SheetMention NameMention (bound_kind kind binders)

  abbrev pub bound_pair_step : LetPair-F (Option (List ℕ)) (List ℕ) Binds BindsPair → BindsPair
  bound_pair_step pair = record { variable = pair.variable; value = pair.value }

  -- a formula that stands where these variables are seen
  abbrev pub bound_under : Spelled → Binds
  bound_under t = fold-Tree (Option (List ℕ)) (List ℕ) Binds BindsPair bound_step bound_pair_step t

  -- A whole formula: at its top no variable is seen.
  abbrev pub bound : Spelled → Bound
  bound t = bound_under t []

  -- a variable of LET, and its value as it is bound
  abbrev pub pair_binds : Pair → BindsPair
  pair_binds pair = record { variable = pair.variable; value = bound_under pair.value }

-- A sheet is written by the text that its id has; what dangles is written as it was typed.
abbrev pub spelled_sheet : (ℕ → List ℕ) → SheetMention → Option (List ℕ)
spelled_sheet sheet_text sheets.Own = None
spelled_sheet sheet_text (sheets.Sheet id) = Some (sheet_text id)
spelled_sheet sheet_text (sheets.Dangling name) = Some name

-- A definition is written by the text that its key has; a variable and what dangles are written as they were typed.
abbrev pub spelled_word : (NameKey → List ℕ) → NameMention → List ℕ
spelled_word key_text (names.Var word) = word
spelled_word key_text (names.Name key) = key_text key
spelled_word key_text (names.Dangling word) = word

module _ (sheet_text : ℕ → List ℕ) (key_text : NameKey → List ℕ) where
  -- one node of a formula is written
  abbrev pub spelled_kind : Tree-F SheetMention NameMention Spelled Pair → Kind (Option (List ℕ)) (List ℕ)
  spelled_kind (one.Num units) = one.Num units
  spelled_kind (one.Str text) = one.Str text
  spelled_kind (one.Bool value) = one.Bool value
  spelled_kind (one.Err error) = one.Err error
  spelled_kind (one.Reference sheet place) = one.Reference (spelled_sheet sheet_text sheet) place
  spelled_kind (one.Local sheet word) = one.Local (spelled_sheet sheet_text sheet) (spelled_word key_text word)
  spelled_kind (one.Word word) = one.Word (spelled_word key_text word)
  spelled_kind one.Empty = one.Empty
  spelled_kind (one.Paren x) = one.Paren x
  spelled_kind (one.Prefix sign x) = one.Prefix sign x
  spelled_kind (one.Percent x) = one.Percent x
  spelled_kind (one.Spill x) = one.Spill x
  spelled_kind (one.Binary sign a b) = one.Binary sign a b
  spelled_kind (one.Fun number arguments) = one.Fun number arguments
  spelled_kind (one.Call word arguments) = one.Call (spelled_word key_text word) arguments
  spelled_kind (one.Let pairs body) = one.Let pairs body
  spelled_kind (one.Lambda parameters body) = one.Lambda parameters body
  spelled_kind (one.Apply x arguments) = one.Apply x arguments
  spelled_kind (one.Array rows) = one.Array rows

  -- the same as a tree
  abbrev pub spelled_step : Tree-F SheetMention NameMention Spelled Pair → Spelled
  spelled_step kind = roll-Tree (Option (List ℕ)) (List ℕ) (spelled_kind kind)

  abbrev pub spelled_pair_step : LetPair-F SheetMention NameMention Spelled Pair → Pair
  spelled_pair_step pair = pair_of pair.variable pair.value

  -- a formula whose sheets and definitions are written by these texts
  abbrev pub spelled_with : Bound → Spelled
  spelled_with t = fold-Tree SheetMention NameMention Spelled Pair spelled_step spelled_pair_step t

-- a formula with all that it mentions in its own spelling
abbrev pub spelled : Scene → Bound → Spelled
spelled scene t = spelled_with (sheet_spelling scene) (definition_spelling scene) t

-- a formula that stays the same when it is written out and bound again
abbrev pub IsSettled : (List ℕ → Option ℕ) → Scene → Option ℕ → Bound → Type 0
IsSettled english scene scope t = bound english scene scope (spelled scene t) ≡ t
