-- A formula that was only read: each sheet and each word dangles in it as it was typed. What its text spells.
use Rattle.std.specs.Prelude.{ℕ, List, [], Option, None, Some}
use Rattle.ic_laws.specs.Binding.{Binders, BindsPair, BoundPair, bound_pair_of, spelled_sheet, spelled_with, spelled_word}
use Rattle.ic_laws.specs.Parse.{Pair, pair_of}
use Rattle.ic_laws.specs.Tree.{Bound, Spelled}
use Rattle.ic_laws.specs.declared.tree.NameKey.{NameKey}
use Rattle.ic_laws.specs.declared.tree.NameMention.{NameMention}
use Rattle.ic_laws.specs.declared.tree.SheetMention.{SheetMention}
use Rattle.ic_laws.specs.declared.tree.SheetMention.TheVariants as sheets

-- no such formula has a sheet that was found
abbrev pub no_text : ℕ → List ℕ
no_text id = []

-- nor a definition that was found
abbrev pub own_name : NameKey → List ℕ
own_name key = key.name

-- a sheet as it was typed, none where the formula's own is meant
abbrev pub typed_sheet : SheetMention → Option (List ℕ)
typed_sheet sheet = spelled_sheet no_text sheet

-- a sheet that isn't found
abbrev pub dangling_sheet : Option (List ℕ) → SheetMention
dangling_sheet None = sheets.Own
dangling_sheet (Some name) = sheets.Dangling name

-- a word as it was typed
abbrev pub typed_word : NameMention → List ℕ
typed_word word = spelled_word own_name word

-- the formula as its text spells it
abbrev pub as_typed : Bound → Spelled
as_typed t = spelled_with no_text own_name t

-- a variable of LET with its value, both as they were typed
abbrev pub pair_as_typed : BoundPair → Pair
pair_as_typed pair = pair_of pair.variable (as_typed pair.value)

-- a variable of LET with its value, bound where these variables are seen
abbrev pub pair_bound : BindsPair → Binders → BoundPair
pair_bound pair binders = bound_pair_of pair.variable (pair.value binders)
