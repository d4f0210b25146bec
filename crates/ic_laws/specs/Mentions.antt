-- The mentions of a bound formula, all at once: a fact of each, a test that some pass, and a formula in which each is replaced.
use Rattle.std.specs.Prelude.{Bool, false, ◌||◌}
use Rattle.std.specs.List.{list_any}
use Rattle.ic_laws.specs.Binding.{BoundPair, bound_pair_of}
use Rattle.ic_laws.specs.Tree.{Bound, Kind}
use Rattle.ic_laws.specs.declared.tree.NameMention.{NameMention}
use Rattle.ic_laws.specs.declared.tree.SheetMention.{SheetMention}
use Rattle.ic_laws.specs.declared.tree.Tree.{Tree-F, roll-Tree, fold-Tree, every-Tree}
use Rattle.ic_laws.specs.declared.tree.Tree.TheOpen.{LetPair-F}
use Rattle.ic_laws.specs.declared.tree.Tree.TheOpen as one

-- a fact of the mention of a node, where it has one; of a word with its sheet one of the sheet, and one of both
abbrev pub OfMentions : (SheetMention → Type 0) → (NameMention → Type 0) → (SheetMention → NameMention → Type 0) → Kind SheetMention NameMention → Type 0
OfMentions P Q R (one.Reference sheet place) = P sheet
OfMentions P Q R (one.Local sheet word) = P sheet × R sheet word
OfMentions P Q R (one.Word word) = Q word
OfMentions P Q R (one.Call word arguments) = Q word
OfMentions P Q R kind = Unit {0}

-- a fact of each mention of a formula
abbrev pub AllMentions : (SheetMention → Type 0) → (NameMention → Type 0) → (SheetMention → NameMention → Type 0) → Bound → Type 0
AllMentions P Q R t = every-Tree SheetMention NameMention (OfMentions P Q R) (λ pair. Unit {0}) t

-- some mention of a formula passes a test
module _ (is_sheet : SheetMention → Bool) (is_word : NameMention → Bool) (is_local : SheetMention → NameMention → Bool) where
  abbrev pub some_step : Tree-F SheetMention NameMention Bool Bool → Bool
  some_step (one.Reference sheet place) = is_sheet sheet
  some_step (one.Local sheet word) = is_sheet sheet || is_local sheet word
  some_step (one.Word word) = is_word word
  some_step (one.Paren x) = x
  some_step (one.Prefix sign x) = x
  some_step (one.Percent x) = x
  some_step (one.Spill x) = x
  some_step (one.Binary sign a b) = a || b
  some_step (one.Fun number arguments) = list_any (λ b. b) arguments
  some_step (one.Call word arguments) = is_word word || list_any (λ b. b) arguments
  some_step (one.Let pairs body) = list_any (λ b. b) pairs || body
  some_step (one.Lambda parameters body) = body
  some_step (one.Apply x arguments) = x || list_any (λ b. b) arguments
  some_step kind = false

  abbrev pub some_mention : Bound → Bool
  some_mention t = fold-Tree SheetMention NameMention Bool Bool some_step (λ pair. pair.value) t

-- a word with its sheet, both as mentions
abbrev pub LocalMention : Type 0
LocalMention = SheetMention × NameMention

module _ (f : SheetMention → SheetMention) (g : NameMention → NameMention) (h : SheetMention → NameMention → LocalMention) where
  -- one node, with its mention replaced
  abbrev pub mapped_kind : Tree-F SheetMention NameMention Bound BoundPair → Kind SheetMention NameMention
  mapped_kind (one.Num units) = one.Num units
  mapped_kind (one.Str text) = one.Str text
  mapped_kind (one.Bool value) = one.Bool value
  mapped_kind (one.Err error) = one.Err error
  mapped_kind (one.Reference sheet place) = one.Reference (f sheet) place
  mapped_kind (one.Local sheet word) = one.Local (h sheet word).0 (h sheet word).1
  mapped_kind (one.Word word) = one.Word (g word)
  mapped_kind one.Empty = one.Empty
  mapped_kind (one.Paren x) = one.Paren x
  mapped_kind (one.Prefix sign x) = one.Prefix sign x
  mapped_kind (one.Percent x) = one.Percent x
  mapped_kind (one.Spill x) = one.Spill x
  mapped_kind (one.Binary sign a b) = one.Binary sign a b
  mapped_kind (one.Fun number arguments) = one.Fun number arguments
  mapped_kind (one.Call word arguments) = one.Call (g word) arguments
  mapped_kind (one.Let pairs body) = one.Let pairs body
  mapped_kind (one.Lambda parameters body) = one.Lambda parameters body
  mapped_kind (one.Apply x arguments) = one.Apply x arguments
  mapped_kind (one.Array rows) = one.Array rows

  -- the same as a tree
  abbrev pub mapped_step : Tree-F SheetMention NameMention Bound BoundPair → Bound
  mapped_step kind = roll-Tree SheetMention NameMention (mapped_kind kind)

  abbrev pub mapped_pair_step : LetPair-F SheetMention NameMention Bound BoundPair → BoundPair
  mapped_pair_step pair = bound_pair_of pair.variable pair.value

  -- a formula whose mentions are each replaced by what these functions say
  abbrev pub mapped : Bound → Bound
  mapped t = fold-Tree SheetMention NameMention Bound BoundPair mapped_step mapped_pair_step t
