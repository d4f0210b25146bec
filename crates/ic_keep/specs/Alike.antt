-- When two formulas are alike, whatever they mention: node for node, one has a word where the other has one, and as many
-- parts. A function that is called stands for a word that is called; which sign or which brackets a node has isn't asked.
use Rattle.std.specs.Prelude.{◌≡◌, List, [], ◌∷◌, map, length, Bool, true, false, ◌&&◌, Option, Some, None, nat_eq}
use Rattle.ic_laws.specs.Binding.{BoundPair}
use Rattle.ic_laws.specs.Tree.{Bound, Kind}
use Rattle.ic_laws.specs.declared.tree.Formula.{Formula}
use Rattle.ic_laws.specs.declared.tree.Formula.TheVariants as formulas
use Rattle.ic_laws.specs.declared.tree.NameMention.{NameMention}
use Rattle.ic_laws.specs.declared.tree.SheetMention.{SheetMention}
use Rattle.ic_laws.specs.declared.tree.Tree.{Tree-F, fold-Tree, out-Tree}
use Rattle.ic_laws.specs.declared.tree.Tree.TheOpen as one

-- What a node is made of, from left to right: its word or its first part, the variables of LET, the arguments of a call, and
-- its last part.
module _ {A P : Type 0} where
  -- its word, in a list of one; a function that is called stands as none, since a word that is called can become a function
  abbrev pub words_here : Tree-F SheetMention NameMention A P → List (Option NameMention)
  words_here (one.Local sheet word) = Some word ∷ []
  words_here (one.Word word) = Some word ∷ []
  words_here (one.Fun number arguments) = None ∷ []
  words_here (one.Call word arguments) = Some word ∷ []
  words_here kind = []

  -- what stands in brackets, behind a sign or before one, and what is called
  abbrev pub first_part : Tree-F SheetMention NameMention A P → Option A
  first_part (one.Paren x) = Some x
  first_part (one.Prefix sign x) = Some x
  first_part (one.Percent x) = Some x
  first_part (one.Spill x) = Some x
  first_part (one.Binary sign a b) = Some a
  first_part (one.Apply x arguments) = Some x
  first_part kind = None

  -- the variables of LET with their values
  abbrev pub pairs_here : Tree-F SheetMention NameMention A P → List P
  pairs_here (one.Let pairs body) = pairs
  pairs_here kind = []

  -- the arguments of a call
  abbrev pub arguments_here : Tree-F SheetMention NameMention A P → List A
  arguments_here (one.Fun number arguments) = arguments
  arguments_here (one.Call word arguments) = arguments
  arguments_here (one.Apply x arguments) = arguments
  arguments_here kind = []

  -- what stands behind a sign between two, and the body of LET and LAMBDA
  abbrev pub last_part : Tree-F SheetMention NameMention A P → Option A
  last_part (one.Binary sign a b) = Some b
  last_part (one.Let pairs body) = Some body
  last_part (one.Lambda parameters body) = Some body
  last_part kind = None

-- the node at the top of a formula, with the formulas below it
abbrev pub kind_of : Bound → Kind SheetMention NameMention
kind_of t = out-Tree SheetMention NameMention t

-- its first part
abbrev pub first_of : Bound → Option Bound
first_of t = first_part (kind_of t)

-- the values of variables of LET
abbrev pub values_of : List BoundPair → List Bound
values_of pairs = map (λ pair. pair.value) pairs

-- the last part of a formula at its top
abbrev pub last_of : Bound → Option Bound
last_of t = last_part (kind_of t)

-- a part is there where the other is, and passes with it
abbrev pub part_alike : Option (Bound → Bool) → Option Bound → Bool
part_alike None None = true
part_alike (Some f) (Some u) = f u
part_alike f u = false

-- as many parts are there as others, and each passes with the one at its place
abbrev pub all_alike : List (Bound → Bool) → List Bound → Bool
all_alike [] [] = true
all_alike (f ∷ fs) (u ∷ us) = f u && all_alike fs us
all_alike fs us = false

-- one node beside another: each has a word, or neither has one; and their parts are alike
abbrev pub kinds_alike : Tree-F SheetMention NameMention (Bound → Bool) (Bound → Bool) → Kind SheetMention NameMention → Bool
kinds_alike kind other =
    nat_eq (length (words_here kind)) (length (words_here other))
    && (part_alike (first_part kind) (first_part other)
    && (all_alike (pairs_here kind) (values_of (pairs_here other))
    && (all_alike (arguments_here kind) (arguments_here other)
    && part_alike (last_part kind) (last_part other))))

-- the same beside a whole formula
abbrev pub alike_step : Tree-F SheetMention NameMention (Bound → Bool) (Bound → Bool) → Bound → Bool
alike_step kind u = kinds_alike kind (kind_of u)

-- the test that two formulas are alike
abbrev pub alike : Bound → Bound → Bool
alike t = fold-Tree SheetMention NameMention (Bound → Bool) (Bound → Bool) alike_step (λ pair. pair.value) t

-- two formulas are alike
abbrev pub AreAlike : Bound → Bound → Type 0
AreAlike t u = alike t u ≡ true

-- so is what is kept of two formulas; nothing is asked where one is a text that doesn't read
abbrev pub AreAlikeFormulas : Formula → Formula → Type 0
AreAlikeFormulas (formulas.Tree t) (formulas.Tree u) = AreAlike t u
AreAlikeFormulas before after = Unit {0}
