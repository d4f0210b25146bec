-- Which words of a formula an update of a definition captures: a word that meant a definition before it, and doesn't mean
-- the same definition after it.
use Rattle.std.specs.Prelude.{List, [], ◌∷◌, ◌++◌, flat_map, Bool, false, not, ◌||◌, Option, Some, None}
use Rattle.std.specs.List.{list_any, zip}
use Rattle.ic_laws.specs.Changes.{is_of_name}
use Rattle.ic_laws.specs.Keeping.{KeyChange}
use Rattle.ic_laws.specs.Tree.{Bound}
use Rattle.ic_laws.specs.declared.tree.Formula.{Formula}
use Rattle.ic_laws.specs.declared.tree.Formula.TheVariants as formulas
use Rattle.ic_laws.specs.declared.tree.NameKey.{NameKey}
use Rattle.ic_laws.specs.declared.tree.NameMention.{NameMention}
use Rattle.ic_laws.specs.declared.tree.NameMention.TheVariants as names
use Rattle.ic_laws.specs.declared.tree.SheetMention.{SheetMention}
use Rattle.ic_laws.specs.declared.tree.Tree.{Tree-F, fold-Tree}
use Rattle.ic_laws.specs.declared.tree.Tree.TheOpen as one
use Rattle.ic_keep.specs.Alike.{arguments_here, first_of, kind_of, last_of, pairs_here, values_of, words_here}

-- the words of a formula from left to right, those with a sheet too; a function that is called stands as none, since a word
-- that is called can become a function
abbrev pub words_step : Tree-F SheetMention NameMention (List (Option NameMention)) (List (Option NameMention)) → List (Option NameMention)
words_step (one.Local sheet word) = Some word ∷ []
words_step (one.Word word) = Some word ∷ []
words_step (one.Paren x) = x
words_step (one.Prefix sign x) = x
words_step (one.Percent x) = x
words_step (one.Spill x) = x
words_step (one.Binary sign a b) = a ++ b
words_step (one.Fun number arguments) = None ∷ flat_map (λ x. x) arguments
words_step (one.Call word arguments) = Some word ∷ flat_map (λ x. x) arguments
words_step (one.Let pairs body) = flat_map (λ x. x) pairs ++ body
words_step (one.Lambda parameters body) = body
words_step (one.Apply x arguments) = x ++ flat_map (λ x. x) arguments
words_step kind = []

-- the same of a whole formula
abbrev pub words_in : Bound → List (Option NameMention)
words_in t = fold-Tree SheetMention NameMention (List (Option NameMention)) (List (Option NameMention)) words_step (λ pair. pair.value) t

-- a word means the definition with this key
abbrev pub means : NameKey → Option NameMention → Bool
means key None = false
means key (Some mention) = is_of_name key mention

-- what meant a definition doesn't mean the one of the key that this has then
abbrev pub is_captured : KeyChange → Option NameMention → Option NameMention → Bool
is_captured keys (Some (names.Name key)) after = not (means (keys key) after)
is_captured keys before after = false

-- so does some word of a formula, at its place
abbrev pub captured : KeyChange → Bound → Bound → Bool
captured keys before after = list_any (λ pair. is_captured keys pair.0 pair.1) (zip (words_in before) (words_in after))

-- the same of what is kept of a formula; a text that doesn't read has no words
abbrev pub captured_formula : KeyChange → Formula → Formula → Bool
captured_formula keys (formulas.Tree before) (formulas.Tree after) = captured keys before after
captured_formula keys before after = false

-- The same in one walk over two formulas that are alike ----

-- a part beside the one at its place, where there is one
abbrev pub part_captured : (Bound → Bool) → Option Bound → Bool
part_captured f None = false
part_captured f (Some u) = f u

-- some part beside the one at its place
abbrev pub some_captured : List (Bound → Bool) → List Bound → Bool
some_captured (f ∷ fs) (u ∷ us) = f u || some_captured fs us
some_captured fs us = false

-- the word of a node
abbrev pub first_word : List (Option NameMention) → Option NameMention
first_word [] = None
first_word (word ∷ words) = word

-- the word at the top of a formula
abbrev pub word_of : Bound → Option NameMention
word_of t = first_word (words_here (kind_of t))

module _ (keys : KeyChange) where
  -- one node beside another formula
  abbrev pub captured_step : Tree-F SheetMention NameMention (Bound → Bool) (Bound → Bool) → Bound → Bool
  captured_step (one.Local sheet word) u = is_captured keys (Some word) (word_of u)
  captured_step (one.Word word) u = is_captured keys (Some word) (word_of u)
  captured_step (one.Paren f) u = part_captured f (first_of u)
  captured_step (one.Prefix sign f) u = part_captured f (first_of u)
  captured_step (one.Percent f) u = part_captured f (first_of u)
  captured_step (one.Spill f) u = part_captured f (first_of u)
  captured_step (one.Binary sign f g) u = part_captured f (first_of u) || part_captured g (last_of u)
  captured_step (one.Fun number fs) u = some_captured fs (arguments_here (kind_of u))
  captured_step (one.Call word fs) u = is_captured keys (Some word) (word_of u) || some_captured fs (arguments_here (kind_of u))
  captured_step (one.Let fs g) u = some_captured fs (values_of (pairs_here (kind_of u))) || part_captured g (last_of u)
  captured_step (one.Lambda parameters g) u = part_captured g (last_of u)
  captured_step (one.Apply f fs) u = part_captured f (first_of u) || some_captured fs (arguments_here (kind_of u))
  captured_step kind u = false

  -- a whole formula beside another
  abbrev pub captured_beside : Bound → Bound → Bool
  captured_beside t = fold-Tree SheetMention NameMention (Bound → Bool) (Bound → Bool) captured_step (λ pair. pair.value) t
