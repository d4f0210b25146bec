-- The canonical text of a formula is that of its top level, with the texts of what is below it in their places: of a
-- spelled tree, and of a bound one in a scene.
use Rattle.std.proofs.Common.{◌≡◌, ℕ, ◌+◌, List, [], ◌∷◌, ◌++◌, codes, map, refl, ap, ◌∙◌}
use Rattle.ic_laws.proofs.binding.Again.{BoundKind, bound_node, children_spelled, pair_spelled, spell, spelled-node}
use Rattle.ic_laws.specs.Binding.{BoundPair, spelled_kind}
use Rattle.ic_laws.specs.Dialect.{DialectMeaning, word_text}
use Rattle.ic_laws.specs.Scene.{definition_spelling, sheet_spelling}
use Rattle.ic_laws.specs.Tree.{Bound}
use Rattle.ic_laws.specs.declared.dialect.WordKind.TheVariants as kinds
use Rattle.ic_laws.specs.declared.scene.Scene.{Scene}
use Rattle.ic_laws.specs.declared.tree.Tree.TheOpen as one
use Rattle.ic_tree.specs.laws.PrintLaws.{level_text}
use Rattle.ic_tree.specs.BoundText.{bound_text, sheet_in, word_in}
use Rattle.ic_tree.specs.Printed.{IsByLevels, all_between, as_it_is, each_before, each_from, kind_text, pair_text, separator_before, tree_text, written_arguments, written_kind, written_pair}

-- texts of what is made of each part
each_from-map : {A B : Type 0} (c n : ℕ) (f : A → B) (text : B → List ℕ) (xs : List A) → each_from c n text (map f xs) ≡ each_from c n (λ x. text (f x)) xs
each_from-map c n f text [] = refl
each_from-map c n f text (x ∷ xs) = ap (λ t. separator_before c n ++ text (f x) ++ t) (each_from-map c (n + 1) f text xs)

each_before-map : {A B : Type 0} (c : ℕ) (f : A → B) (text : B → List ℕ) (xs : List A) → each_before c text (map f xs) ≡ each_before c (λ x. text (f x)) xs
each_before-map c f text [] = refl
each_before-map c f text (x ∷ xs) = ap (λ t. text (f x) ++ c ∷ t) (each_before-map c f text xs)

module _ (d : DialectMeaning) (s : Scene) where
  abbrev written : Bound → List ℕ
  written t = bound_text s d t

  arguments_spelled : (arguments : List Bound) → all_between d.list (tree_text d) (map (spell (sheet_spelling s) (definition_spelling s)) arguments) ≡ written_arguments d written arguments
  unfolding bound_text
  arguments_spelled arguments = each_from-map d.list 0 (spell (sheet_spelling s) (definition_spelling s)) (tree_text d) arguments

  pairs_spelled : (pairs : List BoundPair) → each_before d.list (pair_text d) (map (pair_spelled (sheet_spelling s) (definition_spelling s)) pairs) ≡ each_before d.list (written_pair d written) pairs
  unfolding bound_text
  pairs_spelled pairs = each_before-map d.list (pair_spelled (sheet_spelling s) (definition_spelling s)) (pair_text d) pairs

  level_spelled : (kind : BoundKind)
      → kind_text d (spelled_kind (sheet_spelling s) (definition_spelling s) (children_spelled (sheet_spelling s) (definition_spelling s) kind)) ≡ written_kind d written (sheet_in s) (word_in s) kind
  unfolding bound_text
  level_spelled (one.Num units) = refl
  level_spelled (one.Str text) = refl
  level_spelled (one.Bool value) = refl
  level_spelled (one.Err e) = refl
  level_spelled (one.Reference sheet place) = refl
  level_spelled (one.Local sheet word) = refl
  level_spelled (one.Word word) = refl
  level_spelled one.Empty = refl
  level_spelled (one.Paren x) = refl
  level_spelled (one.Prefix sign x) = refl
  level_spelled (one.Percent x) = refl
  level_spelled (one.Spill x) = refl
  level_spelled (one.Binary sign a b) = refl
  level_spelled (one.Fun number arguments) = ap (λ t. word_text d kinds.Function number ++ codes "(" ++ (t ++ codes ")")) (arguments_spelled arguments)
  level_spelled (one.Call word arguments) = ap (λ t. word_in s word ++ codes "(" ++ (t ++ codes ")")) (arguments_spelled arguments)
  level_spelled (one.Let pairs body) = ap (λ t. word_text d kinds.Function d.let_fn ++ codes "(" ++ t ++ (bound_text s d body ++ codes ")")) (pairs_spelled pairs)
  level_spelled (one.Lambda parameters body) = refl
  level_spelled (one.Apply x arguments) = ap (λ t. bound_text s d x ++ codes "(" ++ (t ++ codes ")")) (arguments_spelled arguments)
  level_spelled (one.Array rows) = refl

  level_bound : (kind : BoundKind) → bound_text s d (bound_node kind) ≡ written_kind d written (sheet_in s) (word_in s) kind
  unfolding bound_text
  level_bound kind =
      ap (tree_text d) (spelled-node (sheet_spelling s) (definition_spelling s) kind)
      ∙ level_text d (spelled_kind (sheet_spelling s) (definition_spelling s) (children_spelled (sheet_spelling s) (definition_spelling s) kind))
      ∙ level_spelled kind

-- a bound formula and a spelled tree are written by levels
pub bound_by_levels : (s : Scene) → IsByLevels (sheet_in s) (word_in s) (bound_text s)
bound_by_levels s = record { level = λ d kind. level_bound d s kind }

pub spelled_by_levels : IsByLevels as_it_is as_it_is tree_text
spelled_by_levels = record { level = λ d kind. level_text d kind }
