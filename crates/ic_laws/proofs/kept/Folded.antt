-- What is folded stays when it is folded again.
use Rattle.std.proofs.Common.{◌≡◌, ℕ, Bool, true, false, ◌&&◌, List, [], ◌∷◌, ◌++◌, refl, sym, ap, ap₂, ◌∙◌}
use Rattle.std.proofs.lemmas.Bool.{and_parts}
use Rattle.std.specs.List.{list_all}
use Rattle.ucd_table.proofs.Computing.{tables}
use Rattle.ucd_table.proofs.Facts.{Tree, tree_of, tree_value, tree_value-tree_of}
use Rattle.ucd_table.proofs.RangedFacts.{Stepped-at_values, values_ok}
use Rattle.ucd_case.specs.CaseFolding.{full_folding, full_fold, or_itself}
use Rattle.ucd_case.proofs.CaseFoldingLemmas.{full_folding_stepped}
use Rattle.ic_laws.specs.Name.{fold}
use Rattle.ic_laws.proofs.FoldLaws.{fold-cons, fold-nil, fold_append}

abbrev is_unlisted : List ℕ → Bool
is_unlisted [] = true
is_unlisted (x ∷ xs) = false

abbrev folding_tree : Tree (List ℕ)
folding_tree = tree_of full_folding full_folding_stepped

-- each character of the table of foldings folds to itself
table_folded : (c : ℕ) → list_all (λ d. is_unlisted (tree_value [] folding_tree d)) (full_folding c) ≡ true
unfolding tables values_ok full_folding_stepped
table_folded c = Stepped-at_values full_folding full_folding_stepped (λ v. list_all (λ d. is_unlisted (tree_value [] folding_tree d)) v) refl c

same_table : full_folding ≡ tree_value [] folding_tree
unfolding full_folding_stepped
same_table = tree_value-tree_of full_folding full_folding_stepped

listed_folded : (c : ℕ) → list_all (λ d. is_unlisted (full_folding d)) (full_folding c) ≡ true
listed_folded c = ap (λ (f : ℕ → List ℕ). list_all (λ d. is_unlisted (f d)) (full_folding c)) same_table ∙ table_folded c

itself : (c : ℕ) (folding : List ℕ) → is_unlisted folding ≡ true → or_itself c folding ≡ c ∷ []
itself c [] h = refl
itself c (x ∷ xs) h = cc

-- a text of characters that fold to themselves
unlisted_stays : (text : List ℕ) → list_all (λ d. is_unlisted (full_folding d)) text ≡ true → fold text ≡ text
unlisted_stays [] h = fold-nil
unlisted_stays (d ∷ text) h =
    let parts = and_parts (is_unlisted (full_folding d)) (list_all (λ d. is_unlisted (full_folding d)) text) h in
    fold-cons d text ∙ ap₂ ◌++◌ (itself d (full_folding d) parts.0) (unlisted_stays text parts.1)

-- what one character folds to
one_again : (c : ℕ) → fold (full_fold c) ≡ full_fold c
one_again c = at (full_folding c) refl (listed_folded c)
  where
    at : (folding : List ℕ) → full_folding c ≡ folding → list_all (λ d. is_unlisted (full_folding d)) folding ≡ true → fold (or_itself c folding) ≡ or_itself c folding
    at [] e h = unlisted_stays (c ∷ []) (ap (λ v. is_unlisted v && true) e)
    at (x ∷ xs) e h = unlisted_stays (x ∷ xs) h

-- A text that is folded stays when it is folded again.
pub fold_again : (text : List ℕ) → fold (fold text) ≡ fold text
fold_again [] = ap fold fold-nil
fold_again (c ∷ cs) = ap fold (fold-cons c cs) ∙ (fold_append (full_fold c) (fold cs) ∙ (ap₂ ◌++◌ (one_again c) (fold_again cs) ∙ sym (fold-cons c cs)))
