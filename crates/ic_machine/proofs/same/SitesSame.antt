-- What an update captures is the same in books that are the same.
use Rattle.std.proofs.Common.{◌≡◌, ℕ, List, [], ◌∷◌, ◌++◌, map, flat_map, Option, Some, None, refl, sym, ap, ap₂, ◌∙◌}
use Rattle.std.specs.FinMap as finite
use Rattle.std.specs.List.{AllZip, zip}
use Rattle.ic_laws.specs.CoreBook.{Definition}
use Rattle.ic_laws.specs.Keeping.{KeyChange}
use Rattle.ic_laws.specs.declared.tree.NameKey.{NameKey}
use Rattle.ic_grid.specs.Contents.{Contents}
use Rattle.ic_machine.specs.Alike.{seen_by}
use Rattle.ic_machine.specs.Book.{Book, Entry, Sheet}
use Rattle.ic_machine.specs.Capture.{captured_at, captured_body, captured_cells, captured_sites}
use Rattle.ic_machine.specs.Content.{AnchorContent, BoolContent, Content, EmptyContent, ErrContent, FormulaContent, NumContent, SpillContent, TextContent, formula_index}
use Rattle.ic_machine.specs.Refusal.{Site}
use Rattle.ic_machine.specs.Same.{IsSameBook, IsSameSheet, unstyled}
use Rattle.ic_machine.proofs.contents.AlikeGrid.{entries-seen}
use Rattle.ic_machine.proofs.same.SameLemmas.{contents_same}

index_bare : (x : Content) → formula_index (unstyled x) ≡ formula_index x
index_bare (EmptyContent style) = refl
index_bare (BoolContent truth style) = refl
index_bare (NumContent amount style) = refl
index_bare (ErrContent e style) = refl
index_bare (TextContent text style) = refl
index_bare (FormulaContent index value style) = refl
index_bare (AnchorContent index area kind value style) = refl
index_bare (SpillContent anchor value style) = refl

module _ (keys : KeyChange) where
  abbrev sites_of : Sheet → Sheet → List Entry → List Site
  sites_of before after entries = flat_map (λ (entry : Entry). captured_at keys before after entry.0 (formula_index entry.1)) entries

  entries_bare : (before after : Sheet) (entries : List Entry) → sites_of before after (map (λ (entry : Entry). let bare : Entry = (entry.0, unstyled entry.1) in bare) entries) ≡ sites_of before after entries
  entries_bare before after [] = refl
  entries_bare before after (e ∷ es) = ap₂ (λ (o : Option ℕ) (sites : List Site). captured_at keys before after e.0 o ++ sites) (index_bare e.1) (entries_bare before after es)

  contents_bare : (before after : Sheet) (m : Contents Content) → sites_of before after (finite.entries (seen_by unstyled m)) ≡ sites_of before after (finite.entries m)
  contents_bare before after m = ap (sites_of before after) (entries-seen unstyled m) ∙ entries_bare before after (finite.entries m)

  -- a place is told by the pools and the id
  at_same : (s t x y : Sheet) → IsSameSheet s t → IsSameSheet x y → (entries : List Entry) → sites_of s x entries ≡ sites_of t y entries
  at_same s t x y one other [] = refl
  at_same s t x y one other (e ∷ es) = ap₂ (λ (a b : List Site). a ++ b) (place_same (formula_index e.1)) (at_same s t x y one other es)
    where
      place_same : (o : Option ℕ) → captured_at keys s x e.0 o ≡ captured_at keys t y e.0 o
      place_same None = refl
      place_same (Some index) = λ i. captured_at keys (record s { pool = one.pool i; id = one.id i }) (record x { pool = other.pool i }) e.0 (Some index)

  cells_same : (s t x y : Sheet) → IsSameSheet s t → IsSameSheet x y → captured_cells keys (s, x) ≡ captured_cells keys (t, y)
  cells_same s t x y one other =
      sym (contents_bare s x s.grid.contents) ∙ ap (λ (m : Contents Content). sites_of s x (finite.entries m)) (contents_same s.grid t.grid one.grid) ∙ contents_bare s x t.grid.contents
      ∙ at_same s t x y one other (finite.entries t.grid.contents)

  sheets_same : (ss ts xs ys : List Sheet) → AllZip IsSameSheet ss ts → AllZip IsSameSheet xs ys → flat_map (captured_cells keys) (zip ss xs) ≡ flat_map (captured_cells keys) (zip ts ys)
  sheets_same [] [] xs ys one other = refl
  sheets_same [] (t ∷ ts) xs ys one other = absurd one
  sheets_same (s ∷ ss) [] xs ys one other = absurd one
  sheets_same (s ∷ ss) (t ∷ ts) [] [] one other = refl
  sheets_same (s ∷ ss) (t ∷ ts) [] (y ∷ ys) one other = absurd other
  sheets_same (s ∷ ss) (t ∷ ts) (x ∷ xs) [] one other = absurd other
  sheets_same (s ∷ ss) (t ∷ ts) (x ∷ xs) (y ∷ ys) one other = ap₂ (λ (a b : List Site). a ++ b) (cells_same s t x y one.0 other.0) (sheets_same ss ts xs ys one.1 other.1)

  pub sites_same : (updated : NameKey) (b c x y : Book) → IsSameBook b c → IsSameBook x y → captured_sites keys updated b x ≡ captured_sites keys updated c y
  sites_same updated b c x y one other =
      ap₂ (λ (cells bodies : List Site). cells ++ bodies) (sheets_same b.sheets c.sheets x.sheets y.sheets one.sheets other.sheets)
      (ap₂ (λ (before after : List Definition). flat_map (captured_body keys updated) (zip before after)) one.definitions other.definitions)
