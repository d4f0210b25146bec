-- What is left of a book when one formula gets a value: only values differ.
use Rattle.std.proofs.Common.{◌≡◌, ℕ, zero, suc, List, [], ◌∷◌, ◌++◌, map, Bool, true, false, cond, Option, Some, None, Ok, Err, refl, sym, ap, ap₂, subst, ◌∙◌}
use mathlib.Core.Bool.{true≢false}
use Rattle.std.specs.FinMap as finite
use Rattle.std.specs.List.{slice_get}
use Rattle.std.specs.Prelude.{option_and_then, option_map}
use Rattle.ic_laws.specs.CoreBook as core
use Rattle.ic_laws.specs.CoreBook.{CellPlace, CoreBook}
use Rattle.ic_laws.specs.CoreStep.{updated_at}
use Rattle.ic_laws.specs.declared.tree.Formula.{Formula}
use Rattle.ic_cells.specs.declared.value.FormulaValue.{FormulaValue}
use Rattle.ic_grid.proofs.ContentsLemmas.{get-remade, same_contents}
use Rattle.ic_grid.specs.Block.{Place, same_place}
use Rattle.ic_grid.specs.Contents.{Contents}
use Rattle.ic_grid.specs.Value.{is_cse_anchor, shape_at, valued, valued_cell}
use Rattle.ic_machine.proofs.contents.AlikeGrid.{entries-seen, get-seen}
use Rattle.ic_machine.specs.Alike.{seen_by}
use Rattle.ic_machine.specs.Book.{Book, Entry, Grid, Sheet, Stepped, core_cells, core_entry, core_of, core_sheet, found_or, on_grid, put_in, unless, with_sheet}
use Rattle.ic_machine.specs.Content.{AnchorContent, BoolContent, Content, EmptyContent, ErrContent, FormulaContent, NumContent, SpillContent, TextContent, held}
use Rattle.ic_machine.specs.Refusal.{InvalidSheet, Refusal}
use Rattle.ic_machine.specs.Reply.{Field}
use Rattle.ic_machine.specs.subjects.Arrays.{PutFormulaValue, arrays_step, put_value_step, with_grid_contents}
use Rattle.ic_sums.specs.Evaluated.{OnlyValues, held_at, is_plain, unvalued, unvalued_sheet, without_values}
use Rattle.ic_machine.proofs.valid.ValidLemmas.{unseen_put as unseen_there}

-- one content ----

-- a content that may come to stand in the place of another: that one, if it is plain, and with another value else
abbrev Follows : Content → Content → Type 0
Follows x y = (is_plain (Some x) ≡ true → y ≡ x) × (unvalued y ≡ unvalued x)

itself : (x : Content) → Follows x x
itself x = (λ plain. refl, refl)

unplain : (x y : Content) → is_plain (Some x) ≡ false → unvalued y ≡ unvalued x → Follows x y
unplain x y e same = (λ plain. absurd (true≢false (sym plain ∙ e)), same)

either : (t : Bool) (x y z : Content) → Follows x y → Follows x z → Follows x (cond t y z)
either true x y z f g = f
either false x y z f g = g

cell_follows : (cse : Bool) (value : FormulaValue) (a q : Place) (x : Content) → Follows x (valued_cell held cse value a q x)
cell_follows true value a q (EmptyContent style) = either (same_place q a) (EmptyContent style) _ _ (itself _) (itself _)
cell_follows true value a q (BoolContent truth style) = either (same_place q a) (BoolContent truth style) _ _ (itself _) (itself _)
cell_follows true value a q (NumContent amount style) = either (same_place q a) (NumContent amount style) _ _ (itself _) (itself _)
cell_follows true value a q (ErrContent e style) = either (same_place q a) (ErrContent e style) _ _ (itself _) (itself _)
cell_follows true value a q (TextContent text style) = either (same_place q a) (TextContent text style) _ _ (itself _) (itself _)
cell_follows true value a q (FormulaContent index old style) = either (same_place q a) (FormulaContent index old style) _ _ (unplain _ _ refl refl) (itself _)
cell_follows true value a q (AnchorContent index area kind old style) = either (same_place q a) (AnchorContent index area kind old style) _ _ (unplain _ _ refl refl) (itself _)
cell_follows true value a q (SpillContent b old style) =
    either (same_place q a) (SpillContent b old style) _ _ (itself _) (either (same_place a b) (SpillContent b old style) _ _ (unplain _ _ refl refl) (itself _))
cell_follows false value a q (EmptyContent style) = either (same_place q a) (EmptyContent style) _ _ (itself _) (itself _)
cell_follows false value a q (BoolContent truth style) = either (same_place q a) (BoolContent truth style) _ _ (itself _) (itself _)
cell_follows false value a q (NumContent amount style) = either (same_place q a) (NumContent amount style) _ _ (itself _) (itself _)
cell_follows false value a q (ErrContent e style) = either (same_place q a) (ErrContent e style) _ _ (itself _) (itself _)
cell_follows false value a q (TextContent text style) = either (same_place q a) (TextContent text style) _ _ (itself _) (itself _)
cell_follows false value a q (FormulaContent index old style) = either (same_place q a) (FormulaContent index old style) _ _ (unplain _ _ refl refl) (itself _)
cell_follows false value a q (AnchorContent index area kind old style) = either (same_place q a) (AnchorContent index area kind old style) _ _ (unplain _ _ refl refl) (itself _)
cell_follows false value a q (SpillContent b old style) =
    either (same_place q a) (SpillContent b old style) _ _ (itself _) (either (same_place a b) (SpillContent b old style) _ _ (unplain _ _ refl refl) (itself _))

-- the contents of a sheet ----

-- what stands at a place, where each content follows the one that stood there
follows_at : (g : Content → Content) → ((x : Content) → Follows x (g x)) → (o : Option Content) → is_plain o ≡ true → option_and_then (λ x. Some (g x)) o ≡ o
follows_at g f None plain = refl
follows_at g f (Some x) plain = ap (λ (y : Content). let some : Option Content = Some y in some) ((f x).0 plain)

unvalued_at : (g : Content → Content) → ((x : Content) → Follows x (g x)) → (o : Option Content) → option_map unvalued (option_and_then (λ x. Some (g x)) o) ≡ option_map unvalued o
unvalued_at g f None = refl
unvalued_at g f (Some x) = ap (λ (y : Content). let some : Option Content = Some y in some) (f x).1

module _ (a : Place) (value : FormulaValue) (m : Contents Content) where
  abbrev cse : Bool
  cse = is_cse_anchor (shape_at held m a)

  plain_stays : (q : Place) → is_plain (finite.get m q) ≡ true → finite.get (valued held a value m) q ≡ finite.get m q
  plain_stays q plain =
      get-remade (λ p x. Some (valued_cell held cse value a p x)) m q ∙ follows_at (valued_cell held cse value a q) (cell_follows cse value a q) (finite.get m q) plain

  same_unvalued : seen_by unvalued (valued held a value m) ≡ seen_by unvalued m
  same_unvalued =
      same_contents _ _ (λ q.
      get-seen unvalued (valued held a value m) q ∙ ap (option_map unvalued) (get-remade (λ p x. Some (valued_cell held cse value a p x)) m q)
      ∙ unvalued_at (valued_cell held cse value a q) (cell_follows cse value a q) (finite.get m q) ∙ sym (get-seen unvalued m q))

-- a sheet in the place of another ----

module _ {X Y : Type 0} (P : Option Y → Type 0) (f : X → Option Y) where
  -- what is found in one of them at a time, where one in the place of another gives the same
  found_there : (k i : ℕ) (xs : List X) (old new : X) → slice_get xs k ≡ Some old → (P (f old) → f new ≡ f old) → P (option_and_then f (slice_get xs i))
      → option_and_then f (slice_get (updated_at (λ x. new) k xs) i) ≡ option_and_then f (slice_get xs i)
  found_there k i [] old new e same p = refl
  found_there zero zero (x ∷ xs) old new e same p = let is : x ≡ old = cc in subst (λ y. P (f y) → f new ≡ f y) (sym is) same p
  found_there zero (suc i) (x ∷ xs) old new e same p = refl
  found_there (suc k) zero (x ∷ xs) old new e same p = refl
  found_there (suc k) (suc i) (x ∷ xs) old new e same p = found_there k i xs old new e same p

-- a book ----

pub only_itself : (b : Book) → OnlyValues b b
only_itself b = record { cells = λ index place plain. refl; rest = refl }

pub only_both : (b c d : Book) → OnlyValues b c → OnlyValues c d → OnlyValues b d
only_both b c d one other = record {
  cells = λ index place plain.
      let first : held_at c index place ≡ held_at b index place = one.cells index place plain in
      other.cells index place (ap is_plain first ∙ plain) ∙ first;
  rest = other.rest ∙ one.rest;
}

-- what a step leaves of a book, if it isn't refused
abbrev LeavesAll : Book → Stepped Book → Type 0
LeavesAll b (Ok done) = OnlyValues b done.0
LeavesAll b (Err refusal) = Unit {0}

module _ (b : Book) where
  with_contents : (index : ℕ) (s : Sheet) → slice_get b.sheets index ≡ Some s → (m : Contents Content)
      → ((q : Place) → is_plain (finite.get s.grid.contents q) ≡ true → finite.get m q ≡ finite.get s.grid.contents q) → seen_by unvalued m ≡ seen_by unvalued s.grid.contents
      → OnlyValues b (with_sheet b index (record s { grid = with_grid_contents s.grid m }))
  with_contents index s e m plain same = record {
    cells = λ i place p.
        found_there (λ o. is_plain o ≡ true) (λ (sheet : Sheet). finite.get sheet.grid.contents place) index i b.sheets s (record s { grid = with_grid_contents s.grid m }) e (plain place) p;
    rest =
        ap (λ (sheets : List Sheet). let book : Book = record b { sheets = sheets } in book)
        (unseen_there unvalued_sheet index b.sheets s (record s { grid = with_grid_contents s.grid m }) e
        (ap (λ (n : Contents Content). let sheet : Sheet = record s { grid = record s.grid { contents = n } } in sheet) same));
  }

  unless_leaves : (index : ℕ) (s : Sheet) (o : Option Refusal) (m : Contents Content) → OnlyValues b (with_sheet b index (record s { grid = with_grid_contents s.grid m }))
      → LeavesAll b (put_in (with_sheet b index) (put_in (λ (grid : Grid). let new : Sheet = record s { grid = grid } in new) (unless o (with_grid_contents s.grid m) [])))
  unless_leaves index s None m h = h
  unless_leaves index s (Some refusal) m h = tt

  at_leaves : (index : ℕ) (o : Option Sheet) → slice_get b.sheets index ≡ o → (f : Sheet → Stepped Book) → ((s : Sheet) → slice_get b.sheets index ≡ Some s → LeavesAll b (f s))
      → LeavesAll b (found_or InvalidSheet (option_map f o))
  at_leaves index None e f h = tt
  at_leaves index (Some s) e f h = h s e

  put_leaves : (index : ℕ) (a : Place) (value : FormulaValue) → LeavesAll b (arrays_step b (PutFormulaValue index a value))
  unfolding on_grid put_value_step
  put_leaves index a value =
      at_leaves index (slice_get b.sheets index) refl _ (λ s e.
      unless_leaves index s _ (valued held a value s.grid.contents)
      (with_contents index s e (valued held a value s.grid.contents) (plain_stays a value s.grid.contents) (same_unvalued a value s.grid.contents)))

  pub put_only : (index : ℕ) (a : Place) (value : FormulaValue) (after : Book) (fields : List Field) → arrays_step b (PutFormulaValue index a value) ≡ Ok (after, fields) → OnlyValues b after
  put_only index a value after fields e = subst (LeavesAll b) e (put_leaves index a value)

-- the core ----

abbrev bare : Entry → Entry
bare entry = (entry.0, unvalued entry.1)

entry_bare : (pool : List Formula) (place : CellPlace) (content : Content) → core_entry pool (place, unvalued content) ≡ core_entry pool (place, content)
entry_bare pool place (EmptyContent style) = refl
entry_bare pool place (BoolContent truth style) = refl
entry_bare pool place (NumContent amount style) = refl
entry_bare pool place (ErrContent e style) = refl
entry_bare pool place (TextContent text style) = refl
entry_bare pool place (FormulaContent index value style) = refl
entry_bare pool place (AnchorContent index area kind value style) = refl
entry_bare pool place (SpillContent anchor value style) = refl

cells_bare : (pool : List Formula) (entries : List Entry) → core_cells pool (map bare entries) ≡ core_cells pool entries
cells_bare pool [] = refl
cells_bare pool (e ∷ es) = ap₂ (λ (x y : core.Cells). x ++ y) (entry_bare pool e.0 e.1) (cells_bare pool es)

sheet_bare : (s : Sheet) → core_sheet (unvalued_sheet s) ≡ core_sheet s
sheet_bare s =
    ap (λ (cells : core.Cells). let sheet : core.Sheet = record { id = s.id; name = s.name; cells = cells } in sheet)
    (ap (core_cells s.pool) (entries-seen unvalued s.grid.contents) ∙ cells_bare s.pool (finite.entries s.grid.contents))

sheets_bare : (sheets : List Sheet) → map core_sheet (map unvalued_sheet sheets) ≡ map core_sheet sheets
sheets_bare [] = refl
sheets_bare (s ∷ sheets) = ap₂ (λ (x : core.Sheet) (xs : List core.Sheet). x ∷ xs) (sheet_bare s) (sheets_bare sheets)

core_bare : (b : Book) → core_of (without_values b) ≡ core_of b
core_bare b = ap (λ (sheets : List core.Sheet). let c : CoreBook = record (core_of b) { sheets = sheets } in c) (sheets_bare b.sheets)

pub only_core : (b c : Book) → OnlyValues b c → core_of c ≡ core_of b
only_core b c only = sym (core_bare c) ∙ ap core_of only.rest ∙ core_bare b
