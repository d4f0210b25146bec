-- Steps on things that are the same: both are refused, or both leave things that are the same. How such steps are made of
-- others.
use Rattle.std.proofs.Common.{◌≡◌, ℕ, List, Option, Some, None, Ok, Err, refl, sym, ap, subst, ◌∙◌}
use Rattle.std.specs.FinMap as finite
use Rattle.std.specs.List.{slice_get}
use Rattle.std.specs.Prelude.{option_map}
use Rattle.ic_laws.specs.Command as commands
use Rattle.ic_laws.specs.CoreBook.{CoreBook}
use Rattle.ic_laws.specs.CoreStep as core
use Rattle.ic_laws.specs.Refusal as refusals
use Rattle.ic_cells.specs.declared.style.Style.{Style}
use Rattle.ic_machine.specs.Alike.{seen_by}
use Rattle.ic_machine.specs.Book.{Book, Grid, Sheet, Stepped, Tab, as_core, at_sheet, found_or, on_grid, on_tab, put_in, unless, unless_refused, with_sheet}
use Rattle.ic_machine.specs.Content.{Content}
use Rattle.ic_machine.specs.Refusal.{Causes, InvalidSheet, Refusal, first_refusal}
use Rattle.ic_machine.specs.Reply.{Field}
use Rattle.ic_machine.specs.Same.{IsSameBook, IsSameGrid, IsSameSheet, unstyled}
use Rattle.ic_machine.specs.TranslationLaws.{LeavesSame}
use Rattle.ic_machine.specs.subjects.Arrays.{with_grid_contents}
use Rattle.ic_grid.specs.Contents.{Contents}
use Rattle.ic_machine.proofs.contents.AlikeGrid.{get-seen}
use Rattle.ic_machine.proofs.same.ZippedLemmas.{BothFound, zipped_found, zipped_updated}

abbrev pub SameSteps : {A : Type 0} → (A → A → Type 0) → Stepped A → Stepped A → Type 0
SameSteps R (Ok one) (Ok other) = R one.0 other.0
SameSteps R (Ok one) (Err refusal) = ⊥
SameSteps R (Err refusal) (Ok other) = ⊥
SameSteps R (Err refusal) (Err other) = Unit {0}

-- so where the one is accepted, the other is
pub leaves_same : (left : Book) (fields : List Field) (one other : Stepped Book) → one ≡ Ok (left, fields) → SameSteps IsSameBook one other → LeavesSame left other
leaves_same left fields (Ok done) (Ok other) e h =
    let pair : ◌≡◌ {A = Book × List Field} done (left, fields) = cc in
    (other.0, (other.1, (refl, subst (λ (b : Book). IsSameBook b other.0) (ap (λ (p : Book × List Field). p.0) pair) h)))
leaves_same left fields (Ok done) (Err refusal) e h = absurd h
leaves_same left fields (Err refusal) other e h = absurd (cc)

-- a step that one refusal refuses
pub unless_same : {A : Type 0} (R : A → A → Type 0) (o p : Option Refusal) (one other : A) (fields more : List Field) → o ≡ p → (o ≡ None → R one other)
    → SameSteps R (unless o one fields) (unless p other more)
unless_same R None None one other fields more e h = h refl
unless_same R None (Some refusal) one other fields more e h = absurd (cc)
unless_same R (Some refusal) None one other fields more e h = absurd (cc)
unless_same R (Some refusal) (Some also) one other fields more e h = tt

pub refused_same : {A : Type 0} (R : A → A → Type 0) (causes others : Causes) (one other : A) (fields more : List Field) → causes ≡ others → R one other
    → SameSteps R (unless_refused causes one fields) (unless_refused others other more)
refused_same R causes others one other fields more e h = unless_same R (first_refusal causes) (first_refusal others) one other fields more (ap first_refusal e) (λ clear. h)

-- one that the identity machine has, too
pub core_steps_same : (o p : Option refusals.Refusal) (now then : CoreBook) (fields more : List commands.Field) (one other : Book) → o ≡ p → IsSameBook one other
    → SameSteps IsSameBook (as_core (core.unless_refused o now fields) one) (as_core (core.unless_refused p then more) other)
core_steps_same None None now then fields more one other e h = h
core_steps_same None (Some refusal) now then fields more one other e h = absurd (cc)
core_steps_same (Some refusal) None now then fields more one other e h = absurd (cc)
core_steps_same (Some refusal) (Some also) now then fields more one other e h = tt

-- one on a part
pub put_same : {A B : Type 0} (R : A → A → Type 0) (S : B → B → Type 0) (f g : A → B) (one other : Stepped A) → ((x y : A) → R x y → S (f x) (g y)) → SameSteps R one other
    → SameSteps S (put_in f one) (put_in g other)
put_same R S f g (Ok one) (Ok other) h same = h one.0 other.0 same
put_same R S f g (Ok one) (Err refusal) h same = absurd same
put_same R S f g (Err refusal) (Ok other) h same = absurd same
put_same R S f g (Err refusal) (Err also) h same = tt

-- Sheets at an index. ----

found_same : (o p : Option Sheet) → BothFound IsSameSheet o p → (f g : Sheet → Stepped Book) → ((s t : Sheet) → o ≡ Some s → p ≡ Some t → IsSameSheet s t → SameSteps IsSameBook (f s) (g t))
    → SameSteps IsSameBook (found_or InvalidSheet (option_map f o)) (found_or InvalidSheet (option_map g p))
found_same None None same f g h = tt
found_same None (Some t) same f g h = absurd same
found_same (Some s) None same f g h = absurd same
found_same (Some s) (Some t) same f g h = h s t refl refl same

module _ (b c : Book) (same : IsSameBook b c) where
  pub at_sheet_same : (index : ℕ) (f g : Sheet → Stepped Book)
      → ((s t : Sheet) → slice_get b.sheets index ≡ Some s → slice_get c.sheets index ≡ Some t → IsSameSheet s t → SameSteps IsSameBook (f s) (g t))
      → SameSteps IsSameBook (at_sheet b index f) (at_sheet c index g)
  at_sheet_same index f g h = found_same (slice_get b.sheets index) (slice_get c.sheets index) (zipped_found IsSameSheet b.sheets c.sheets same.sheets index) f g h

  pub with_sheet_same : (index : ℕ) (s t : Sheet) (styles others : List Style) → IsSameSheet s t
      → IsSameBook (record (with_sheet b index s) { styles = styles }) (record (with_sheet c index t) { styles = others })
  with_sheet_same index s t styles others h = record {
    sheets = zipped_updated IsSameSheet (λ old. s) (λ old. t) (λ x y k. h) index b.sheets c.sheets same.sheets;
    definitions = same.definitions;
    zone = same.zone;
    theme = same.theme;
    name = same.name;
    metadata = same.metadata;
    tables = same.tables;
  }

  -- a step on the grid of a sheet, and one on its tab
  pub on_grid_same : (index : ℕ) (f : Grid → Stepped Grid) → ((g h : Grid) → IsSameGrid g h → SameSteps IsSameGrid (f g) (f h)) → SameSteps IsSameBook (on_grid b index f) (on_grid c index f)
  unfolding on_grid
  on_grid_same index f h =
      at_sheet_same index _ _
      (λ s t e g sheets.
      put_same IsSameSheet IsSameBook (with_sheet b index) (with_sheet c index) (put_in (λ (grid : Grid). let new : Sheet = record s { grid = grid } in new) (f s.grid))
      (put_in (λ (grid : Grid). let new : Sheet = record t { grid = grid } in new) (f t.grid)) (λ x y. with_sheet_same index x y b.styles c.styles)
      (put_same IsSameGrid IsSameSheet (λ (grid : Grid). let new : Sheet = record s { grid = grid } in new) (λ (grid : Grid). let new : Sheet = record t { grid = grid } in new) (f s.grid) (f t.grid)
      (λ x y grids. record { id = sheets.id; name = sheets.name; pool = sheets.pool; grid = grids; tab = sheets.tab }) (h s.grid t.grid sheets.grid)))

  pub on_tab_same : (index : ℕ) (f : Tab → Stepped Tab) → ((u : Tab) → SameSteps (◌≡◌ {A = Tab}) (f u) (f u)) → SameSteps IsSameBook (on_tab b index f) (on_tab c index f)
  unfolding on_tab
  on_tab_same index f h =
      at_sheet_same index _ _
      (λ s t e g sheets.
      put_same IsSameSheet IsSameBook (with_sheet b index) (with_sheet c index) (put_in (λ (tab : Tab). let new : Sheet = record s { tab = tab } in new) (f s.tab))
      (put_in (λ (tab : Tab). let new : Sheet = record t { tab = tab } in new) (f t.tab)) (λ x y. with_sheet_same index x y b.styles c.styles)
      (put_same (◌≡◌ {A = Tab}) IsSameSheet (λ (tab : Tab). let new : Sheet = record s { tab = tab } in new) (λ (tab : Tab). let new : Sheet = record t { tab = tab } in new) (f s.tab) (f t.tab)
      (λ x y tabs. record { id = sheets.id; name = sheets.name; pool = sheets.pool; grid = sheets.grid; tab = tabs })
      (subst (λ (u : Tab). SameSteps (◌≡◌ {A = Tab}) (f s.tab) (f u)) sheets.tab (h s.tab))))

-- grids with other contents
pub contents_back : (m n : Contents Content) → seen_by unstyled m ≡ seen_by unstyled n → (g h : Grid) → IsSameGrid g h → IsSameGrid (with_grid_contents g m) (with_grid_contents h n)
contents_back m n e g h same = record {
  contents = λ place. sym (get-seen unstyled m place) ∙ ap (λ (k : Contents Content). finite.get k place) e ∙ get-seen unstyled n place;
  rows = same.rows;
  columns = same.columns;
  merges = same.merges;
}
