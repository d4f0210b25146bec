-- A write leaves the same of books that are the same, where what is written is the same but for styles.
use Rattle.std.proofs.Common.{◌≡◌, ℕ, ℤ, List, [], ◌∷◌, ◌++◌, Bool, true, cond, Option, Some, None, Ok, refl, sym, ap, ap₂, subst, ◌∙◌}
use Rattle.std.specs.List.{slice_get}
use Rattle.std.specs.Prelude.{option_map}
use Rattle.ic_laws.specs.CoreBook.{CellPlace}
use Rattle.ic_laws.specs.Position.{is_column, is_row}
use Rattle.ic_cells.specs.declared.layout.Merge.{Merge}
use Rattle.ic_grid.specs.Arrays.{is_fixed_at}
use Rattle.ic_grid.specs.Merges.{is_covered}
use Rattle.ic_grid.specs.Contents.{Contents}
use Rattle.ic_grid.specs.Prepare.{written}
use Rattle.ic_machine.specs.Book.{Book, Grid, Sheet, found_or, style_number_at, unless, unless_refused}
use Rattle.ic_machine.specs.Content.{BoolContent, Content, NumContent, held}
use Rattle.ic_machine.specs.Refusal.{ArrayPart, Causes, InvalidSheet, MergedPart, Refusal, first_refusal}
use Rattle.ic_machine.specs.Reply.{Field}
use Rattle.ic_machine.specs.Same.{IsSameBook, IsSameGrid, IsSameSheet, unstyled}
use Rattle.ic_machine.specs.Styling.{Numbered, restyled}
use Rattle.ic_machine.specs.TranslationLaws.{LeavesSame}
use Rattle.ic_machine.specs.subjects.Writing.{Written, bool_step, number_step, place_causes, text_step, text_written, value_written, with_content, with_written, write_causes, write_step}
use Rattle.ic_machine.proofs.contents.AlikeGrid.{is_fixed_at_as, written_as}
use Rattle.ic_machine.proofs.contents.BareGrid.{bare, bared, seen_bare}
use Rattle.ic_machine.proofs.bound.InsertedBinds.{accepted}
use Rattle.ic_machine.proofs.same.SameLemmas.{contents_same}
use Rattle.ic_machine.proofs.same.SameSteps.{SameSteps, at_sheet_same, contents_back, refused_same, with_sheet_same}
use Rattle.ic_machine.proofs.valid.WritingSteps.{place_clear}
use Rattle.ic_machine.proofs.same.ZippedLemmas.{BothFound, zipped_found}
use Rattle.ic_laws.proofs.General.{clear_cause}

-- the same is written, in whatever style, and whatever that does to the style of the place
pub record WritesSame (w v : Written) : Type 0 where
  pub content : (m n : ℕ) → unstyled (w.content m) ≡ unstyled (v.content n)
  pub pool : w.pool ≡ v.pool

-- the causes of a place
pub causes_same : (s t : Sheet) → IsSameSheet s t → (place : CellPlace) → write_causes s place ≡ write_causes t place
causes_same s t same place =
    ap₂ (λ (covered fixed : Bool). let causes : Causes = (covered, MergedPart) ∷ (fixed, ArrayPart) ∷ [] in causes)
    (ap (λ (merges : List Merge). is_covered merges place) same.grid.merges)
    (sym (is_fixed_at_as unstyled held bare seen_bare s.grid.contents place)
    ∙ ap (λ (m : Contents Content). is_fixed_at bare m place) (contents_same s.grid t.grid same.grid)
    ∙ is_fixed_at_as unstyled held bare seen_bare t.grid.contents place)

written_same : (g h : Grid) → IsSameGrid g h → (place : CellPlace) (x y : Content) → unstyled x ≡ unstyled y
    → bared (written held place x g.contents) ≡ bared (written held place y h.contents)
written_same g h same place x y e =
    sym (written_as unstyled held bare seen_bare g.contents place x)
    ∙ ap₂ (λ (z : Content) (m : Contents Content). written bare place z m) e (contents_same g h same)
    ∙ written_as unstyled held bare seen_bare h.contents place y

pub sheet_written : (s t : Sheet) → IsSameSheet s t → (place : CellPlace) (w v : Written) → WritesSame w v → (m n : ℕ)
    → IsSameSheet (with_content place w.pool (w.content m) s) (with_content place v.pool (v.content n) t)
sheet_written s t same place w v writes m n = record {
  id = same.id;
  name = same.name;
  pool = writes.pool;
  grid = contents_back (written held place (w.content m) s.grid.contents) (written held place (v.content n) t.grid.contents)
      (written_same s.grid t.grid same.grid place (w.content m) (v.content n) (writes.content m n)) s.grid t.grid same.grid;
  tab = same.tab;
}

module _ (b c : Book) (same : IsSameBook b c) where
  pub book_written : (index : ℕ) (s t : Sheet) → IsSameSheet s t → (place : CellPlace) (w v : Written) → WritesSame w v
      → IsSameBook (with_written b index s place w) (with_written c index t place v)
  book_written index s t sheets place w v writes =
      let one : Numbered = restyled w.change (style_number_at s.grid place.0 place.1) b.styles in
      let other : Numbered = restyled v.change (style_number_at t.grid place.0 place.1) c.styles in
      with_sheet_same b c same index (with_content place w.pool (w.content one.number) s) (with_content place v.pool (v.content other.number) t) one.styles other.styles
      (sheet_written s t sheets place w v writes one.number other.number)

  -- one with the same causes of its text
  pub write_same : (index : ℕ) (place : CellPlace) (w v : Sheet → Written) (causes : Causes) → ((s t : Sheet) → IsSameSheet s t → WritesSame (w s) (v t))
      → SameSteps IsSameBook (write_step b index place w causes) (write_step c index place v causes)
  write_same index place w v causes writes =
      at_sheet_same b c same index _ _
      (λ s t e f sheets.
      refused_same IsSameBook _ _ _ _ [] [] (ap (λ (own : Causes). place_causes place ++ (own ++ causes)) (causes_same s t sheets place))
      (book_written index s t sheets place (w s) (v t) (writes s t sheets)))

  pub text_same : (index : ℕ) (place : CellPlace) (text : List ℕ) → SameSteps IsSameBook (text_step index place text b) (text_step index place text c)
  unfolding text_step
  text_same index place text =
      write_same index place (λ s. text_written b s text) (λ s. text_written c s text) []
      (λ s t sheets. record { content = λ m n. refl; pool = sheets.pool })

  pub bool_same : (index : ℕ) (place : CellPlace) (truth : Bool) → SameSteps IsSameBook (bool_step index place truth b) (bool_step index place truth c)
  unfolding bool_step
  bool_same index place truth =
      write_same index place (λ s. value_written s (λ style. BoolContent truth style)) (λ s. value_written s (λ style. BoolContent truth style)) []
      (λ s t sheets. record { content = λ m n. refl; pool = sheets.pool })

  pub number_same : (index : ℕ) (place : CellPlace) (amount : ℤ) → SameSteps IsSameBook (number_step index place amount b) (number_step index place amount c)
  unfolding number_step
  number_same index place amount =
      write_same index place (λ s. value_written s (λ style. NumContent amount style)) (λ s. value_written s (λ style. NumContent amount style)) []
      (λ s t sheets. record { content = λ m n. refl; pool = sheets.pool })

-- An accepted write, made once more in a book that is the same. ----

others_clear : (first others : Causes) → first_refusal (first ++ others) ≡ None → first_refusal others ≡ None
others_clear [] others e = e
others_clear (cause ∷ first) others e = others_clear first others (clear_cause cause.0 cause.1 (first_refusal (first ++ others)) e).1

pub both_clear : (first others more : Causes) → first_refusal (first ++ others) ≡ None → first_refusal more ≡ None → first_refusal (first ++ more) ≡ None
both_clear [] others more e h = h
both_clear (cause ∷ first) others more e h =
    let clear = clear_cause cause.0 cause.1 (first_refusal (first ++ others)) e in
    ap (λ (t : Bool). cond t (Some cause.1) (first_refusal (first ++ more))) clear.0 ∙ both_clear first others more clear.1 h

-- what is known where one is accepted: its place is one of the sheet, its own causes don't hold, and it leaves this
pub record IsWritten (b left : Book) (index : ℕ) (s : Sheet) (place : CellPlace) (w : Written) (own : Causes) : Type 0 where
  pub row : is_row place.0 ≡ true
  pub column : is_column place.1 ≡ true
  pub clear : first_refusal own ≡ None
  pub is : left ≡ with_written b index s place w

module _ (b c : Book) (same : IsSameBook b c) (index : ℕ) (place : CellPlace) (w v : Sheet → Written) (own also : Causes) (left : Book) (fields : List Field) where
  abbrev pub Again : Sheet → Sheet → Type 0
  Again s t = IsWritten b left index s place (w s) own → WritesSame (w s) (v t) × (first_refusal also ≡ None)

  found_again : (o p : Option Sheet) → BothFound IsSameSheet o p
      → found_or InvalidSheet (option_map (λ s. unless_refused (place_causes place ++ (write_causes s place ++ own)) (with_written b index s place (w s)) []) o) ≡ Ok (left, fields)
      → ((s t : Sheet) → o ≡ Some s → p ≡ Some t → IsSameSheet s t → Again s t)
      → LeavesSame left (found_or InvalidSheet (option_map (λ t. unless_refused (place_causes place ++ (write_causes t place ++ also)) (with_written c index t place (v t)) []) p))
  found_again None p both e again = absurd (cc)
  found_again (Some s) None both e again = absurd both
  found_again (Some s) (Some t) both e again =
      let done = accepted (first_refusal (place_causes place ++ (write_causes s place ++ own))) (with_written b index s place (w s)) left [] fields e in
      let of_sheet = others_clear (place_causes place) (write_causes s place ++ own) done.0 in
      let there = place_clear (is_row place.0) (is_column place.1) (write_causes s place ++ own) done.0 in
      let h = again s t refl refl both (record { row = there.0; column = there.1; clear = others_clear (write_causes s place) own of_sheet; is = done.1 }) in
      let clear : first_refusal (place_causes place ++ (write_causes t place ++ also)) ≡ None =
      subst (λ (causes : Causes). first_refusal (place_causes place ++ (causes ++ also)) ≡ None) (causes_same s t both place)
      (both_clear (place_causes place) (write_causes s place ++ own) (write_causes s place ++ also) done.0 (both_clear (write_causes s place) own also of_sheet h.1)) in (
        with_written c index t place (v t),
        (
          [],
          (
            ap (λ (o : Option Refusal). unless o (with_written c index t place (v t)) []) clear,
            subst (λ (x : Book). IsSameBook x (with_written c index t place (v t))) (sym done.1) (book_written b c same index s t both place (w s) (v t) h.0),
          ),
        ),
      )

  pub write_again : write_step b index place w own ≡ Ok (left, fields)
      → ((s t : Sheet) → slice_get b.sheets index ≡ Some s → slice_get c.sheets index ≡ Some t → IsSameSheet s t → Again s t)
      → LeavesSame left (write_step c index place v also)
  write_again e again = found_again (slice_get b.sheets index) (slice_get c.sheets index) (zipped_found IsSameSheet b.sheets c.sheets same.sheets index) e again
