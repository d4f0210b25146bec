-- What a change of a sheet's rows and columns does to the model.
use Rattle.std.proofs.Common.{◌≡◌, ℕ, zero, suc, List, [], ◌∷◌, Bool, map, Some, None, Result, Ok, Err, refl, ap, ap₂, sym, subst, ◌∙◌}
use Rattle.std.specs.List.{slice_get}
use Rattle.ic_laws.proofs.core.Lists.{updated_seen}
use Rattle.ic_laws.specs.CoreStep.{updated_at}
use Rattle.ic_grid.specs.declared.grid.Grid.{Grid}
use Rattle.ic_machine.specs.Book as machine
use Rattle.ic_machine.specs.Book.{Stepped, on_grid, on_sheet, put_in, with_sheet}
use Rattle.ic_machine.specs.Reply.{Field}
use Rattle.ic_sheets.specs.Sheet.{Sheet, sheet_of}
use Rattle.ic_sheets.specs.declared.sheet.Sheet.{Sheet as HeldSheet}
use Rattle.ic_parts.specs.Book.{Book, IsValidBook, ModelState, whole_grid}
use Rattle.ic_book.specs.declared.model.Model.TheInside.{Inside}
use Rattle.ic_book.specs.Inside.{IsHeld, held_state, with_sheets}
use Rattle.ic_parts.specs.Does.{DoesGrid, DoesStep, PartMade, Refused, wants}
use Rattle.ic_parts.specs.Parts.{StaysHeld, with_grid}
use Rattle.ic_parts.specs.Refused.{refusal_of}
use Rattle.ic_parts.specs.Whole.{whole_of, whole_sheet}
use Rattle.ic_parts.specs.declared.error.BookError.{BookError}
use Rattle.ic_parts.specs.declared.error.BookError.TheVariants as errors
use Rattle.ic_parts.proofs.PartLemmas.{found, missing, part_refused, refused_in, updated_same}
use Rattle.ic_book.proofs.PartLemmas.{in_state}
use Rattle.ic_parts.proofs.GridPartLemmas.{whole_with_grid}
use Rattle.ic_parts.proofs.GridPartLemmas.{same_held}

-- what is done to the grid of a sheet is done to the book ----

-- a step on the grid is one on the sheet
abbrev grid_on : (machine.Grid → Stepped machine.Grid) → machine.Sheet → Stepped machine.Sheet
grid_on step sheet = put_in (λ grid. record sheet { grid = grid }) (step sheet.grid)

module _ (old : ModelState) (valid : IsValidBook old.book) (index : ℕ) {T : Type 0} (memory : Bool) (step : machine.Grid → Stepped machine.Grid) (fields : T → List Field) where
  pub grid_missing : slice_get old.book.sheets index ≡ None → DoesStep (wants memory) (on_grid (whole_of old.book) index step) fields (Err errors.InvalidSheet) old old
  unfolding on_grid
  grid_missing none = record { done = (missing old.book index (grid_on step) none, refl); before = valid; after = valid }

  module _ (sheet : Sheet) (is : slice_get old.book.sheets index ≡ Some sheet) (after : Grid) (stays : StaysHeld sheet.grid after) (new : ModelState) (becomes : new ≡ record old { book = with_grid index after old.book }) where
    abbrev whole : machine.Book
    whole = whole_of old.book

    abbrev put : machine.Grid → machine.Sheet
    put grid = record (whole_sheet old.book.strings sheet) { grid = grid }

    abbrev made : Stepped machine.Grid
    made = step (whole_grid old.book.strings sheet.grid)

    its_step : on_sheet whole index (grid_on step) ≡ put_in (with_sheet whole index) (put_in put made)
    its_step = found old.book index (grid_on step) sheet is

    done_so : (r : Result T BookError) → PartMade (whole_grid old.book.strings) memory made fields sheet.grid after r → DoesStep (wants memory) (on_grid whole index step) fields r old new
    unfolding on_grid
    done_so (Ok value) h = record {
      done =
          its_step ∙ ap (λ made. put_in (with_sheet whole index) (put_in put made)) h
          ∙ ap (λ (b : machine.Book). let made : Stepped machine.Book = Ok (b, fields value) in made) (sym (ap (λ (m : ModelState). whole_of m.book) becomes ∙ whole_with_grid index after old.book valid sheet is));
      before = valid;
      after = subst (λ (m : ModelState). IsValidBook m.book) (sym becomes) (stays.valid old.book index sheet is refl valid);
    }
    done_so (Err e) h =
        let unchanged : with_grid index after old.book ≡ old.book =
        ap (λ (g : Grid). with_grid index g old.book) h.1
        ∙ ap (λ (sheets : List Sheet). let b : Book = record old.book { sheets = sheets } in b) (updated_same (λ s. record s { grid = sheet.grid }) index old.book.sheets sheet is refl) in
        let same : new ≡ old = becomes ∙ ap (λ (b : Book). let m : ModelState = record old { book = b } in m) unchanged in
        record {
          done =
              subst (λ made. Refused (wants memory) made old new (refusal_of e)) (sym its_step)
              (part_refused memory _ old new (refusal_of e) (refused_in (with_sheet whole index) memory _ (refusal_of e) (refused_in put memory made (refusal_of e) h.0)) same);
          before = valid;
          after = subst (λ (m : ModelState). IsValidBook m.book) (sym same) valid;
        }

    pub grid_does : (r : Result T BookError) → DoesGrid memory step fields r sheet.grid after → DoesStep (wants memory) (on_grid whole index step) fields r old new
    grid_does r h = done_so r (h.done old.book.strings)

  -- the same of what only reads it
  pub grid_reads : (sheet : Sheet) → slice_get old.book.sheets index ≡ Some sheet → (r : Result T BookError) → DoesGrid memory step fields r sheet.grid sheet.grid → DoesStep (wants memory) (on_grid (whole_of old.book) index step) fields r old old
  grid_reads sheet is r h =
      let same : updated_at (λ s. record s { grid = sheet.grid }) index old.book.sheets ≡ old.book.sheets = updated_same (λ s. record s { grid = sheet.grid }) index old.book.sheets sheet is refl in
      grid_does sheet is sheet.grid (same_held sheet.grid sheet.grid refl) old (ap (λ (sheets : List Sheet). let m : ModelState = record old { book = record old.book { sheets = sheets } } in m) (sym same)) r h

-- the same of a model's sheets ----

module _ (inside : Inside) (h : IsHeld inside) (index : ℕ) where
  abbrev ws : List HeldSheet
  ws = inside.contents.sheets

  abbrev its_state : ModelState
  its_state = held_state inside

  module _ (now : List HeldSheet) (grid : Grid) (is : now ≡ updated_at (λ s. record s { grid = grid }) index ws) where
    pub grid_state : held_state (with_sheets now inside) ≡ record its_state { book = with_grid index grid its_state.book }
    grid_state =
        ap₂ (λ (sheets : List Sheet) (all : List Bool). let m : ModelState = record { book = record its_state.book { sheets = sheets }; has_all = all } in m)
        (ap (map sheet_of) is ∙ updated_seen sheet_of (λ s. record s { grid = grid }) (λ s. record s { grid = grid }) (λ s. refl) index ws)
        (ap (map (λ (s : HeldSheet). s.pool.is_whole)) is ∙ look_ups_same index ws)
      where
        look_ups_same : (i : ℕ) (xs : List HeldSheet) → map (λ (s : HeldSheet). s.pool.is_whole) (updated_at (λ s. record s { grid = grid }) i xs) ≡ map (λ (s : HeldSheet). s.pool.is_whole) xs
        look_ups_same i [] = refl
        look_ups_same zero (s ∷ xs) = refl
        look_ups_same (suc i) (s ∷ xs) = ap (λ more. s.pool.is_whole ∷ more) (look_ups_same i xs)

    pub grid_held : (s : HeldSheet) → slice_get ws index ≡ Some s → StaysHeld s.grid grid → IsHeld (with_sheets now inside)
    grid_held s at stays = subst (λ (m : ModelState). IsValidBook m.book) (sym grid_state) (stays.valid its_state.book index (sheet_of s) (in_state inside h index s at) refl h)
