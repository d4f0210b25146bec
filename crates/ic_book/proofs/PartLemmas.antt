-- What a change of a part of a sheet does to the model.
use Rattle.std.proofs.Common.{◌≡◌, ℕ, zero, suc, ◌≤◌, List, [], ◌∷◌, Bool, length, map, Some, None, Result, Ok, Err, option_map, refl, ap, ap₂, sym, subst, ◌∙◌}
use Rattle.std.specs.List.{slice_get}
use Rattle.std.proofs.lemmas.Option.{slice_get-map, slice_get_past}
use Rattle.ic_laws.proofs.core.Lists.{updated_seen}
use Rattle.ic_laws.specs.CoreStep.{updated_at}
use Rattle.ic_machine.specs.Book as machine
use Rattle.ic_machine.specs.Book.{Stepped, on_sheet, on_tab, put_in, with_sheet}
use Rattle.ic_machine.specs.Reply.{Field}
use Rattle.ic_machine.specs.Valid.{IsFrozen}
use Rattle.ic_sheets.specs.Sheet.{Sheet, sheet_of}
use Rattle.ic_sheets.specs.declared.sheet.Sheet.{Sheet as HeldSheet}
use Rattle.ic_sheets.specs.declared.tab.Tab.{Tab}
use Rattle.ic_parts.specs.Book.{Book, IsValidBook, ModelState}
use Rattle.ic_book.specs.declared.model.Model.TheInside.{Inside}
use Rattle.ic_book.specs.Inside.{IsHeld, held_state, with_sheets}
use Rattle.ic_parts.specs.Does.{DoesStep, DoesTab, PartMade, Refused, wants}
use Rattle.ic_parts.specs.Parts.{StaysFrozen}
use Rattle.ic_parts.specs.Refused.{refusal_of}
use Rattle.ic_parts.specs.Whole.{whole_of, whole_sheet, whole_tab}
use Rattle.ic_parts.specs.declared.error.BookError.{BookError}
use Rattle.ic_parts.specs.declared.error.BookError.TheVariants as errors
use Rattle.ic_parts.proofs.PartLemmas.{updated_same, whole_with_tab}
use Rattle.ic_parts.proofs.PartLemmas.{with_tab}
use Rattle.ic_parts.proofs.PartLemmas.{frozen_there, valid_with_tab}
use Rattle.ic_parts.proofs.PartLemmas.{found, missing}
use Rattle.ic_parts.proofs.PartLemmas.{refused_in}
use Rattle.ic_parts.proofs.PartLemmas.{part_refused}

-- a step on the tab is one on the sheet
abbrev tab_on : (machine.Tab → Stepped machine.Tab) → machine.Sheet → Stepped machine.Sheet
tab_on step sheet = put_in (λ tab. record sheet { tab = tab }) (step sheet.tab)

module _ (old : ModelState) (valid : IsValidBook old.book) (index : ℕ) {T : Type 0} (memory : Bool) (step : machine.Tab → Stepped machine.Tab) (fields : T → List Field) where
  pub tab_missing : slice_get old.book.sheets index ≡ None → DoesStep (wants memory) (on_tab (whole_of old.book) index step) fields (Err errors.InvalidSheet) old old
  unfolding on_tab
  tab_missing none = record { done = (missing old.book index (tab_on step) none, refl); before = valid; after = valid }

  module _ (sheet : Sheet) (is : slice_get old.book.sheets index ≡ Some sheet) (after : Tab) (frozen : IsFrozen (whole_tab after)) (new : ModelState) (becomes : new ≡ record old { book = with_tab index after old.book }) where
    abbrev whole : machine.Book
    whole = whole_of old.book

    its_step : on_sheet whole index (tab_on step) ≡ put_in (with_sheet whole index) (tab_on step (whole_sheet old.book.strings sheet))
    its_step = found old.book index (tab_on step) sheet is

    done_so : (r : Result T BookError) → PartMade whole_tab memory (step (whole_tab sheet.tab)) fields sheet.tab after r
        → DoesStep (wants memory) (on_tab whole index step) fields r old new
    unfolding on_tab
    done_so (Ok value) h = record {
      done =
          its_step ∙ ap (λ made. put_in (with_sheet whole index) (put_in (λ tab. record (whole_sheet old.book.strings sheet) { tab = tab }) made)) h
          ∙ ap (λ (b : machine.Book). let made : Stepped machine.Book = Ok (b, fields value) in made) (sym (ap (λ (m : ModelState). whole_of m.book) becomes ∙ whole_with_tab index after old.book valid sheet is));
      before = valid;
      after = subst (λ (m : ModelState). IsValidBook m.book) (sym becomes) (valid_with_tab index after old.book valid sheet is frozen);
    }
    done_so (Err e) h =
        let unchanged : with_tab index after old.book ≡ old.book =
        ap (λ (t : Tab). with_tab index t old.book) h.1
        ∙ ap (λ (sheets : List Sheet). let b : Book = record old.book { sheets = sheets } in b) (updated_same (λ s. record s { tab = sheet.tab }) index old.book.sheets sheet is refl) in
        let same : new ≡ old = becomes ∙ ap (λ (b : Book). let m : ModelState = record old { book = b } in m) unchanged in
        record {
          done =
              subst (λ made. Refused (wants memory) made old new (refusal_of e)) (sym its_step)
              (part_refused memory _ old new (refusal_of e) (refused_in (with_sheet whole index) memory _ (refusal_of e) (refused_in (λ tab. record (whole_sheet old.book.strings sheet) { tab = tab }) memory (step (whole_tab sheet.tab)) (refusal_of e) h.0)) same);
          before = valid;
          after = subst (λ (m : ModelState). IsValidBook m.book) (sym same) valid;
        }

    pub tab_does : (r : Result T BookError) → DoesTab memory step fields r sheet.tab after → DoesStep (wants memory) (on_tab whole index step) fields r old new
    tab_does r h = done_so r h.done

  -- the same of what only reads it
  pub tab_reads : (sheet : Sheet) → slice_get old.book.sheets index ≡ Some sheet → (r : Result T BookError) → DoesTab memory step fields r sheet.tab sheet.tab → DoesStep (wants memory) (on_tab (whole_of old.book) index step) fields r old old
  tab_reads sheet is r h =
      let same : updated_at (λ s. record s { tab = sheet.tab }) index old.book.sheets ≡ old.book.sheets = updated_same (λ s. record s { tab = sheet.tab }) index old.book.sheets sheet is refl in
      tab_does sheet is sheet.tab (frozen_there index sheet.tab old.book valid sheet is) old (ap (λ (sheets : List Sheet). let m : ModelState = record old { book = record old.book { sheets = sheets } } in m) (sym same)) r h

-- the same of a model's sheets ----

module _ (inside : Inside) (h : IsHeld inside) (index : ℕ) where
  abbrev ws : List HeldSheet
  ws = inside.contents.sheets

  abbrev its_state : ModelState
  its_state = held_state inside

  pub not_held : length ws ≤ index → slice_get its_state.book.sheets index ≡ None
  not_held past = slice_get-map sheet_of ws index ∙ ap (option_map sheet_of) (slice_get_past ws index past)

  pub in_state : (s : HeldSheet) → slice_get ws index ≡ Some s → slice_get its_state.book.sheets index ≡ Some (sheet_of s)
  in_state s at = slice_get-map sheet_of ws index ∙ ap (option_map sheet_of) at

  pub frozen_in : (s : HeldSheet) → slice_get ws index ≡ Some s → IsFrozen (whole_tab s.tab)
  frozen_in s at = frozen_there index s.tab its_state.book h (sheet_of s) (in_state s at)

  module _ (now : List HeldSheet) (tab : Tab) (is : now ≡ updated_at (λ s. record s { tab = tab }) index ws) where
    pub tab_state : held_state (with_sheets now inside) ≡ record its_state { book = with_tab index tab its_state.book }
    tab_state =
        ap₂ (λ (sheets : List Sheet) (all : List Bool). let m : ModelState = record { book = record its_state.book { sheets = sheets }; has_all = all } in m)
        (ap (map sheet_of) is ∙ updated_seen sheet_of (λ s. record s { tab = tab }) (λ s. record s { tab = tab }) (λ s. refl) index ws)
        (ap (map (λ (s : HeldSheet). s.pool.is_whole)) is ∙ look_ups_same index ws)
      where
        look_ups_same : (i : ℕ) (xs : List HeldSheet) → map (λ (s : HeldSheet). s.pool.is_whole) (updated_at (λ s. record s { tab = tab }) i xs) ≡ map (λ (s : HeldSheet). s.pool.is_whole) xs
        look_ups_same i [] = refl
        look_ups_same zero (s ∷ xs) = refl
        look_ups_same (suc i) (s ∷ xs) = ap (λ more. s.pool.is_whole ∷ more) (look_ups_same i xs)

    pub tab_held : (s : HeldSheet) → slice_get ws index ≡ Some s → StaysFrozen s.tab tab → IsHeld (with_sheets now inside)
    tab_held s at stays = subst (λ (m : ModelState). IsValidBook m.book) (sym tab_state) (valid_with_tab index tab its_state.book h (sheet_of s) (in_state s at) (stays (frozen_in s at)))
