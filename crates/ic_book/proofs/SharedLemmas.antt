-- What a model holds after a value was written whose text may be new among the shared ones.
use Rattle.std.proofs.Common.{◌≡◌, ℕ, ℤ, List, [], ◌∷◌, length, map, Option, Some, None, option_map, unwrap_or, Ok, refl, sym, ap, ap₂, subst, ◌∙◌, arith}
use Rattle.std.specs.FinMap as finite
use Rattle.std.specs.List.{AllByRecursion}
use Rattle.ic_laws.specs.CoreBook.{CellPlace}
use Rattle.ic_laws.specs.CoreStep.{updated_at}
use Rattle.ic_cells.specs.declared.cell.Cell.{Cell}
use Rattle.ic_cells.specs.declared.cell.Cell.TheVariants as cells
use Rattle.ic_cells.specs.declared.style.Style.{Style}
use Rattle.ic_grid.proofs.ContentsLemmas.{same_contents}
use Rattle.ic_grid.specs.Contents.{Contents}
use Rattle.ic_machine.proofs.contents.AlikeGrid.{get-seen}
use Rattle.ic_machine.specs.Alike.{seen_by}
use Rattle.ic_machine.specs.Book as machine
use Rattle.ic_machine.specs.Content.{Content, TextContent, content_of}
use Rattle.ic_machine.specs.Styling.{restyled}
use Rattle.ic_machine.specs.Valid as valid_machine
use Rattle.ic_sheets.specs.Sheet.{Sheet, sheet_of, with_cell_in}
use Rattle.ic_sheets.specs.declared.sheet.Sheet.{Sheet as HeldSheet}
use Rattle.ic_parts.specs.Book.{HasString, HasStrings, whole_of, whole_sheet, whole_tab}
use Rattle.ic_parts.specs.Does.{DoesStep, Wanted}
use Rattle.ic_parts.specs.Fields.{no_fields}
use Rattle.ic_book.specs.Inside.{IsHeld, held, held_state, with_lists, with_sheets}
use Rattle.ic_parts.specs.Values.{IsAmountValue, IsLonger, Shows, put_step, value_cell, value_content, value_refusal, value_step, value_strings, with_put}
use Rattle.ic_parts.specs.declared.lists.Lists.{Lists}
use Rattle.ic_book.specs.declared.model.Model.TheInside.{Inside}
use Rattle.ic_parts.specs.declared.values.Value.{Value}
use Rattle.ic_book.proofs.ValueLemmas.{value_done, value_held, value_state}
use Rattle.ic_parts.proofs.SharedLemmas.{value_longer}
use Rattle.ic_parts.proofs.SharedLemmas.{value_is}
use Rattle.ic_parts.proofs.SharedLemmas.{content_is}

-- The whole book is seen by them as before. ----

module _ (old strings : List (List ℕ)) (more : IsLonger old strings) where
  content_same : (x : Cell) → HasString (length old) x → content_of strings x ≡ content_of old x
  content_same (cells.EmptyCell s) h = refl
  content_same (cells.BooleanCell v s) h = refl
  content_same (cells.NumberCell v s) h = refl
  content_same (cells.ErrorCell e s) h = refl
  content_same (cells.SharedString i s) h = ap (λ (o : Option (List ℕ)). TextContent (unwrap_or o []) s) (more.stays i h)
  content_same (cells.CellFormula f s v) h = refl
  content_same (cells.ArrayFormula kind f s r v) h = refl
  content_same (cells.SpillCell s a v) h = refl

  found_same : (o : Option Cell) → ((x : Cell) → o ≡ Some x → HasString (length old) x) → option_map (content_of strings) o ≡ option_map (content_of old) o
  found_same None h = refl
  found_same (Some x) h = ap (λ (c : Content). let o : Option Content = Some c in o) (content_same x (h x refl))

  contents_same : (m : Contents Cell) → ((place : CellPlace) (x : Cell) → finite.get m place ≡ Some x → HasString (length old) x) → seen_by (content_of strings) m ≡ seen_by (content_of old) m
  contents_same m has = same_contents _ _ (λ q. get-seen (content_of strings) m q ∙ found_same (finite.get m q) (has q) ∙ sym (get-seen (content_of old) m q))

  sheets_same : (sheets : List Sheet) → AllByRecursion (λ (s : Sheet). HasStrings (length old) s.grid) sheets → map (whole_sheet strings) sheets ≡ map (whole_sheet old) sheets
  sheets_same [] h = refl
  sheets_same (s ∷ sheets) h =
      ap₂ (λ (m : Contents Content) (rest : List machine.Sheet). let sheet : machine.Sheet = record { id = s.id; name = s.name; pool = s.pool; grid = record { contents = m; rows = s.grid.rows; columns = s.grid.columns; merges = s.grid.merged_cells }; tab = whole_tab s.tab } in sheet ∷ rest)
      (contents_same s.grid.cells h.0) (sheets_same sheets h.1)

  has_longer : (x : Cell) → HasString (length old) x → HasString (length strings) x
  has_longer (cells.EmptyCell s) h = tt
  has_longer (cells.BooleanCell v s) h = tt
  has_longer (cells.NumberCell v s) h = h
  has_longer (cells.ErrorCell e s) h = tt
  has_longer (cells.SharedString i s) h = let longer = more.longer in omega (arith, h, longer)
  has_longer (cells.CellFormula f s v) h = tt
  has_longer (cells.ArrayFormula kind f s r v) h = tt
  has_longer (cells.SpillCell s a v) h = tt

  all_longer : (sheets : List Sheet) → AllByRecursion (λ (s : Sheet). HasStrings (length old) s.grid) sheets → AllByRecursion (λ (s : Sheet). HasStrings (length strings) s.grid) sheets
  all_longer [] h = tt
  all_longer (s ∷ sheets) h = (λ place x e. has_longer x (h.0 place x e), all_longer sheets h.1)

module _ (inside : Inside) (h : IsHeld inside) where
  abbrev ws : List HeldSheet
  ws = inside.contents.sheets

  module _ (strings : List (List ℕ)) (more : IsLonger inside.lists.strings strings) where
    pub shared_whole : whole_of (held (with_lists (record inside.lists { strings = strings }) inside)) ≡ whole_of (held inside)
    shared_whole =
        ap (λ (sheets : List machine.Sheet). let b : machine.Book = record (whole_of (held inside)) { sheets = sheets } in b)
        (sheets_same inside.lists.strings strings more (map sheet_of ws) h.strings)

    pub shared_held : IsHeld (with_lists (record inside.lists { strings = strings }) inside)
    shared_held = record {
      whole = subst valid_machine.IsValidBook (sym shared_whole) h.whole;
      strings = all_longer inside.lists.strings strings more (map sheet_of ws) h.strings;
    }

  -- What a model holds where a value was put into a cell. ----

  module _ (index : ℕ) (row column : ℤ) (none : value_refusal (held inside) index row column ≡ None) (n : ℕ) (shows : Shows (held inside) index row column n) (value : Value) (change : Style → Style)
      (good : IsAmountValue value) (cell : Cell) (then : Lists) (now : List HeldSheet) (is_cell : cell ≡ value_cell inside.lists.strings value (restyled change n inside.lists.styles).number) (put_lists : then ≡ with_put value (restyled change n inside.lists.styles) inside.lists)
      (e : now ≡ updated_at (λ s. record s { grid = with_cell_in (row, column) cell s.grid }) index ws)
    where
      abbrev other : Lists
      other = record inside.lists { strings = value_strings value inside.lists.strings }

      put : now ≡ updated_at (λ s. record s { grid = with_cell_in (row, column) (value_cell inside.lists.strings value (restyled change n inside.lists.styles).number) s.grid }) index ws
      put = e ∙ ap (λ (x : Cell). updated_at (λ (s : HeldSheet). record s { grid = with_cell_in (row, column) x s.grid }) index ws) is_cell

      other_held : IsHeld (with_lists other inside)
      other_held = shared_held (value_strings value inside.lists.strings) (value_longer value inside.lists.strings)

      step_same : value_step (held (with_lists other inside)) index row column change (value_cell inside.lists.strings value) ≡ put_step (whole_of (held inside)) index row column change (value_content value)
      step_same =
          ap₂ (λ (b : machine.Book) (content : ℕ → Content). put_step b index row column change content) (shared_whole (value_strings value inside.lists.strings) (value_longer value inside.lists.strings)) (content_is value inside.lists.strings)

      pub put_held : IsHeld (with_lists then (with_sheets now inside))
      put_held =
          subst (λ (a : Lists). IsHeld (with_lists a (with_sheets now inside))) (sym put_lists)
          (value_held (with_lists other inside) other_held index row column none n shows change (value_cell inside.lists.strings value) (restyled change n inside.lists.styles).number (restyled change n inside.lists.styles).styles now refl refl put (value_is value inside.lists.strings good))

      pub put_done : DoesStep Wanted (put_step (whole_of (held inside)) index row column change (value_content value)) no_fields (Ok tt) (held_state inside) (held_state (with_lists then (with_sheets now inside)))
      put_done =
          let d = value_done (with_lists other inside) other_held index row column none n shows change (value_cell inside.lists.strings value) (restyled change n inside.lists.styles).number (restyled change n inside.lists.styles).styles now refl refl put (value_is value inside.lists.strings good) in
          subst (λ (a : Lists). DoesStep Wanted (put_step (whole_of (held inside)) index row column change (value_content value)) no_fields (Ok tt) (held_state inside) (held_state (with_lists a (with_sheets now inside))))
          (sym put_lists) (record { done = sym step_same ∙ d.done; before = h; after = d.after })

      pub put_look_ups : map (λ (s : HeldSheet). s.pool.is_whole) now ≡ map (λ (s : HeldSheet). s.pool.is_whole) ws
      put_look_ups = ap (λ m. m.has_all) (value_state (with_lists other inside) other_held index row column none n shows change (value_cell inside.lists.strings value) (restyled change n inside.lists.styles).number (restyled change n inside.lists.styles).styles now refl refl put)

  -- Where nothing was added, or that was taken back, and the sheets stayed, a model is as it was. ----

  module _ (then : Lists) (now : List HeldSheet) (same_lists : then ≡ inside.lists) (same : now ≡ ws) where
    pub state_again : held_state (with_lists then (with_sheets now inside)) ≡ held_state inside
    state_again = ap₂ (λ (a : Lists) (ss : List HeldSheet). held_state (with_lists a (with_sheets ss inside))) same_lists same

    pub held_as_before : IsHeld (with_lists then (with_sheets now inside))
    held_as_before =
        subst (λ (ss : List HeldSheet). IsHeld (with_lists then (with_sheets ss inside))) (sym same)
        (subst (λ (a : Lists). IsHeld (with_lists a inside)) (sym same_lists) h)
