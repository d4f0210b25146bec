-- What a model holds after a row or a column was given a style.
use Rattle.std.proofs.Common.{◌≡◌, ℕ, List, Bool, map, Some, None, refl, sym, ap, ap₂, subst, ◌∙◌}
use Rattle.std.specs.List.{slice_get}
use Rattle.std.specs.Prelude.{option_map}
use Rattle.std.proofs.lemmas.Option.{slice_get-map}
use Rattle.ic_laws.proofs.core.Lists.{updated_seen, updated_unseen}
use Rattle.ic_laws.specs.CoreStep.{updated_at}
use Rattle.ic_cells.specs.Style.{style_number, with_style_in}
use Rattle.ic_cells.specs.declared.style.Style.{Style}
use Rattle.ic_grid.specs.declared.grid.Grid.{Grid}
use Rattle.ic_machine.specs.Refusal.{first_refusal}
use Rattle.ic_sheets.specs.Sheet.{Sheet, sheet_of}
use Rattle.ic_sheets.specs.declared.sheet.Sheet.{Sheet as HeldSheet}
use Rattle.ic_parts.specs.Book.{IsValidBook, ModelState}
use Rattle.ic_book.specs.Inside.{IsHeld, held_state, with_sheets, with_styles}
use Rattle.ic_parts.specs.Styled.{line_causes, with_line_style}
use Rattle.ic_book.specs.declared.model.Model.TheInside.{Inside}
use Rattle.ic_parts.specs.declared.styled.Line.{Line}
use Rattle.ic_parts.proofs.PartLemmas.{updated_same}
use Rattle.ic_parts.proofs.StyleSetLemmas.{styled_valid, updated_as}
use Rattle.ic_parts.proofs.StyleSetLemmas.{styled_book}

-- of what a model keeps ----

module _ (inside : Inside) (h : IsHeld inside) (index : ℕ) (s : HeldSheet) (at : slice_get inside.contents.sheets index ≡ Some s) where
  abbrev ws : List HeldSheet
  ws = inside.contents.sheets

  abbrev its_state : ModelState
  its_state = held_state inside

  pub line_sheet : slice_get (held_state inside).book.sheets index ≡ Some (sheet_of s)
  line_sheet = slice_get-map sheet_of ws index ∙ ap (option_map sheet_of) at

  module _ (now : List HeldSheet) (after : Grid) (is : now ≡ updated_at (λ s. record s { grid = after }) index ws) (all : List Style) where
    abbrev then_state : ModelState
    then_state = held_state (with_styles all (with_sheets now inside))

    pub same_look_ups : (held_state (with_styles all (with_sheets now inside))).has_all ≡ (held_state inside).has_all
    same_look_ups = ap (map (λ (s : HeldSheet). s.pool.is_whole)) is ∙ updated_unseen (λ (s : HeldSheet). s.pool.is_whole) (λ s. record s { grid = after }) (λ s. refl) index ws

    -- memory ran out
    pub state_again : all ≡ inside.lists.styles → after ≡ s.grid → held_state (with_styles all (with_sheets now inside)) ≡ held_state inside
    state_again same unchanged =
        ap₂ (λ (st : List Style) (xs : List HeldSheet). held_state (with_styles st (with_sheets xs inside))) same
        (is ∙ updated_same (λ s. record s { grid = after }) index ws s at (ap (λ (g : Grid). let x : HeldSheet = record s { grid = g } in x) unchanged))

    pub state_held_again : all ≡ inside.lists.styles → after ≡ s.grid → IsHeld (with_styles all (with_sheets now inside))
    state_held_again same unchanged = subst (λ (m : ModelState). IsValidBook m.book) (sym (state_again same unchanged)) h

    module _ (line : Line) (style : Style) (n : ℕ) (styled : all ≡ with_style_in style inside.lists.styles) (numbered : n ≡ style_number style inside.lists.styles) (put : after ≡ with_line_style line n s.grid) where
      abbrev its_number : ℕ
      its_number = style_number style inside.lists.styles

      sheets_then : map sheet_of now ≡ updated_at (λ (b : Sheet). record b { grid = with_line_style line its_number b.grid }) index (map sheet_of ws)
      sheets_then =
          ap (map sheet_of)
          (is
          ∙ updated_as (λ s. record s { grid = after }) (λ s. record s { grid = with_line_style line its_number s.grid }) index ws s at
          (ap (λ (g : Grid). let x : HeldSheet = record s { grid = g } in x) (put ∙ ap (λ k. with_line_style line k s.grid) numbered)))
          ∙ updated_seen sheet_of (λ s. record s { grid = with_line_style line its_number s.grid }) (λ b. record b { grid = with_line_style line its_number b.grid }) (λ s. refl) index ws

      pub styled_state : held_state (with_styles all (with_sheets now inside)) ≡ record its_state { book = styled_book index line style its_state.book }
      styled_state =
          ap₂ (λ (sheets : List Sheet) (st : List Style). let m : ModelState = record { book = record its_state.book { sheets = sheets; styles = st }; has_all = then_state.has_all } in m) sheets_then styled
          ∙ ap (λ (had : List Bool). let m : ModelState = record { book = styled_book index line style its_state.book; has_all = had } in m) same_look_ups

      pub styled_held : first_refusal (line_causes line) ≡ None → IsHeld (with_styles all (with_sheets now inside))
      styled_held clear = subst (λ (m : ModelState). IsValidBook m.book) (sym styled_state) (styled_valid its_state.book h index line style (sheet_of s) line_sheet clear)
