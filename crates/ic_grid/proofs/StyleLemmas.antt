-- The numbers of the styles of places, and the styles that join others.
use Rattle.std.proofs.Common.{◌≡◌, ◌∙◌, refl, sym, ap, subst, ℕ, suc, ◌+◌, ◌<◌, ◌≤◌, Bool, true, false, cond, List, [], ◌∷◌, ◌++◌, length, Option, Some, None, is_some, append_assoc, append-nil, arith}
use Rattle.std.proofs.lemmas.List.{length-append}
use Rattle.std.specs.FinMap as finite
use Rattle.std.specs.Option.{option_and_then, option_map, unwrap_or}
use Rattle.ic_cells.specs.Cell.{style_of}
use Rattle.ic_cells.specs.Style as styling
use Rattle.ic_cells.specs.declared.cell.Cell.{Cell}
use Rattle.ic_cells.specs.declared.layout.ColumnProps.{ColumnProps}
use Rattle.ic_cells.specs.declared.layout.RowProps.{RowProps}
use Rattle.ic_cells.specs.declared.style.Style.{Style}
use Rattle.ic_grid.proofs.WalkLemmas.{by_side}
use Rattle.ic_grid.specs.Block.{Place}
use Rattle.ic_grid.specs.Conditions.{IsStyleNumber}
use Rattle.ic_grid.specs.Contents.{Contents}
use Rattle.ic_grid.specs.Shape.{celled}
use Rattle.ic_grid.specs.Spill.{unquoted}
use Rattle.ic_grid.specs.Style.{Columns, Rows, first_style, style_at}
use Rattle.ic_grid.specs.Whole.{IsStyled}
use Rattle.ic_grid.specs.Written.{StartWith, written_style_of}
use Rattle.ic_grid.specs.declared.grid.Grid.{Grid}

-- where cells of one style stand, a place shows one style
pub style_by : (rows : Rows) (columns : Columns) (n k : Contents Cell) (p : Place) → option_map style_of (finite.get n p) ≡ option_map style_of (finite.get k p) → style_at celled n rows columns p ≡ style_at celled k rows columns p
style_by rows columns n k p e = ap (λ o. first_style o (option_and_then (λ row. row.style) (finite.get rows p.0)) (option_and_then (λ column. column.style) (finite.get columns p.1))) e

-- styles that start with others, which start with others
pub start_more : (a b c : List Style) → StartWith b a → StartWith c b → StartWith c a
start_more a b c one two = (one.0 ++ two.0, two.1 ∙ ap (λ xs. xs ++ two.0) one.1 ∙ append_assoc a one.0 two.0)

pub start_same : (a b : List Style) → b ≡ a → StartWith b a
start_same a b e = ([], e ∙ sym (append-nil a))

pub start_longer : (a b : List Style) → StartWith b a → length a ≤ length b
start_longer a b s =
    let count : length b ≡ length a + length s.0 = ap length s.1 ∙ length-append a s.0 in
    omega (arith, count)

module _ (s : Style) where
  found_below : (ts : List Style) (at : ℕ) → styling.first_place s ts ≡ Some at → at < length ts
  found_below [] at e = cc
  found_below (t ∷ ts) at e = by_head (styling.is_style s t) (styling.first_place s ts) (found_below ts) e
    where
      by_head : (b : Bool) (o : Option ℕ) → ((k : ℕ) → o ≡ Some k → k < length ts) → cond b (Some 0) (option_map suc o) ≡ Some at → at < suc (length ts)
      by_head true o h e = let start : 0 ≡ at = cc in omega (arith, start)
      by_head false None h e = cc
      by_head false (Some k) h e =
          let next : suc k ≡ at = cc in
          let less = h k refl in
          omega (arith, next, less)

  -- the number that a style gets is below how many there are then, and those that there were come first
  number_below : (ts : List Style) → styling.style_number s ts < length (styling.with_style_in s ts)
  number_below ts = by_place (styling.first_place s ts) refl
    where
      by_place : (o : Option ℕ) → styling.first_place s ts ≡ o → styling.style_number s ts < length (styling.with_style_in s ts)
      by_place (Some at) e =
          let number : styling.style_number s ts ≡ at = ap (λ o. unwrap_or o (length ts)) e in
          let count : length (styling.with_style_in s ts) ≡ length ts = ap (λ o. length (cond (is_some o) ts (ts ++ s ∷ []))) e in
          let less = found_below ts at e in
          omega (arith, number, count, less)
      by_place None e =
          let number : styling.style_number s ts ≡ length ts = ap (λ o. unwrap_or o (length ts)) e in
          let count : length (styling.with_style_in s ts) ≡ length ts + 1 = ap (λ o. length (cond (is_some o) ts (ts ++ s ∷ []))) e ∙ length-append ts (s ∷ []) in
          omega (arith, number, count)

  number_more : (ts : List Style) → StartWith (styling.with_style_in s ts) ts
  number_more ts = by_place (styling.first_place s ts) refl
    where
      by_place : (o : Option ℕ) → styling.first_place s ts ≡ o → StartWith (styling.with_style_in s ts) ts
      by_place (Some at) e = start_same ts (styling.with_style_in s ts) (ap (λ o. cond (is_some o) ts (ts ++ s ∷ [])) e)
      by_place None e = (s ∷ [], ap (λ o. cond (is_some o) ts (ts ++ s ∷ [])) e)

module _ (styles : List Style) (s : ℕ) where
  abbrev pub plain : Style
  plain = styling.with_quote_prefix false (styling.style_at styles s)

  abbrev pub chosen : Bool → ℕ × List Style
  chosen flag = cond flag (styling.style_number plain styles, styling.with_style_in plain styles) (s, styles)

  pub flag_there : (styling.style_at styles s).quote_prefix ≡ true → unquoted styles s ≡ (styling.style_number plain styles, styling.with_style_in plain styles)
  flag_there t = ap chosen t

  pub no_flag : (styling.style_at styles s).quote_prefix ≡ false → unquoted styles s ≡ (s, styles)
  no_flag t = ap chosen t

  pub unquoted_below : s < length styles → (unquoted styles s).0 < length (unquoted styles s).1
  unquoted_below less =
      by_side (styling.style_at styles s).quote_prefix
      (λ t. subst (λ (p : ℕ × List Style). p.0 < length p.1) (sym (flag_there t)) (number_below plain styles))
      (λ t. subst (λ (p : ℕ × List Style). p.0 < length p.1) (sym (no_flag t)) less)

  pub unquoted_more : StartWith (unquoted styles s).1 styles
  unquoted_more =
      by_side (styling.style_at styles s).quote_prefix
      (λ t. subst (λ (p : ℕ × List Style). StartWith p.1 styles) (sym (flag_there t)) (number_more plain styles))
      (λ t. subst (λ (p : ℕ × List Style). StartWith p.1 styles) (sym (no_flag t)) (start_same styles styles refl))

first_below : (n : ℕ) (a b c : Option ℕ) → 0 < n → IsStyleNumber n a → IsStyleNumber n b → IsStyleNumber n c → first_style a b c < n
first_below n (Some s) b c some one two three = one
first_below n None (Some s) c some one two three = two
first_below n None None (Some s) some one two three = three
first_below n None None None some one two three = some

still_below : (n k : ℕ) (o : Option ℕ) → n ≤ k → IsStyleNumber n o → IsStyleNumber k o
still_below n k None more one = tt
still_below n k (Some s) more one = omega (arith, more, one)

module _ (grid : Grid) (styles : List Style) (ok : IsStyled styles grid) where
  -- so is the number of the style that a place shows
  pub style_below : 0 < length styles → (p : Place) → style_at celled grid.cells grid.rows grid.columns p < length styles
  style_below some p =
      first_below (length styles) (option_map style_of (finite.get grid.cells p)) (option_and_then (λ row. row.style) (finite.get grid.rows p.0)) (option_and_then (λ column. column.style) (finite.get grid.columns p.1)) some
      (of_cell (finite.get grid.cells p) refl) (of_row (finite.get grid.rows p.0) refl) (of_column (finite.get grid.columns p.1) refl)
    where
      of_cell : (o : Option Cell) → finite.get grid.cells p ≡ o → IsStyleNumber (length styles) (option_map style_of o)
      of_cell None e = tt
      of_cell (Some x) e = ok.contents p x e

      of_row : (o : Option RowProps) → finite.get grid.rows p.0 ≡ o → IsStyleNumber (length styles) (option_and_then (λ row. row.style) o)
      of_row None e = tt
      of_row (Some props) e = ok.rows p.0 props e

      of_column : (o : Option ColumnProps) → finite.get grid.columns p.1 ≡ o → IsStyleNumber (length styles) (option_and_then (λ column. column.style) o)
      of_column None e = tt
      of_column (Some props) e = ok.columns p.1 props e

  -- and the one that it gets when something is written there, among the styles then
  pub written_below : 0 < length styles → (p : Place) → (written_style_of grid styles p).0 < length (written_style_of grid styles p).1
  written_below some p = unquoted_below styles (style_at celled grid.cells grid.rows grid.columns p) (style_below some p)

  -- a sheet with the styles that it names still has them when others join them
  pub styled_more : (now : List Style) → StartWith now styles → IsStyled now grid
  styled_more now more =
      let longer = start_longer styles now more in
      record {
        contents = λ p x e. let below = ok.contents p x e in omega (arith, longer, below);
        rows = λ row props e. still_below (length styles) (length now) props.style longer (ok.rows row props e);
        columns = λ column props e. still_below (length styles) (length now) props.style longer (ok.columns column props e);
      }

pub written_more : (grid : Grid) (styles : List Style) (p : Place) → StartWith (written_style_of grid styles p).1 styles
written_more grid styles p = unquoted_more styles (style_at celled grid.cells grid.rows grid.columns p)
