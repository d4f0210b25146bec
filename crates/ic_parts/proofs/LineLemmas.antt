-- What is set for a row or a column of one sheet.
use Rattle.std.proofs.Common.{◌≡◌, ℕ, ℤ, true, Option, Some, None, refl, sym, subst}
use Rattle.std.specs.FinMap as finite
use Rattle.std.specs.Option.{unwrap_or}
use Rattle.ic_laws.specs.Position.{is_column, is_row}
use Rattle.ic_cells.specs.declared.layout.ColumnProps.{ColumnProps}
use Rattle.ic_cells.specs.declared.layout.RowProps.{RowProps}
use Rattle.ic_grid.specs.Lines.{column_at, column_without_style, plain_column, plain_row, row_at, row_without_style, without_column_style, without_row_style}
use Rattle.ic_grid.specs.declared.grid.Grid.{Grid}
use Rattle.ic_machine.specs.Valid.{IsStyleNumber}
use Rattle.ic_machine.proofs.valid.ValidLemmas.{column_put, row_put}
use Rattle.ic_parts.specs.Parts.{StaysLaidOut}
use Rattle.ic_parts.proofs.GridPartLemmas.{laid_lines, lines_laid, same_laid_out}

-- rows and columns stay laid out ----

-- the style of a row or a column for which something was set is one of so many, and where nothing was, it has none
row_number : (count : ℕ) (o : Option RowProps) → ((props : RowProps) → o ≡ Some props → IsStyleNumber count props.style) → IsStyleNumber count (unwrap_or o plain_row).style
row_number count None h = tt
row_number count (Some props) h = h props refl

column_number : (count : ℕ) (o : Option ColumnProps) → ((props : ColumnProps) → o ≡ Some props → IsStyleNumber count props.style) → IsStyleNumber count (unwrap_or o plain_column).style
column_number count None h = tt
column_number count (Some props) h = h props refl

module _ (before after : Grid) where
  module _ (row : ℤ) (inside : is_row row ≡ true) where
    -- the row of a sheet gets this, with no style but its own
    pub row_laid_out : (props : RowProps) → after ≡ record before { rows = finite.insert before.rows row props }
        → ((count : ℕ) → IsStyleNumber count (row_at before.rows row).style → IsStyleNumber count props.style) → StaysLaidOut before after
    row_laid_out props is named =
        subst (StaysLaidOut before) (sym is)
        (record {
          cells = refl;
          merges = refl;
          lines = λ count h.
              laid_lines count (record before { rows = finite.insert before.rows row props })
              (row_put count before.rows before.columns (lines_laid count before h) row props inside
              (named count (row_number count (finite.get before.rows row) (λ p e. (h.rows row p e).1))));
        })

  module _ (column : ℤ) (inside : is_column column ≡ true) where
    pub column_laid_out : (props : ColumnProps) → after ≡ record before { columns = finite.insert before.columns column props }
        → ((count : ℕ) → IsStyleNumber count (column_at before.columns column).style → IsStyleNumber count props.style) → StaysLaidOut before after
    column_laid_out props is named =
        subst (StaysLaidOut before) (sym is)
        (record {
          cells = refl;
          merges = refl;
          lines = λ count h.
              laid_lines count (record before { columns = finite.insert before.columns column props })
              (column_put count before.rows before.columns (lines_laid count before h) column props inside
              (named count (column_number count (finite.get before.columns column) (λ p e. (h.columns column p e).1))));
        })

-- a row or a column loses its style
module _ (before after : Grid) where
  pub row_freed : (row : ℤ) → is_row row ≡ true → after ≡ record before { rows = without_row_style row before.rows } → StaysLaidOut before after
  row_freed row inside is = subst (StaysLaidOut before) (sym is) (at (finite.get before.rows row))
    where
      at : (o : Option RowProps) → StaysLaidOut before (record before { rows = row_without_style row o before.rows })
      at None = same_laid_out before before refl
      at (Some props) =
          let bare : RowProps = record (row_at before.rows row) { style = None } in
          row_laid_out before (record before { rows = finite.insert before.rows row bare }) row inside bare refl (λ count h. tt)

  pub column_freed : (column : ℤ) → is_column column ≡ true → after ≡ record before { columns = without_column_style column before.columns } → StaysLaidOut before after
  column_freed column inside is = subst (StaysLaidOut before) (sym is) (at (finite.get before.columns column))
    where
      at : (o : Option ColumnProps) → StaysLaidOut before (record before { columns = column_without_style column o before.columns })
      at None = same_laid_out before before refl
      at (Some props) =
          let bare : ColumnProps = record (column_at before.columns column) { style = None } in
          column_laid_out before (record before { columns = finite.insert before.columns column bare }) column inside bare refl (λ count h. tt)
