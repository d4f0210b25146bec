-- Two books that are the same but for how they are written and how they look: all but the notation in force, the list of
-- styles, and the numbers of styles.
use Rattle.std.specs.Prelude.{◌≡◌, ℤ, option_map}
use Rattle.std.specs.FinMap as finite
use Rattle.std.specs.List.{AllZip}
use Rattle.ic_laws.specs.CoreBook.{CellPlace}
use Rattle.ic_cells.specs.declared.layout.ColumnProps.{ColumnProps}
use Rattle.ic_cells.specs.declared.layout.RowProps.{RowProps}
use Rattle.ic_machine.specs.Book.{Book, Grid, Sheet}
use Rattle.ic_machine.specs.Content.{AnchorContent, BoolContent, Content, EmptyContent, ErrContent, FormulaContent, NumContent, SpillContent, TextContent}

-- a content with 0 for the number of its style
abbrev pub unstyled : Content → Content
unstyled (EmptyContent style) = EmptyContent 0
unstyled (BoolContent truth style) = BoolContent truth 0
unstyled (NumContent amount style) = NumContent amount 0
unstyled (ErrContent e style) = ErrContent e 0
unstyled (TextContent text style) = TextContent text 0
unstyled (FormulaContent index value style) = FormulaContent index value 0
unstyled (AnchorContent index area kind value style) = AnchorContent index area kind value 0
unstyled (SpillContent anchor value style) = SpillContent anchor value 0

-- what was set for a row or a column, the same way: whether a style was set stays
abbrev pub unstyled_row : RowProps → RowProps
unstyled_row props = record props { style = option_map (λ style. 0) props.style }

abbrev pub unstyled_column : ColumnProps → ColumnProps
unstyled_column props = record props { style = option_map (λ style. 0) props.style }

-- the same stands at each place, and was set for each row and each column, but for numbers of styles
pub record IsSameGrid (one other : Grid) : Type 0 where
  pub contents : (place : CellPlace) → option_map unstyled (finite.get one.contents place) ≡ option_map unstyled (finite.get other.contents place)
  pub rows : (row : ℤ) → option_map unstyled_row (finite.get one.rows row) ≡ option_map unstyled_row (finite.get other.rows row)
  pub columns : (column : ℤ) → option_map unstyled_column (finite.get one.columns column) ≡ option_map unstyled_column (finite.get other.columns column)
  pub merges : one.merges ≡ other.merges

-- a sheet has the same id, name, pool and tab, and such a grid
pub record IsSameSheet (one other : Sheet) : Type 0 where
  pub id : one.id ≡ other.id
  pub name : one.name ≡ other.name
  pub pool : one.pool ≡ other.pool
  pub grid : IsSameGrid one.grid other.grid
  pub tab : one.tab ≡ other.tab

-- a book has such sheets in the same order, and all else but its locale, its language and its styles is the same
pub record IsSameBook (one other : Book) : Type 0 where
  pub sheets : AllZip IsSameSheet one.sheets other.sheets
  pub definitions : one.definitions ≡ other.definitions
  pub zone : one.zone ≡ other.zone
  pub theme : one.theme ≡ other.theme
  pub name : one.name ≡ other.name
  pub metadata : one.metadata ≡ other.metadata
  pub tables : one.tables ≡ other.tables
