-- Styles, and where one stands in a list of them.
use Rattle.std.specs.Prelude.{◌≡◌, ℕ, List, Bool, true, false, not, ◌&&◌, Option, Some, codes, bytes_eq}
use Rattle.std.specs.List.{slice_get, slice_index_or}
use Rattle.ic_cells.specs.Listed.{are_apart, number_in, place_in, with_item_in}
use Rattle.ic_cells.specs.declared.style.Color.{Color}
use Rattle.ic_cells.specs.declared.style.Color.TheVariants as colors
use Rattle.ic_cells.specs.declared.style.Style.{Style}

-- the style of a cell that was given none
abbrev pub default_style : Style
default_style = record { num_fmt = codes "General"; quote_prefix = false; bold = false; fill = colors.None }

-- a style with another code, or another quote flag
abbrev pub with_format : List ℕ → Style → Style
with_format format s = record s { num_fmt = format }

abbrev pub with_quote_prefix : Bool → Style → Style
with_quote_prefix quote s = record s { quote_prefix = quote }

-- two styles are one: field by field
abbrev pub is_flag : Bool → Bool → Bool
is_flag true b = b
is_flag false b = not b

abbrev pub is_color : Color → Color → Bool
is_color colors.None colors.None = true
is_color colors.None (colors.Rgb b) = false
is_color (colors.Rgb a) colors.None = false
is_color (colors.Rgb a) (colors.Rgb b) = bytes_eq a b

unfoldable pub is_style : Style → Style → Bool
is_style a b = bytes_eq a.num_fmt b.num_fmt && is_flag a.quote_prefix b.quote_prefix && is_flag a.bold b.bold && is_color a.fill b.fill

-- the first place at which a style stands in a list, from 0
abbrev pub first_place : Style → List Style → Option ℕ
first_place s styles = place_in is_style s styles

-- the number that a style gets: its first place, or the one at the end where it stands nowhere
abbrev pub style_number : Style → List Style → ℕ
style_number s styles = number_in is_style s styles

-- the list with a style at its end, unless it stands in it
abbrev pub with_style_in : Style → List Style → List Style
with_style_in s styles = with_item_in is_style s styles

-- the style of a number
abbrev pub style_at : List Style → ℕ → Style
style_at styles n = slice_index_or styles n default_style

-- no two of these styles are one
abbrev pub are_different : List Style → Bool
are_different styles = are_apart is_style styles

-- what a list of styles is: the default stands first, and no style stands twice
pub record AreStyles (styles : List Style) : Type 0 where
  pub default : slice_get styles 0 ≡ Some default_style
  pub different : are_different styles ≡ true
