-- Numbers of styles in a book's list, and styles as replies show them.
use Rattle.std.specs.Prelude.{ℕ, List, [], ◌∷◌, if◌then◌else◌}
use Rattle.ic_cells.specs.Style.{is_style, style_at, style_number, with_style_in}
use Rattle.ic_cells.specs.declared.style.Style.{Style}
use Rattle.ic_machine.specs.Reply.{ColorField, Field, FlagField, TextField}

-- the number of a style, and the list that has it: that of the first equal one, or a new one at the end
pub record Numbered : Type 0 where
  pub number : ℕ
  pub styles : List Style

abbrev pub numbered : Style → List Style → Numbered
numbered style styles = record { number = style_number style styles; styles = with_style_in style styles }

-- a style changed; where nothing changes, it keeps its number
abbrev pub restyled : (Style → Style) → ℕ → List Style → Numbered
restyled change number styles =
    if is_style (change (style_at styles number)) (style_at styles number) then record { number = number; styles = styles }
    else numbered (change (style_at styles number)) styles

-- the code, the quote flag, the bold flag and the fill of a style
abbrev pub style_fields : Style → List Field
style_fields style = TextField style.num_fmt ∷ FlagField style.quote_prefix ∷ FlagField style.bold ∷ ColorField style.fill ∷ []
