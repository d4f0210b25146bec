-- Widths, what stays in sight, the style of a row and how a sheet is written as a table, by example.
use Rattle.std.proofs.Common.{◌≡◌, ℕ, pos, List, [], ◌∷◌, ◌++◌, true, false, Option, None, Some, Ok, Err, codes, refl, ap, ap₂, ◌∙◌}
use Rattle.std.specs.Fmt.{digits}
use Rattle.std.specs.FinMap as finite
use Rattle.std.specs.List.{join_by, range_with_len}
use Rattle.std.specs.Option.{option_map_or}
use Rattle.ic_laws.specs.Character.{line_feed}
use Rattle.ic_laws.specs.CoreBook.{CellPlace}
use Rattle.ic_laws.proofs.core.CellWritten.{place_cmp_total}
use Rattle.ic_cells.specs.Style.{default_style, is_style, style_at}
use Rattle.ic_cells.specs.declared.layout.RowProps.{RowProps}
use Rattle.ic_cells.specs.declared.style.Color.TheVariants as colors
use Rattle.ic_cells.specs.declared.style.Style.{Style}
use Rattle.ic_input.specs.Code.{number_code}
use Rattle.ic_input.specs.Number.{from_digits, unsigned_number}
use Rattle.ic_input.specs.Typed as typing
use Rattle.ic_input.specs.declared.input.Typed.TheVariants as kinds
use Rattle.ic_machine.specs.Book.{Book, Entry, Grid, Sheet, content_at, empty_grid, empty_sheet, on_grid, on_tab, plain_tab, style_number_at}
use Rattle.ic_machine.specs.Command.{commands}
use Rattle.ic_machine.specs.Content.{Content, NumContent}
use Rattle.ic_machine.specs.Format.{formatted}
use Rattle.ic_machine.specs.InForce.{typed_in}
use Rattle.ic_machine.specs.Line.{plain_row, row_of}
use Rattle.ic_machine.specs.Refusal.{FrozenNegative, InvalidColumn, TooManyRows}
use Rattle.ic_machine.specs.Reply.{NumberField, Reply, TextField}
use Rattle.ic_machine.specs.Step.{outcome_of}
use Rattle.ic_machine.specs.subjects.Reading.{cell_markup, content_markup, emphasized, last_column, last_row, markup_step, row_markup, sheet_markup}
use Rattle.ic_machine.specs.subjects.Styles.{set_row_step}
use Rattle.ic_machine.specs.subjects.Tabs.{freeze_rows_step}
use Rattle.ic_machine.proofs.examples.LayoutExamples.{another, its_own, outside, wide, widened}
use Rattle.ic_machine.proofs.examples.OneSheet.{by_grid, input_done, one_cell, one_entry, put_first, with_first}
use Rattle.ic_machine.proofs.examples.Session.{answers, done, next, step}
use Rattle.ic_machine.proofs.examples.Small.{start}

-- the only sheet with this grid, and so many rows that stay in sight
abbrev sheet : Grid → ℕ → Sheet
sheet grid frozen = record (empty_sheet 1 (codes "Sheet1")) { grid = grid; tab = record plain_tab { frozen_rows = pos frozen } }

abbrev plain : List Style
plain = default_style ∷ []

abbrev styles : List Style
styles = default_style ∷ record { num_fmt = codes "#,##0%"; quote_prefix = false; bold = true; fill = colors.None } ∷ []

-- with the style of the fourth row, and then with a number there
abbrev styled : RowProps → Grid
styled props = record wide { rows = finite.insert finite.empty (pos 4) (record props { style = Some 1 }) }

abbrev place : CellPlace
place = (pos 4, pos 1)

abbrev half : Content
half = NumContent (pos 500000000) 1

abbrev full : Grid
full = record (styled plain_row) { contents = one_cell place half }

abbrev last : Book
last = with_first start [] (sheet full 1048575) styles

-- ---- widths, and what stays in sight

set : step start (codes "set_column_width\t0\t2\t5000") ≡ (with_first start [] (sheet wide 0) plain, Ok [])
unfolding step commands on_grid
set = ap (by_grid start [] (sheet empty_grid 0) plain) widened

told : step (with_first start [] (sheet wide 0) plain) (codes "get_column_width\t0\t2") ≡ (with_first start [] (sheet wide 0) plain, Ok (NumberField (Some 5000) ∷ []))
unfolding step commands on_grid
told = ap (by_grid start [] (sheet wide 0) plain) its_own

told_other : step (with_first start [] (sheet wide 0) plain) (codes "get_column_width\t0\t3") ≡ (with_first start [] (sheet wide 0) plain, Ok (NumberField (Some 12500) ∷ []))
unfolding step commands on_grid
told_other = ap (by_grid start [] (sheet wide 0) plain) another

too_far : step (with_first start [] (sheet wide 0) plain) (codes "set_column_width\t0\t16385\t1") ≡ (with_first start [] (sheet wide 0) plain, Err InvalidColumn)
unfolding step commands on_grid
too_far = ap (by_grid start [] (sheet wide 0) plain) outside

too_many : step (with_first start [] (sheet wide 0) plain) (codes "set_frozen_rows\t0\t1048576") ≡ (with_first start [] (sheet wide 0) plain, Err TooManyRows)
unfolding step commands on_tab freeze_rows_step
too_many = refl

frozen : step (with_first start [] (sheet wide 0) plain) (codes "set_frozen_rows\t0\t1048575") ≡ (with_first start [] (sheet wide 1048575) plain, Ok [])
unfolding step commands on_tab freeze_rows_step
frozen = refl

below_none : step (with_first start [] (sheet wide 1048575) plain) (codes "set_frozen_rows\t0\t-1") ≡ (with_first start [] (sheet wide 1048575) plain, Err FrozenNegative)
unfolding step commands on_tab freeze_rows_step
below_none = refl

-- ---- the style of a row

nothing_set : row_of finite.empty (pos 4) ≡ plain_row
nothing_set = simp (finite.get-empty)

row_styled : step (with_first start [] (sheet wide 1048575) plain) (codes "set_row_style\t0\t4\t#,##0%\t0\t1\t-") ≡ (with_first start [] (sheet (styled plain_row) 1048575) styles, Ok [])
unfolding step commands set_row_step is_style
row_styled = ap (λ (props : RowProps). let left : Book × Reply = (with_first start [] (sheet (styled props) 1048575) styles, Ok []) in left) nothing_set

half_typed : typed_in start (codes "0.5") ≡ kinds.Number (pos 500000000) None
unfolding typing.typed unsigned_number from_digits
half_typed = refl

half_put : step (with_first start [] (sheet (styled plain_row) 1048575) styles) (codes "set_user_input\t0\t4\t1\t0.5") ≡ (last, Ok [])
unfolding step commands is_style
half_put =
    ap (outcome_of (with_first start [] (sheet (styled plain_row) 1048575) styles))
    (input_done start [] (sheet (styled plain_row) 1048575) styles place (codes "0.5") (kinds.Number (pos 500000000) None) 1 (one_cell place half) half_typed
    (simp (finite.get-empty)) (simp (finite.gets)) (put_first place half))

-- ---- the sheet as a table

-- a cell, by the number of its style and by what it holds
abbrev cell_by : CellPlace → ℕ → Option Content → List ℕ
cell_by p number o = emphasized (style_at styles number).bold (option_map_or (content_markup last (sheet full 1048575) p) o [])

blank_first : cell_markup last (sheet full 1048575) (pos 1, pos 1) ≡ []
blank_first =
    let number : style_number_at full (pos 1) (pos 1) ≡ 0 = simp (finite.gets, place_cmp_total) in
    let content : content_at (sheet full 1048575) (pos 1) (pos 1) ≡ None = simp (finite.gets, place_cmp_total) in ap₂ (cell_by (pos 1, pos 1)) number content

blank_second : cell_markup last (sheet full 1048575) (pos 2, pos 1) ≡ []
blank_second =
    let number : style_number_at full (pos 2) (pos 1) ≡ 0 = simp (finite.gets, place_cmp_total) in
    let content : content_at (sheet full 1048575) (pos 2) (pos 1) ≡ None = simp (finite.gets, place_cmp_total) in ap₂ (cell_by (pos 2, pos 1)) number content

blank_third : cell_markup last (sheet full 1048575) (pos 3, pos 1) ≡ []
blank_third =
    let number : style_number_at full (pos 3) (pos 1) ≡ 0 = simp (finite.gets, place_cmp_total) in
    let content : content_at (sheet full 1048575) (pos 3) (pos 1) ≡ None = simp (finite.gets, place_cmp_total) in ap₂ (cell_by (pos 3, pos 1)) number content

bold_half : cell_markup last (sheet full 1048575) place ≡ codes "**50%**"
unfolding formatted number_code digits
bold_half =
    let number : style_number_at full (pos 4) (pos 1) ≡ 1 = simp (finite.gets, place_cmp_total) in
    let content : content_at (sheet full 1048575) (pos 4) (pos 1) ≡ Some half = simp (finite.gets, place_cmp_total) in ap₂ (cell_by place) number content

abbrev rows : List Entry → List ℕ
rows entries = join_by (row_markup last (sheet full 1048575) (last_column entries)) (line_feed ∷ []) (range_with_len 1 (last_row entries))

-- rows of one cell each
abbrev lines : List (List ℕ) → List ℕ
lines cells = join_by (λ (cell : List ℕ). cell ++ []) (line_feed ∷ []) cells

table : sheet_markup last (sheet full 1048575) ≡ codes "\n\n\n**50%**"
table =
    let fourth : List ℕ = cell_markup last (sheet full 1048575) place in
    ap rows (one_entry place half)
    ∙ ap₂ (λ (a b : List ℕ). lines (a ∷ b ∷ cell_markup last (sheet full 1048575) (pos 3, pos 1) ∷ fourth ∷ [])) blank_first blank_second
    ∙ ap₂ (λ (c d : List ℕ). lines ([] ∷ [] ∷ c ∷ d ∷ [])) blank_third bold_half

marked_up : step last (codes "get_sheet_markup\t0") ≡ (last, Ok (TextField (codes "\n\n\n**50%**") ∷ []))
unfolding step commands markup_step
marked_up = ap (λ (text : List ℕ). let left : Book × Reply = (last, Ok (TextField text ∷ [])) in left) table

-- a column has its own width or the one of all; a cell is shown in the style of its row
styled_sheet : answers start
    (codes "set_column_width\t0\t2\t5000" ∷ codes "get_column_width\t0\t2" ∷ codes "get_column_width\t0\t3" ∷ codes "set_column_width\t0\t16385\t1"
    ∷ codes "set_frozen_rows\t0\t1048576" ∷ codes "set_frozen_rows\t0\t1048575" ∷ codes "set_frozen_rows\t0\t-1"
    ∷ codes "set_row_style\t0\t4\t#,##0%\t0\t1\t-" ∷ codes "set_user_input\t0\t4\t1\t0.5" ∷ codes "get_sheet_markup\t0" ∷ [])
    ≡ codes "ok" ∷ codes "ok\t5000" ∷ codes "ok\t12500" ∷ codes "error\tInvalidColumn"
    ∷ codes "error\tTooManyRows" ∷ codes "ok" ∷ codes "error\tFrozenNegative" ∷ codes "ok" ∷ codes "ok" ∷ codes "ok\t\\n\\n\\n**50%**" ∷ []
unfolding digits
styled_sheet =
    next _ _ _ _ _ _ set (next _ _ _ _ _ _ told (next _ _ _ _ _ _ told_other (next _ _ _ _ _ _ too_far
    (next _ _ _ _ _ _ too_many (next _ _ _ _ _ _ frozen (next _ _ _ _ _ _ below_none
    (next _ _ _ _ _ _ row_styled (next _ _ _ _ _ _ half_put (next _ _ _ _ _ _ marked_up (done _))))))))))
