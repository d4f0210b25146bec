-- The first sheet of a book for examples: what a step on its grid, and what is written into it, leave of the book.
use Rattle.std.proofs.Common.{◌≡◌, ℕ, List, [], ◌∷◌, ◌++◌, false, Option, None, Some, Ok, codes, ap, ◌∙◌}
use Rattle.std.specs.FinMap as finite
use Rattle.std.specs.Prelude.{is_none, unwrap_or}
use Rattle.ic_laws.specs.CoreBook.{CellPlace}
use Rattle.ic_laws.specs.declared.tree.Formula.{Formula}
use Rattle.ic_laws.proofs.core.CellWritten.{place_cmp_total}
use Rattle.ic_cells.specs.Maps.{place_cmp}
use Rattle.ic_cells.specs.declared.style.Style.{Style}
use Rattle.ic_grid.specs.Contents.{Contents}
use Rattle.ic_grid.specs.Prepare.{written}
use Rattle.ic_input.specs.declared.input.Typed.{Typed}
use Rattle.ic_machine.specs.Book.{Book, Entry, Grid, Sheet, Stepped, empty_grid, empty_sheet, put_in, style_number_at, unless, unless_refused, with_sheet}
use Rattle.ic_machine.specs.Content.{Content, held}
use Rattle.ic_machine.specs.InForce.{formula_typed, typed_in}
use Rattle.ic_machine.specs.Refusal.{Causes, NotAFormula, Refusal, first_refusal}
use Rattle.ic_machine.specs.Reply.{Reply}
use Rattle.ic_machine.specs.Step.{outcome_of}
use Rattle.ic_machine.specs.Styling.{restyled}
use Rattle.ic_machine.specs.subjects.Writing.{Written, formula_at_place, formula_step, formula_written, input_step, place_causes, typed_written, with_styled, with_written, write_causes}
use Rattle.ic_machine.proofs.as_core.CoreLemmas.{no_cells}

-- the first sheet with this pool and these cells
abbrev pub sheet_with : List Formula → Contents Content → Sheet
sheet_with pool contents = record (empty_sheet 1 (codes "Sheet1")) { pool = pool; grid = record empty_grid { contents = contents } }

-- a book with this first sheet
abbrev pub with_first : Book → List Sheet → Sheet → List Style → Book
with_first base others sheet styles = record base { sheets = sheet ∷ others; styles = styles }

-- one cell, its entry, and that it is written where nothing stands
abbrev pub one_cell : CellPlace → Content → Contents Content
one_cell place content = finite.insert finite.empty place content

pub one_entry : (place : CellPlace) (content : Content) → finite.entries (one_cell place content) ≡ (place, content) ∷ []
one_entry place content = finite.entries-insert place_cmp_total finite.empty place content ∙ ap (λ (es : List Entry). finite.put place_cmp place content es) no_cells

pub put_first : (place : CellPlace) (content : Content) → written held place content finite.empty ≡ one_cell place content
put_first place content = simp (finite.get-empty)

-- what may refuse a cell that is written
abbrev pub causes : Sheet → CellPlace → Causes → Causes
causes sheet place more = place_causes place ++ (write_causes sheet place ++ more)

module _ (base : Book) (others : List Sheet) (sheet : Sheet) (styles : List Style) where
  abbrev book : Book
  book = with_first base others sheet styles

  -- what a line leaves and answers, by the step on the grid
  abbrev pub by_grid : Stepped Grid → Book × Reply
  by_grid stepped = outcome_of book (put_in (with_sheet book 0) (put_in (λ (g : Grid). record sheet { grid = g }) stepped))

  module _ (place : CellPlace) where
    -- what a cell that is written leaves, by the style of its place and what stands there then
    abbrev pub left_with : Written → ℕ → Contents Content → Book
    left_with w n contents =
        with_first base others (record sheet { pool = w.pool; grid = record sheet.grid { contents = contents } }) (restyled w.change n styles).styles

    pub write_done : (w : Written) (more : Causes) (n : ℕ) (contents : Contents Content) → first_refusal (causes sheet place more) ≡ None → style_number_at sheet.grid place.0 place.1 ≡ n
        → written held place (w.content (restyled w.change n styles).number) sheet.grid.contents ≡ contents
        → unless_refused (causes sheet place more) (with_written book 0 sheet place w) [] ≡ Ok (left_with w n contents, [])
    write_done w more n contents free number stands =
        ap (λ (o : Option Refusal). unless o (with_written book 0 sheet place w) []) free
        ∙ ap (λ (n : ℕ). let left : Stepped Book = Ok (with_styled book 0 sheet place w (restyled w.change n styles), []) in left) number
        ∙ ap (λ (c : Contents Content). let left : Stepped Book = Ok (left_with w n c, []) in left) stands

    -- a text that is typed, by what it is
    abbrev pub input : Typed → Written
    input t = typed_written book sheet place t

    pub input_done : (text : List ℕ) (t : Typed) (n : ℕ) (contents : Contents Content) → typed_in book text ≡ t → first_refusal (causes sheet place []) ≡ None
        → style_number_at sheet.grid place.0 place.1 ≡ n → written held place ((input t).content (restyled (input t).change n styles).number) sheet.grid.contents ≡ contents
        → input_step 0 place text book ≡ Ok (left_with (input t) n contents, [])
    unfolding input_step
    input_done text t n contents is free number stands =
        ap (λ (t : Typed). unless_refused (causes sheet place []) (with_written book 0 sheet place (input t)) []) is ∙ write_done (input t) [] n contents free number stands

    -- a formula that is given, by its text
    abbrev pub given : List ℕ → Written
    given text = formula_written book sheet (formula_at_place book sheet place text)

    pub formula_done : (text formula : List ℕ) (n : ℕ) (contents : Contents Content) → formula_typed book text ≡ Some formula → first_refusal (causes sheet place ((false, NotAFormula) ∷ [])) ≡ None
        → style_number_at sheet.grid place.0 place.1 ≡ n → written held place ((given formula).content (restyled (given formula).change n styles).number) sheet.grid.contents ≡ contents
        → formula_step 0 place text book ≡ Ok (left_with (given formula) n contents, [])
    unfolding formula_step
    formula_done text formula n contents is free number stands =
        ap (λ (o : Option (List ℕ)). unless_refused (causes sheet place ((is_none o, NotAFormula) ∷ [])) (with_written book 0 sheet place (given (unwrap_or o []))) []) is
        ∙ write_done (given formula) ((false, NotAFormula) ∷ []) n contents free number stands
