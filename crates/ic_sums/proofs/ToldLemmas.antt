-- A line is made of its parts.
use Rattle.std.proofs.Common.{◌≡◌, ℕ, List, [], ◌∷◌, ◌++◌, append-nil, append_assoc, refl, sym, ap, ap₂, ◌∙◌, Ok, codes}
use Rattle.std.specs.Str.{chars}
use Rattle.ic_cells.specs.declared.sheet.CellIndex.{CellIndex}
use Rattle.ic_laws.specs.Character.{line_feed}
use Rattle.ic_machine.specs.Book.{Book, Stepped}
use Rattle.ic_machine.specs.Fields.{fields_of_place}
use Rattle.ic_machine.specs.Reply.{Field}
use Rattle.ic_machine.specs.subjects.Reading.{GetCellFormula, GetFormattedCellValue, reading_step}
use Rattle.ic_sums.specs.Told.{fields_of, told_cell, told_line}

cell_chars : chars (codes "cell") ≡ codes "cell"
unfolding chars
cell_chars = refl

module _ (old a b c d e f new x y z formula value : List ℕ) where
  pub line_made : a ≡ old ++ chars (codes "cell") → b ≡ a ++ (x ++ []) → c ≡ b ++ (y ++ []) → d ≡ c ++ (z ++ []) → e ≡ d ++ formula → f ≡ e ++ value → new ≡ f ++ line_feed ∷ []
      → new ≡ old ++ (codes "cell" ++ ((x ++ (y ++ (z ++ []))) ++ (formula ++ (value ++ line_feed ∷ []))))
  line_made o p q r s t u =
      u
      ∙ ap (λ v. v ++ line_feed ∷ [])
      (t
      ∙ ap (λ v. v ++ value)
      (s
      ∙ ap (λ v. v ++ formula) (r ∙ ap (λ v. v ++ (z ++ [])) (q ∙ ap (λ v. v ++ (y ++ [])) (p ∙ ap (λ v. v ++ (x ++ [])) (o ∙ ap (λ v. old ++ v) cell_chars))))))
      ∙ simp (append_assoc, append-nil)

-- it is the line of a cell where these are its formula and its value
pub line_told : (book : Book) (cell : CellIndex) (formula value : List Field) → reading_step book (GetCellFormula cell.index cell.row cell.column) ≡ Ok (book, formula)
    → reading_step book (GetFormattedCellValue cell.index cell.row cell.column) ≡ Ok (book, value) → told_line (fields_of_place cell) formula value ≡ told_cell book cell
line_told book cell formula value p q = ap₂ (λ (x y : Stepped Book). told_line (fields_of_place cell) (fields_of x) (fields_of y)) (sym p) (sym q)
