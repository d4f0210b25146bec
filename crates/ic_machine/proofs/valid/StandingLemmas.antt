-- What stands in a place of a sheet has a style of the book's list, its formula, if it has one, is in the sheet's pool, and
-- its number, if it is one, is an amount.
use Rattle.std.proofs.Common.{ℕ, ℤ, ◌<◌}
use Rattle.ic_laws.specs.Notations.{Notations}
use Rattle.ic_laws.specs.declared.scene.Scene.{Scene}
use Rattle.ic_cells.specs.declared.value.FormulaValue.{FormulaValue}
use Rattle.ic_grid.specs.Block.{Place}
use Rattle.ic_machine.specs.Book.{Sheet}
use Rattle.ic_machine.specs.Content.{AnchorContent, BoolContent, Content, EmptyContent, ErrContent, FormulaContent, NumContent, SpillContent, TextContent, formula_index, held, style_of, with_array_area, with_formula_value}
use Rattle.ic_machine.specs.Valid.{HasAmount, HasFormula}
use Rattle.ic_machine.proofs.contents.HaveLemmas.{IsPassedOn}

module _ (n : Notations) (scene : Scene) (s : Sheet) where
  abbrev pub IsStanding : ℕ → Place → Content → Type 0
  IsStanding count q x = (style_of x < count) × HasFormula n scene s q (formula_index x) × HasAmount x

  module _ (count : ℕ) where
    valued_stands : (q : Place) (x : Content) (value : FormulaValue) → IsStanding count q x → IsStanding count q (with_formula_value value x)
    valued_stands q (EmptyContent style) value h = h
    valued_stands q (BoolContent truth style) value h = h
    valued_stands q (NumContent amount style) value h = h
    valued_stands q (ErrContent e style) value h = h
    valued_stands q (TextContent text style) value h = h
    valued_stands q (FormulaContent index old style) value h = h
    valued_stands q (AnchorContent index area kind old style) value h = h
    valued_stands q (SpillContent anchor old style) value h = h

    widened_stands : (q : Place) (x : Content) (width height : ℤ) → IsStanding count q x → IsStanding count q (with_array_area width height x)
    widened_stands q (EmptyContent style) width height h = h
    widened_stands q (BoolContent truth style) width height h = h
    widened_stands q (NumContent amount style) width height h = h
    widened_stands q (ErrContent e style) width height h = h
    widened_stands q (TextContent text style) width height h = h
    widened_stands q (FormulaContent index value style) width height h = h
    widened_stands q (AnchorContent index area kind value style) width height h = h
    widened_stands q (SpillContent anchor value style) width height h = h

    pub passed_on : IsPassedOn held (IsStanding count)
    passed_on = record {
      to_empty = λ q x h. (h.0, tt, tt);
      to_valued = valued_stands;
      to_widened = widened_stands;
      to_spill = λ q x a value h. (h.0, tt, tt);
    }
