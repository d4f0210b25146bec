-- The arrays with a cell in a block are released: what stands where then.
use Rattle.std.proofs.Common.{◌≡◌, ◌∙◌, refl, sym, ap, subst, Bool, true, false, cond, Option, Some, None, IsSome}
use Rattle.std.specs.FinMap as finite
use Rattle.std.specs.Option.{option_and_then, option_map}
use Rattle.ic_cells.specs.Cell.{style_of}
use Rattle.ic_cells.specs.declared.cell.Cell.{Cell}
use Rattle.ic_cells.specs.declared.cell.Cell.TheVariants as cells
use Rattle.ic_grid.proofs.ArrayLemmas.{anchored, array_there, place_in_area}
use Rattle.ic_grid.proofs.BlockLemmas.{meets_at}
use Rattle.ic_grid.proofs.ContentsLemmas.{get-remade, remade_alike}
use Rattle.ic_grid.proofs.LoosenLemmas.{Loosens}
use Rattle.ic_grid.proofs.PrepareLemmas.{released_inside, released_loosens, released_where, test_of}
use Rattle.ic_grid.specs.Arrays.{anchor_at, anchor_of, array_at, array_of, reaches}
use Rattle.ic_grid.specs.Block.{Place, block_at, blocks_meet, is_in_block}
use Rattle.ic_grid.specs.Conditions.{AreArrays, AreInSheet}
use Rattle.ic_grid.specs.Contents.{Contents}
use Rattle.ic_grid.specs.Prepare.{loosened, loosened_in}
use Rattle.ic_grid.specs.Shape.{celled, is_loose, shape_of}
use Rattle.ic_grid.specs.declared.block.Array.{Array}
use Rattle.ic_grid.specs.declared.block.Block.{Block}

-- what is released keeps its style
loosened_style : (x : Cell) → style_of (loosened celled x) ≡ style_of x
loosened_style (cells.EmptyCell s) = refl
loosened_style (cells.BooleanCell v s) = refl
loosened_style (cells.NumberCell v s) = refl
loosened_style (cells.ErrorCell v s) = refl
loosened_style (cells.SharedString v s) = refl
loosened_style (cells.CellFormula f s v) = refl
loosened_style (cells.ArrayFormula k f s r v) = refl
loosened_style (cells.SpillCell s d v) = refl

some_of : (o : Option Array) → IsSome o → (array : Array) × (o ≡ Some array)
some_of None h = let never : false ≡ true = h in cc
some_of (Some array) h = (array, refl)

module _ (m : Contents Cell) (b : Block) where
  -- the arrays with a cell in the block
  abbrev pub reached : Place → Bool
  reached a = reaches b (array_of celled m a)

  pub loosened_is : loosened_in celled b m ≡ released_where reached m
  loosened_is = remade_alike _ _ m (λ q x e. ap (λ t. Some (cond t (loosened celled x) x)) (each q x e))
    where
      each : (q : Place) (x : Cell) → finite.get m q ≡ Some x → reaches b (array_at celled m q) ≡ test_of reached (anchor_of q (shape_of x))
      each q x e = ap (λ o. reaches b (option_and_then (array_of celled m) o)) (ap (option_and_then (λ y. anchor_of q (shape_of y))) e) ∙ by_anchor (anchor_of q (shape_of x))
        where
          by_anchor : (o : Option Place) → reaches b (option_and_then (array_of celled m) o) ≡ test_of reached o
          by_anchor None = refl
          by_anchor (Some a) = refl

  pub loosened_loosens : Loosens celled m (loosened_in celled b m) reached
  loosened_loosens = subst (λ (c : Contents Cell). Loosens celled m c reached) (sym loosened_is) (released_loosens m reached)

  pub loosened_inside : AreInSheet celled m → AreInSheet celled (loosened_in celled b m)
  loosened_inside inside = subst (λ (c : Contents Cell). AreInSheet celled c) (sym loosened_is) (released_inside m reached inside)

  -- the styles stay
  pub loosened_styles : (p : Place) → option_map style_of (finite.get (loosened_in celled b m) p) ≡ option_map style_of (finite.get m p)
  loosened_styles p = ap (option_map style_of) (get-remade _ m p) ∙ each (finite.get m p)
    where
      either : (t : Bool) (x : Cell) → style_of (cond t (loosened celled x) x) ≡ style_of x
      either true x = loosened_style x
      either false x = refl

      each : (o : Option Cell) → option_map style_of (option_and_then (λ x. Some (cond (reaches b (array_at celled m p)) (loosened celled x) x)) o) ≡ option_map style_of o
      each None = refl
      each (Some x) = ap Some (either (reaches b (array_at celled m p)) x)

  module _ (ok : AreArrays celled m) where
    -- an array with a place in the block has a cell there
    pub reached_at : (q a : Place) → is_in_block b q ≡ true → anchor_at celled m q ≡ Some a → reached a ≡ true
    reached_at q a within anchor =
        let array = some_of (array_of celled m a) (anchored celled m ok q a anchor) in
        let has = array_there celled m a array.0 array.1 in
        ap (reaches b) array.1 ∙ sym (ap (λ (one : Array). blocks_meet one.block b) has.4)
        ∙ meets_at (block_at a has.0 has.1) b q (place_in_area celled m ok q a anchor has.0 has.1 has.2 has.3) within

    -- nothing is left in the block of an array of more than one cell
    pub loose_within : (q : Place) (x : Cell) → is_in_block b q ≡ true → finite.get (loosened_in celled b m) q ≡ Some x → is_loose (shape_of x) ≡ true
    loose_within q x within e = loosened_loosens.loose q (λ a anchor. reached_at q a within anchor) x e
