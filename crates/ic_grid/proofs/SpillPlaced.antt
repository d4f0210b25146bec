-- The cells of an array are put in place of its old spill.
use Rattle.std.proofs.Common.{◌≡◌, ◌∙◌, sym, ap, subst, true, cond, List, length, Some, IsSome}
use Rattle.std.specs.FinMap as finite
use Rattle.std.specs.Option.{option_and_then}
use Rattle.ic_cells.specs.declared.cell.Cell.{Cell}
use Rattle.ic_grid.proofs.ArrayLemmas.{array_there, whole_spill}
use Rattle.ic_grid.proofs.ContentsLemmas.{get-remade}
use Rattle.ic_grid.proofs.RoomLemmas.{added_outside}
use Rattle.ic_grid.proofs.RowLemmas.{IsAt, at_first, first_left, placed_over}
use Rattle.ic_grid.proofs.WriteLemmas.{changed_there}
use Rattle.ic_grid.specs.Arrays.{array_of}
use Rattle.ic_grid.specs.Block.{first_place, is_area, is_in_block}
use Rattle.ic_grid.specs.Change.{placeholder}
use Rattle.ic_grid.specs.Conditions.{AreArrays}
use Rattle.ic_grid.specs.Contents.{Contents, changed_where}
use Rattle.ic_grid.specs.Prepare.{unspilled, without_spill}
use Rattle.ic_grid.specs.Room.{IsMarked}
use Rattle.ic_grid.specs.Rows.{IsFull, place_count, placed}
use Rattle.ic_grid.specs.Shape.{celled}
use Rattle.ic_grid.specs.declared.block.Array.{Array}
use Rattle.ic_grid.specs.declared.block.Block.{Block}

module _ (b : Block) (array : Array) where
  abbrev emptied_in : Contents Cell → Contents Cell
  emptied_in n = changed_where (is_in_block array.block) (unspilled celled (first_place array.block)) n

  pub still_full : (room between : Contents Cell) → IsFull b room → between ≡ emptied_in room → IsFull b between
  still_full room between full e p within =
      subst (λ (n : Contents Cell). IsSome (finite.get n p)) (sym e) (changed_there (is_in_block array.block) (unspilled celled (first_place array.block)) room p ∙ full p within)

  module _ (m : Contents Cell) (ok : AreArrays celled m) (is : array_of celled m (first_place b) ≡ Some array) (area : is_area b ≡ true) where
    emptied_whole : emptied_in m ≡ without_spill celled (first_place b) m
    emptied_whole =
        let has = array_there celled m (first_place b) array is in
        ap (λ (r : Array). changed_where (is_in_block r.block) (unspilled celled (first_place r.block)) m) (sym has.4) ∙ whole_spill celled m ok (first_place b) has.0 has.1 has.2 has.3

    pub array_placed : (items : List Cell) → length items ≡ place_count b → (room between : Contents Cell) → IsMarked b m room → between ≡ emptied_in room → (after : Contents Cell) → after ≡ placed b (first_place b) items between
        → after ≡ placed b (first_place b) items (without_spill celled (first_place b) m)
    array_placed items count room between has e after is =
        is ∙ placed_over b items (first_place b) (subst (λ n. IsAt b (first_place b) n) (sym count) (at_first b area)) between (without_spill celled (first_place b) m) (λ p out.
        ap (λ (n : Contents Cell). finite.get n p) e ∙ get-remade _ room p
        ∙ ap (option_and_then (λ x. Some (cond (is_in_block array.block p) (unspilled celled (first_place array.block) x) x))) (added_outside placeholder b m room has p (sym (first_left b p) ∙ out))
        ∙ sym (get-remade _ m p) ∙ ap (λ (n : Contents Cell). finite.get n p) emptied_whole)
