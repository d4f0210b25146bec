-- A cell is written: what stands where then, and that all that holds of a sheet still does.
use Rattle.std.proofs.Common.{◌≡◌, ◌∙◌, refl, sym, ap, subst, Bool, true, false, cond, Option, Some, None, is_some, IsSome, List, [], arith}
use Rattle.std.proofs.lemmas.Bool.{both_ways}
use Rattle.std.specs.FinMap as finite
use Rattle.std.specs.Option.{option_and_then}
use Rattle.ic_cells.specs.Maps.{place_cmp}
use Rattle.ic_cells.specs.declared.cell.Cell.{Cell}
use Rattle.ic_cells.specs.declared.layout.Merge.{Merge}
use Rattle.ic_cells.specs.declared.cell.Cell.TheVariants as cells
use Rattle.ic_laws.proofs.core.CellWritten.{place_cmp_total}
use Rattle.ic_grid.proofs.ContentsLemmas.{both_made, get-remade, same_is, same_itself, same_turned}
use Rattle.ic_grid.proofs.LoosenLemmas.{Loosens, loosened_arrays, loosened_merges}
use Rattle.ic_grid.specs.Arrays.{anchor_at, anchor_of}
use Rattle.ic_grid.specs.Block.{Place, is_in_sheet, same_place}
use Rattle.ic_grid.specs.Conditions.{AreInSheet, AreMerges}
use Rattle.ic_grid.specs.Contents.{Contents, changed_where}
use Rattle.ic_grid.specs.Prepare.{anchor_reset, prepared, released, released_if, unspilled, written}
use Rattle.ic_grid.specs.Shape.{celled, is_loose, reset, shape_of}
use Rattle.ic_grid.specs.Whole.{IsGrid}
use Rattle.ic_grid.specs.declared.grid.Grid.{Grid}
use Rattle.ic_laws.proofs.General.{some_there, chained as there}

some_kept : {X : Type 0} (o : Option X) (g : X → X) → is_some (option_and_then (λ x. Some (g x)) o) ≡ is_some o
some_kept None g = refl
some_kept (Some x) g = refl

-- where something stands, something stands after it was changed
pub changed_there : {X : Type 0} (t : Place → Bool) (f : X → X) (m : Contents X) (q : Place) → is_some (finite.get (changed_where t f m) q) ≡ is_some (finite.get m q)
changed_there t f m q = ap is_some (get-remade _ m q) ∙ some_kept (finite.get m q) (λ x. cond (t q) (f x) x)

pub none_there : {X : Type 0} (o : Option X) → is_some o ≡ false → o ≡ None
none_there None e = refl
none_there (Some x) e = cc

pub either : (t : Bool) (x : Cell) → cond t x x ≡ x
either true x = refl
either false x = refl

pub first_of_two : {A : Type 0} (t : Bool) (x y : A) → t ≡ true → cond t x y ≡ x
first_of_two true x y e = refl
first_of_two false x y e = cc

pub second_of_two : {A : Type 0} (t : Bool) (x y : A) → t ≡ false → cond t x y ≡ y
second_of_two true x y e = cc
second_of_two false x y e = refl

-- what becomes of the cell at a place, q, when the array of the formula at another, a, is released
abbrev pub after_release : Place → Place → Cell → Cell
after_release a q x = cond (same_place q a) (anchor_reset celled (unspilled celled a x)) (unspilled celled a x)

abbrev pub IsLooseCell : Cell → Type 0
IsLooseCell x = is_loose (shape_of x) ≡ true

-- a cell of another array stays
kept_cell : (a q : Place) (x : Cell) (b : Place) → anchor_of q (shape_of x) ≡ Some b → same_place b a ≡ false → after_release a q x ≡ x
kept_cell a q (cells.EmptyCell s) b e t = cc
kept_cell a q (cells.BooleanCell v s) b e t = cc
kept_cell a q (cells.NumberCell v s) b e t = cc
kept_cell a q (cells.ErrorCell v s) b e t = cc
kept_cell a q (cells.SharedString v s) b e t = cc
kept_cell a q (cells.CellFormula f s v) b e t = cc
kept_cell a q (cells.ArrayFormula k f s r v) b e t =
    let one : q ≡ b = cc in
    second_of_two (same_place q a) (reset celled (cells.ArrayFormula k f s r v)) (cells.ArrayFormula k f s r v) (ap (λ p. same_place p a) one ∙ t)
kept_cell a q (cells.SpillCell s d v) b e t =
    let one : d ≡ b = cc in
    let same : unspilled celled a (cells.SpillCell s d v) ≡ cells.SpillCell s d v =
    second_of_two (same_place a d) (cells.EmptyCell s) (cells.SpillCell s d v) (same_turned a d ∙ ap (λ p. same_place p a) one ∙ t) in
    ap (λ y. cond (same_place q a) (anchor_reset celled y) y) same ∙ either (same_place q a) (cells.SpillCell s d v)

loose_either : (t : Bool) (x : Cell) → IsLooseCell x → IsLooseCell (cond t x x)
loose_either t x e = ap (λ y. is_loose (shape_of y)) (either t x) ∙ e

-- what is left of a released array is loose
loose_cell : (a q : Place) (x : Cell) → ((b : Place) → anchor_of q (shape_of x) ≡ Some b → same_place b a ≡ true) → IsLooseCell (after_release a q x)
loose_cell a q (cells.EmptyCell s) h = loose_either (same_place q a) (cells.EmptyCell s) refl
loose_cell a q (cells.BooleanCell v s) h = loose_either (same_place q a) (cells.BooleanCell v s) refl
loose_cell a q (cells.NumberCell v s) h = loose_either (same_place q a) (cells.NumberCell v s) refl
loose_cell a q (cells.ErrorCell v s) h = loose_either (same_place q a) (cells.ErrorCell v s) refl
loose_cell a q (cells.SharedString v s) h = loose_either (same_place q a) (cells.SharedString v s) refl
loose_cell a q (cells.CellFormula f s v) h = loose_either (same_place q a) (cells.CellFormula f s v) refl
loose_cell a q (cells.ArrayFormula k f s r v) h =
    ap (λ y. is_loose (shape_of y)) (first_of_two (same_place q a) (reset celled (cells.ArrayFormula k f s r v)) (cells.ArrayFormula k f s r v) (h q refl)) ∙ refl
loose_cell a q (cells.SpillCell s d v) h =
    let same : unspilled celled a (cells.SpillCell s d v) ≡ cells.EmptyCell s =
    first_of_two (same_place a d) (cells.EmptyCell s) (cells.SpillCell s d v) (same_turned a d ∙ h d refl) in
    ap (λ y. is_loose (shape_of (cond (same_place q a) (anchor_reset celled y) y))) same ∙ loose_either (same_place q a) (cells.EmptyCell s) refl

-- a cell of no array is loose
pub free_cell : (q : Place) (x : Cell) → ((b : Place) → anchor_of q (shape_of x) ≡ Some b → false ≡ true) → IsLooseCell x
free_cell q (cells.EmptyCell s) h = refl
free_cell q (cells.BooleanCell v s) h = refl
free_cell q (cells.NumberCell v s) h = refl
free_cell q (cells.ErrorCell v s) h = refl
free_cell q (cells.SharedString v s) h = refl
free_cell q (cells.CellFormula f s v) h = refl
free_cell q (cells.ArrayFormula k f s r v) h = let never : false ≡ true = h q refl in cc
free_cell q (cells.SpillCell s d v) h = h d refl

-- a place is the one that something was found to begin at
abbrev pub begins_at : Option Place → Place → Bool
begins_at None b = false
begins_at (Some a) b = same_place b a

module _ (m : Contents Cell) where
  anchor_there : (q : Place) (x : Cell) → finite.get m q ≡ Some x → anchor_at celled m q ≡ anchor_of q (shape_of x)
  anchor_there q x e = ap (option_and_then (λ y. anchor_of q (shape_of y))) e

  pub released_at : (a q : Place) → finite.get (released celled a m) q ≡ option_and_then (λ x. Some (after_release a q x)) (finite.get m q)
  released_at a q =
      get-remade _ _ q ∙ ap (option_and_then (λ y. Some (cond (same_place q a) (anchor_reset celled y) y))) (get-remade _ m q)
      ∙ both_made (λ x. Some (unspilled celled a x)) (λ y. Some (cond (same_place q a) (anchor_reset celled y) y)) (finite.get m q)

  kept_if : (o : Option Place) (q b : Place) → anchor_at celled m q ≡ Some b → begins_at o b ≡ false → finite.get (released_if celled o m) q ≡ finite.get m q
  kept_if None q b e t = refl
  kept_if (Some a) q b e t =
      let x = there (λ y. anchor_of q (shape_of y)) (finite.get m q) b e in
      released_at a q ∙ ap (option_and_then (λ y. Some (after_release a q y))) x.1 ∙ ap Some (kept_cell a q x.0 b x.2 t) ∙ sym x.1

  loose_if : (o : Option Place) (q : Place) → ((b : Place) → anchor_at celled m q ≡ Some b → begins_at o b ≡ true) → (x : Cell) → finite.get (released_if celled o m) q ≡ Some x → IsLooseCell x
  loose_if None q h x e = free_cell q x (λ b f. h b (anchor_there q x e ∙ f))
  loose_if (Some a) q h x e =
      let y = there (λ z. Some (after_release a q z)) (finite.get m q) x (sym (released_at a q) ∙ e) in
      let some : Some (after_release a q y.0) ≡ Some x = y.2 in
      let same : after_release a q y.0 ≡ x = cc in
      ap (λ z. is_loose (shape_of z)) (sym same) ∙ loose_cell a q y.0 (λ b f. h b (anchor_there q y.0 y.1 ∙ f))

  there_if : (o : Option Place) (q : Place) → is_some (finite.get (released_if celled o m) q) ≡ is_some (finite.get m q)
  there_if None q = refl
  there_if (Some a) q =
      changed_there (λ p. same_place p a) (anchor_reset celled) (changed_where (λ p. true) (unspilled celled a) m) q ∙ changed_there (λ p. true) (unspilled celled a) m q

  module _ (p : Place) where
    -- a place of nothing needs no preparing; and where something stood, something still does
    pub fresh : is_some (finite.get m p) ≡ false → prepared celled p m ≡ m
    fresh e = ap (λ o. released_if celled (option_and_then (λ y. anchor_of p (shape_of y)) o) m) (none_there (finite.get m p) e)

    pub still_there : is_some (finite.get m p) ≡ true → IsSome (finite.get (prepared celled p m) p)
    still_there e = there_if (anchor_at celled m p) p ∙ e

    module _ (x : Cell) where
      written_at : (q : Place) → finite.get (written celled p x m) q ≡ cond (same_place q p) (Some x) (finite.get (prepared celled p m) q)
      written_at q = finite.get-insert place_cmp_total (prepared celled p m) p x q

      at_itself : (q b : Place) → q ≡ p → anchor_at celled m q ≡ Some b → begins_at (anchor_at celled m p) b ≡ true
      at_itself q b same e = ap (λ o. begins_at o b) (ap (anchor_at celled m) (sym same) ∙ e) ∙ same_itself b

      pub written_loosens : IsLooseCell x → Loosens celled m (written celled p x m) (begins_at (anchor_at celled m p))
      written_loosens loose = record { kept = kept; loose = left }
        where
          kept : (q b : Place) → anchor_at celled m q ≡ Some b → begins_at (anchor_at celled m p) b ≡ false → finite.get (written celled p x m) q ≡ finite.get m q
          kept q b e t = by_place (same_place q p) refl
            where
              by_place : (s : Bool) → same_place q p ≡ s → finite.get (written celled p x m) q ≡ finite.get m q
              by_place true s = absurd (both_ways (begins_at (anchor_at celled m p) b) t (at_itself q b (same_is q p s) e))
              by_place false s =
                  written_at q ∙ second_of_two (same_place q p) (Some x) (finite.get (prepared celled p m) q) s ∙ kept_if (anchor_at celled m p) q b e t

          left : (q : Place) → ((b : Place) → anchor_at celled m q ≡ Some b → begins_at (anchor_at celled m p) b ≡ true) → (y : Cell) → finite.get (written celled p x m) q ≡ Some y → IsLooseCell y
          left q h y e = by_place (same_place q p) refl
            where
              by_place : (s : Bool) → same_place q p ≡ s → IsLooseCell y
              by_place true s =
                  let some : Some x ≡ Some y = sym (first_of_two (same_place q p) (Some x) (finite.get (prepared celled p m) q) s) ∙ sym (written_at q) ∙ e in
                  let same : x ≡ y = cc in
                  ap (λ z. is_loose (shape_of z)) (sym same) ∙ loose
              by_place false s =
                  loose_if (anchor_at celled m p) q h y (sym (second_of_two (same_place q p) (Some x) (finite.get (prepared celled p m) q) s) ∙ sym (written_at q) ∙ e)

      pub written_inside : AreInSheet celled m → is_in_sheet p ≡ true → AreInSheet celled (written celled p x m)
      written_inside inside here q y e = by_place (same_place q p) refl
        where
          by_place : (s : Bool) → same_place q p ≡ s → is_in_sheet q ≡ true
          by_place true s = ap is_in_sheet (same_is q p s) ∙ here
          by_place false s =
              let now : finite.get (prepared celled p m) q ≡ Some y = sym (second_of_two (same_place q p) (Some x) (finite.get (prepared celled p m) q) s) ∙ sym (written_at q) ∙ e in
              let was = some_there (finite.get m q) (sym (there_if (anchor_at celled m p) q) ∙ ap is_some now) in
              inside q was.0 was.1

-- a sheet in which a cell was written
pub written_whole : (grid : Grid) (p : Place) (x : Cell) → IsGrid grid → is_in_sheet p ≡ true → is_loose (shape_of x) ≡ true → (after : Grid) → after ≡ record grid { cells = written celled p x grid.cells } → IsGrid after
written_whole grid p x ok here loose after e =
    let inside = written_inside grid.cells p x ok.inside here in
    let l = written_loosens grid.cells p x loose in
    subst (λ (g : Grid). IsGrid g) (sym e) (record {
      inside = inside;
      arrays = loosened_arrays celled grid.cells (written celled p x grid.cells) _ l ok.arrays inside;
      merges = loosened_merges celled grid.cells (written celled p x grid.cells) _ l grid.merged_cells ok.merges;
    })

nothing : (m : Contents Cell) → m ≡ finite.empty → (p : Place) (x : Cell) {P : Type 0} → finite.get m p ≡ Some x → P
nothing m e p x f =
    let never : None ≡ Some x = sym (finite.get-empty place_cmp p) ∙ ap (λ (n : Contents Cell). finite.get n p) (sym e) ∙ f in
    cc

-- all that holds of a sheet holds of an empty one
pub empty_whole : (grid : Grid) → grid.cells ≡ finite.empty → grid.merged_cells ≡ [] → IsGrid grid
empty_whole grid e f = record {
  inside = λ p x h. nothing grid.cells e p x h;
  arrays = record {
    areas = λ a w t k has. nothing grid.cells e a has.0 has.1;
    filled = λ a p w t k has within other. nothing grid.cells e a has.0 has.1;
    owned = λ a p has. nothing grid.cells e p has.0 has.1;
  };
  merges = subst (λ (merges : List Merge). AreMerges celled grid.cells merges) (sym f) (record {
    areas = λ k d less. absurd (omega arith);
    apart = λ i j one other less here later. let never : None ≡ Some one = here in cc;
    arrays = λ a array has many. refl;
  });
}
