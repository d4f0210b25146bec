-- The arrays with a cell in a block are released, one after another.
use Rattle.std.proofs.Common.{◌≡◌, ◌∙◌, refl, sym, ap, subst, Bool, true, false, cond, not, ◌||◌, Option, Some, None, IsSome}
use Rattle.std.proofs.lemmas.Bool.{and_from, both_ways}
use Rattle.std.specs.FinMap as finite
use Rattle.std.specs.Option.{option_and_then}
use Rattle.ic_cells.specs.declared.cell.Cell.{Cell}
use Rattle.ic_cells.specs.declared.cell.Cell.TheVariants as cells
use Rattle.ic_grid.proofs.ArrayLemmas.{anchor_at_of, anchored, array_there, place_in_area}
use Rattle.ic_grid.proofs.BlockLemmas.{area_places, common, meets_at}
use Rattle.ic_grid.proofs.BlockLemmas.{same_by_parts}
use Rattle.ic_grid.proofs.ChangeLemmas.{first_from, right_is}
use Rattle.ic_grid.proofs.ContentsLemmas.{both_made, get-remade, remade_alike, same_contents, same_is, same_itself, same_turned}
use Rattle.ic_grid.proofs.LoosenLemmas.{Loosens, loosened_arrays}
use Rattle.ic_grid.proofs.WalkLemmas.{by_side, in_block}
use Rattle.ic_grid.proofs.WriteLemmas.{IsLooseCell, after_release, either, free_cell, released_at}
use Rattle.ic_grid.specs.Arrays.{anchor_at, anchor_of, array_at, array_of, reaches}
use Rattle.ic_grid.specs.Block.{Place, block_at, blocks_meet, first_place, is_area, is_in_block, same_place}
use Rattle.ic_grid.specs.Conditions.{AreArrays, AreInSheet}
use Rattle.ic_grid.specs.Contents.{Contents, remade}
use Rattle.ic_grid.specs.Prepare.{anchor_reset, loosened, loosened_in, prepared, released, released_if, unspilled}
use Rattle.ic_grid.specs.Shape.{celled, shape_of}
use Rattle.ic_grid.specs.Walk.{HasNoneIn, IsFirstIn, is_from, right_of}
use Rattle.ic_grid.specs.declared.block.Array.{Array}
use Rattle.ic_grid.specs.declared.block.Block.{Block}
use Rattle.ic_laws.proofs.General.{chained as there}

abbrev pub test_of : (Place → Bool) → Option Place → Bool
test_of test None = false
test_of test (Some a) = test a

-- the arrays whose formulas stand at the places that pass a test are released
abbrev pub released_cell : (Place → Bool) → Place → Cell → Cell
released_cell test q x = cond (test_of test (anchor_of q (shape_of x))) (loosened celled x) x

abbrev pub released_where : (Place → Bool) → Contents Cell → Contents Cell
released_where test m = remade (λ q x. Some (released_cell test q x)) m

-- and one more
abbrev pub and_at : (Place → Bool) → Place → Place → Bool
and_at test a b = test b || same_place b a

released_again : (test : Place → Bool) (a q : Place) (x : Cell) → after_release a q (released_cell test q x) ≡ released_cell (and_at test a) q x
released_again test a q (cells.EmptyCell s) = either (same_place q a) (cells.EmptyCell s)
released_again test a q (cells.BooleanCell v s) = either (same_place q a) (cells.BooleanCell v s)
released_again test a q (cells.NumberCell v s) = either (same_place q a) (cells.NumberCell v s)
released_again test a q (cells.ErrorCell v s) = either (same_place q a) (cells.ErrorCell v s)
released_again test a q (cells.SharedString v s) = either (same_place q a) (cells.SharedString v s)
released_again test a q (cells.CellFormula f s v) = either (same_place q a) (cells.CellFormula f s v)
released_again test a q (cells.ArrayFormula k f s r v) = by_test (test q) (same_place q a)
  where
    one : Cell
    one = cells.ArrayFormula k f s r v

    by_test : (t u : Bool) → (λ (y : Cell). cond u (anchor_reset celled (unspilled celled a y)) (unspilled celled a y)) (cond t (loosened celled one) one) ≡ cond (t || u) (loosened celled one) one
    by_test true true = refl
    by_test true false = refl
    by_test false true = refl
    by_test false false = refl
released_again test a q (cells.SpillCell s d v) = by_test (test d) (same_place q a)
  where
    one : Cell
    one = cells.SpillCell s d v

    left : (u w z : Bool) → w ≡ z → cond u (anchor_reset celled (cond w (cells.EmptyCell s) one)) (cond w (cells.EmptyCell s) one) ≡ cond z (cells.EmptyCell s) one
    left true true z e = ap (λ t. cond t (cells.EmptyCell s) one) e
    left true false z e = ap (λ t. cond t (cells.EmptyCell s) one) e
    left false w z e = ap (λ t. cond t (cells.EmptyCell s) one) e

    by_test : (t u : Bool) → (λ (y : Cell). cond u (anchor_reset celled (unspilled celled a y)) (unspilled celled a y)) (cond t (cells.EmptyCell s) one) ≡ cond (t || same_place d a) (cells.EmptyCell s) one
    by_test true u = either u (cells.EmptyCell s)
    by_test false u = left u (same_place a d) (same_place d a) (same_turned a d)

-- what a cell that was released is still one of, it was one of before
still_of : (t : Bool) (q a : Place) (x : Cell) → anchor_of q (shape_of (cond t (loosened celled x) x)) ≡ Some a → anchor_of q (shape_of x) ≡ Some a
still_of false q a x e = e
still_of true q a (cells.EmptyCell s) e = e
still_of true q a (cells.BooleanCell v s) e = cc
still_of true q a (cells.NumberCell v s) e = cc
still_of true q a (cells.ErrorCell v s) e = cc
still_of true q a (cells.SharedString v s) e = cc
still_of true q a (cells.CellFormula f s v) e = cc
still_of true q a (cells.ArrayFormula k f s r v) e = e
still_of true q a (cells.SpillCell s d v) e = cc

pub loose_now : (q : Place) (x : Cell) → IsLooseCell (loosened celled x)
loose_now q (cells.EmptyCell s) = refl
loose_now q (cells.BooleanCell v s) = refl
loose_now q (cells.NumberCell v s) = refl
loose_now q (cells.ErrorCell v s) = refl
loose_now q (cells.SharedString v s) = refl
loose_now q (cells.CellFormula f s v) = refl
loose_now q (cells.ArrayFormula k f s r v) = refl
loose_now q (cells.SpillCell s d v) = refl

module _ (m : Contents Cell) where
  module _ (test : Place → Bool) where
    cell_at : (q : Place) (x : Cell) → finite.get m q ≡ Some x → finite.get (released_where test m) q ≡ Some (released_cell test q x)
    cell_at q x e = get-remade _ m q ∙ ap (option_and_then (λ y. Some (released_cell test q y))) e

    cell_of : (q : Place) (y : Cell) → finite.get (released_where test m) q ≡ Some y → (x : Cell) × (finite.get m q ≡ Some x) × (released_cell test q x ≡ y)
    cell_of q y e =
        let t = there (λ x. Some (released_cell test q x)) (finite.get m q) y (sym (get-remade _ m q) ∙ e) in
        let some : Some (released_cell test q t.0) ≡ Some y = t.2 in
        (t.0, t.1, cc)

    pub released_loosens : Loosens celled m (released_where test m) test
    released_loosens = record { kept = kept; loose = left }
      where
        kept : (q a : Place) → anchor_at celled m q ≡ Some a → test a ≡ false → finite.get (released_where test m) q ≡ finite.get m q
        kept q a e t =
            let x = there (λ y. anchor_of q (shape_of y)) (finite.get m q) a e in
            cell_at q x.0 x.1 ∙ ap (λ b. Some (cond b (loosened celled x.0) x.0)) (ap (test_of test) x.2 ∙ t) ∙ sym x.1

        left : (q : Place) → ((a : Place) → anchor_at celled m q ≡ Some a → test a ≡ true) → (y : Cell) → finite.get (released_where test m) q ≡ Some y → IsLooseCell y
        left q h y e =
            let x = cell_of q y e in
            subst IsLooseCell x.2 (by_anchor x.0 x.1 (anchor_of q (shape_of x.0)) refl)
          where
            by_anchor : (x : Cell) → finite.get m q ≡ Some x → (o : Option Place) → anchor_of q (shape_of x) ≡ o → IsLooseCell (released_cell test q x)
            by_anchor x is None n =
                subst (λ b. IsLooseCell (cond b (loosened celled x) x)) (sym (ap (test_of test) n))
                (free_cell q x (λ b f. let never : None ≡ Some b = sym n ∙ f in cc))
            by_anchor x is (Some a) n =
                subst (λ b. IsLooseCell (cond b (loosened celled x) x)) (sym (ap (test_of test) n ∙ h a (ap (option_and_then (λ y. anchor_of q (shape_of y))) is ∙ n)))
                (loose_now q x)

    pub released_inside : AreInSheet celled m → AreInSheet celled (released_where test m)
    released_inside inside q y e = let x = cell_of q y e in inside q x.0 x.1

    pub released_arrays : AreInSheet celled m → AreArrays celled m → AreArrays celled (released_where test m)
    released_arrays inside ok = loosened_arrays celled m (released_where test m) test released_loosens ok (released_inside inside)

    again : (a : Place) → released celled a (released_where test m) ≡ released_where (and_at test a) m
    again a =
        same_contents _ _ (λ q.
        released_at (released_where test m) a q ∙ ap (option_and_then (λ x. Some (after_release a q x))) (get-remade _ m q)
        ∙ both_made (λ x. Some (released_cell test q x)) (λ x. Some (after_release a q x)) (finite.get m q)
        ∙ each q (finite.get m q) ∙ sym (get-remade _ m q))
      where
        each : (q : Place) (o : Option Cell) → option_and_then (λ x. Some (after_release a q (released_cell test q x))) o ≡ option_and_then (λ x. Some (released_cell (and_at test a) q x)) o
        each q None = refl
        each q (Some x) = ap Some (released_again test a q x)

  nothing_released : m ≡ released_where (λ a. false) m
  nothing_released = same_contents _ _ (λ q. each q (finite.get m q) ∙ sym (get-remade _ m q))
    where
      none : (q : Place) (x : Cell) (o : Option Place) → x ≡ cond (test_of (λ a. false) o) (loosened celled x) x
      none q x None = refl
      none q x (Some a) = refl

      each : (q : Place) (o : Option Cell) → o ≡ option_and_then (λ x. Some (released_cell (λ a. false) q x)) o
      each q None = refl
      each q (Some x) = ap Some (none q x (anchor_of q (shape_of x)))

  -- the array of one formula is released
  pub released_is : (a : Place) → released celled a m ≡ released_where (and_at (λ c. false) a) m
  released_is a = ap (released celled a) nothing_released ∙ again (λ c. false) a

  -- how far the arrays of a block are released: those that have a cell in it before a place
  pub record Progress (b : Block) (at : Place) (now : Contents Cell) : Type 0 where
    pub test : Place → Bool
    pub is : now ≡ released_where test m
    pub sound : (a : Place) → test a ≡ true → (p : Place) × (is_in_block b p ≡ true) × (anchor_at celled m p ≡ Some a)
    pub complete : (p a : Place) → is_in_block b p ≡ true → is_from at p ≡ false → anchor_at celled m p ≡ Some a → test a ≡ true

  pub progress_begun : (b : Block) (at : Place) → at ≡ first_place b → Progress b at m
  progress_begun b at e = record {
    test = λ a. false;
    is = nothing_released;
    sound = λ a t. let never : false ≡ true = t in cc;
    complete = λ p a within before anchor. absurd (both_ways (is_from at p) before (ap (λ (n : Place). is_from n p) e ∙ first_from b p (in_block b p within)));
  }

  module _ (b : Block) (at : Place) (now : Contents Cell) (so : Progress b at now) where
    pub progress_arrays : AreInSheet celled m → AreArrays celled m → AreArrays celled now
    progress_arrays inside ok = subst (λ (n : Contents Cell). AreArrays celled n) (sym so.is) (released_arrays so.test inside ok)

    there_still : (q : Place) (x : Cell) → finite.get m q ≡ Some x → finite.get now q ≡ Some (released_cell so.test q x)
    there_still q x e = ap (λ (n : Contents Cell). finite.get n q) so.is ∙ cell_at so.test q x e

    pub progress_more : (p : Place) → IsFirstIn now b at p → (after : Contents Cell) → after ≡ prepared celled p now → (next : Place) → next ≡ right_of p → Progress b next after
    progress_more p first after is next step = by_anchor (anchor_at celled now p) refl
      where
        passed : (q : Place) → is_in_block b q ≡ true → is_from next q ≡ false → (x : Cell) → finite.get m q ≡ Some x → is_from at q ≡ true → q ≡ p
        passed q within before x e behind =
            by_side (is_from p q)
            (λ t. same_is q p (same_by_parts q p ∙ sym (right_is p q t) ∙ ap not (ap (λ (n : Place). is_from n q) (sym step) ∙ before)))
            (λ t. let never : None ≡ Some (released_cell so.test q x) = sym (first.first q (and_from (is_in_block b q) (is_from at q) within behind) t) ∙ there_still q x e in cc)

        was_of : (a : Place) → anchor_at celled now p ≡ Some a → anchor_at celled m p ≡ Some a
        was_of a e =
            let y = there (λ y. anchor_of p (shape_of y)) (finite.get now p) a e in
            let x = cell_of so.test p y.0 (sym (ap (λ (n : Contents Cell). finite.get n p) so.is) ∙ y.1) in
            ap (option_and_then (λ y. anchor_of p (shape_of y))) x.1
            ∙ still_of (test_of so.test (anchor_of p (shape_of x.0))) p a x.0 (ap (λ z. anchor_of p (shape_of z)) x.2 ∙ y.2)

        at_p : (a : Place) → anchor_at celled m p ≡ Some a → so.test a ≡ false → anchor_at celled now p ≡ Some a
        at_p a e t =
            let x = there (λ y. anchor_of p (shape_of y)) (finite.get m p) a e in
            ap (option_and_then (λ y. anchor_of p (shape_of y))) (there_still p x.0 x.1)
            ∙ ap (λ u. anchor_of p (shape_of (cond u (loosened celled x.0) x.0))) (ap (test_of so.test) x.2 ∙ t) ∙ x.2

        by_anchor : (o : Option Place) → anchor_at celled now p ≡ o → Progress b next after
        by_anchor None e = record {
          test = so.test;
          is = is ∙ ap (λ o. released_if celled o now) e ∙ so.is;
          sound = so.sound;
          complete = λ q a within before anchor.
              by_side (is_from at q)
              (λ t.
              let x = there (λ y. anchor_of q (shape_of y)) (finite.get m q) a anchor in
              let same : q ≡ p = passed q within before x.0 x.1 t in
              by_side (so.test a) (λ u. u) (λ u.
              let never : None ≡ Some a = sym e ∙ at_p a (ap (anchor_at celled m) (sym same) ∙ anchor) u in cc))
              (λ t. so.complete q a within t anchor);
        }
        by_anchor (Some c) e = record {
          test = and_at so.test c;
          is = is ∙ ap (λ o. released_if celled o now) e ∙ ap (released celled c) so.is ∙ again so.test c;
          sound = λ a t. by_side (so.test a) (so.sound a) (λ u. sound_new a (ap (λ s. s || same_place a c) (sym u) ∙ t));
          complete = λ q a within before anchor.
              by_side (is_from at q)
              (λ t.
              let x = there (λ y. anchor_of q (shape_of y)) (finite.get m q) a anchor in
              let same : q ≡ p = passed q within before x.0 x.1 t in
              by_side (so.test a) (λ u. ap (λ s. s || same_place a c) u) (λ u.
              let one : Some c ≡ Some a = sym e ∙ at_p a (ap (anchor_at celled m) (sym same) ∙ anchor) u in
              let both : c ≡ a = cc in
              ap (λ s. s || same_place a c) u ∙ ap (same_place a) both ∙ same_itself a))
              (λ t. ap (λ s. s || same_place a c) (so.complete q a within t anchor));
        }
          where
            sound_new : (a : Place) → same_place a c ≡ true → (q : Place) × (is_in_block b q ≡ true) × (anchor_at celled m q ≡ Some a)
            sound_new a t = (p, first.within, was_of a (e ∙ ap Some (sym (same_is a c t))))

    module _ (ok : AreArrays celled m) (area : is_area b ≡ true) (none : HasNoneIn now b at) where
      all : (p a : Place) → is_in_block b p ≡ true → anchor_at celled m p ≡ Some a → so.test a ≡ true
      all p a within anchor =
          by_side (is_from at p)
          (λ t.
          let x = there (λ y. anchor_of p (shape_of y)) (finite.get m p) a anchor in
          let never : None ≡ Some (released_cell so.test p x.0) = sym (none p (and_from (is_in_block b p) (is_from at p) within t)) ∙ there_still p x.0 x.1 in cc)
          (λ t. so.complete p a within t anchor)

      reached : (a : Place) (array : Array) → array_of celled m a ≡ Some array → so.test a ≡ blocks_meet array.block b
      reached a array e = by_side (so.test a) yes no
        where
          yes : so.test a ≡ true → so.test a ≡ blocks_meet array.block b
          yes t =
              let p = so.sound a t in
              let has = array_there celled m a array e in
              t ∙ sym (ap (λ (one : Array). blocks_meet one.block b) (sym has.4) ∙ meets_at (block_at a has.0 has.1) b p.0 (place_in_area celled m ok p.0 a p.2 has.0 has.1 has.2 has.3) p.1)

          no : so.test a ≡ false → so.test a ≡ blocks_meet array.block b
          no t = t ∙ sym (by_side (blocks_meet array.block b) (λ u. absurd (both_ways (so.test a) t (meets u))) (λ u. u))
            where
              meets : blocks_meet array.block b ≡ true → so.test a ≡ true
              meets u =
                  let has = array_there celled m a array e in
                  let p = common (block_at a has.0 has.1) b (area_places (block_at a has.0 has.1) (ok.areas a has.0 has.1 has.2 has.3)) (area_places b area) (ap (λ (one : Array). blocks_meet one.block b) has.4 ∙ u) in
                  all p.0 a p.2 (by_side (same_place p.0 a) (λ s. ap (anchor_at celled m) (same_is p.0 a s) ∙ anchor_at_of celled m a _ has.3)
                  (λ s. anchor_at_of celled m p.0 _ (ok.filled a p.0 has.0 has.1 has.2 has.3 p.1 s)))

      pub progress_done : now ≡ loosened_in celled b m
      progress_done = so.is ∙ remade_alike _ _ m (λ q x e. ap (λ t. Some (cond t (loosened celled x) x)) (each q x e))
        where
          each : (q : Place) (x : Cell) → finite.get m q ≡ Some x → test_of so.test (anchor_of q (shape_of x)) ≡ reaches b (array_at celled m q)
          each q x e = by_anchor (anchor_of q (shape_of x)) refl
            where
              is_at : (o : Option Place) → anchor_of q (shape_of x) ≡ o → array_at celled m q ≡ option_and_then (array_of celled m) o
              is_at o n = ap (option_and_then (array_of celled m)) (ap (option_and_then (λ y. anchor_of q (shape_of y))) e ∙ n)

              by_anchor : (o : Option Place) → anchor_of q (shape_of x) ≡ o → test_of so.test (anchor_of q (shape_of x)) ≡ reaches b (array_at celled m q)
              by_anchor None n = ap (test_of so.test) n ∙ sym (ap (reaches b) (is_at None n))
              by_anchor (Some a) n =
                  let found = some_of (array_of celled m a) (anchored celled m ok q a (ap (option_and_then (λ y. anchor_of q (shape_of y))) e ∙ n)) in
                  ap (test_of so.test) n ∙ reached a found.0 found.1 ∙ sym (ap (reaches b) (is_at (Some a) n ∙ found.1))
                where
                  some_of : (o : Option Array) → IsSome o → (array : Array) × (o ≡ Some array)
                  some_of None h = let never : false ≡ true = h in cc
                  some_of (Some array) h = (array, refl)
