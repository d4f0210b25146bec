-- The commands that write a cell keep what always holds of a book.
use Rattle.std.proofs.Common.{◌≡◌, ◌⊎◌, Bool, true, false, cond, Option, Some, None, refl, sym, ap, subst, ◌∙◌, inl, inr}
use mathlib.Core.Bool.{true≢false}
use Rattle.std.proofs.lemmas.Bool.{cases_Bool}
use Rattle.std.specs.FinMap as finite
use Rattle.std.specs.Prelude.{option_and_then}
use Rattle.ic_laws.proofs.core.CellWritten.{place_cmp_total}
use Rattle.ic_laws.specs.CoreBook.{CellPlace}
use Rattle.ic_grid.proofs.ContentsLemmas.{get-remade, same_is, same_itself, same_turned}
use Rattle.ic_grid.proofs.LoosenLemmas.{Loosens}
use Rattle.ic_grid.specs.Arrays.{anchor_at, anchor_of}
use Rattle.ic_grid.specs.Block.{is_in_sheet, same_place}
use Rattle.ic_grid.specs.Conditions.{AreInSheet}
use Rattle.ic_grid.specs.Contents.{Contents}
use Rattle.ic_grid.specs.Prepare.{anchor_reset, prepared, released, released_if, unspilled, without_spill, written}
use Rattle.ic_grid.specs.Shape.{is_loose, is_spill_of}
use Rattle.ic_machine.specs.Content.{AnchorContent, BoolContent, Content, EmptyContent, ErrContent, FormulaContent, NumContent, SpillContent, TextContent, formula_index, held, shape_of, style_of}
use Rattle.ic_machine.specs.Valid.{HasAmount}
use Rattle.ic_machine.proofs.as_core.FormulaLemmas.{reset_formula, unspilled_formula}
use Rattle.ic_grid.proofs.WriteLemmas.{first_of_two as cond_true, second_of_two as cond_false}
use Rattle.ic_laws.proofs.General.{chained as there}

cond_same : {A : Type 0} (t : Bool) (x : A) → cond t x x ≡ x
cond_same true x = refl
cond_same false x = refl

-- One content of a place q after the array of the formula at a is released. ----

abbrev pub reset_at : Bool → Content → Content
reset_at t x = cond t (anchor_reset held x) x

abbrev pub released_one : CellPlace → CellPlace → Content → Content
released_one a q x = reset_at (same_place q a) (unspilled held a x)

both_made : (t : Bool) (a : CellPlace) (o : Option Content) → option_and_then (λ x. Some (reset_at t x)) (option_and_then (λ x. Some (unspilled held a x)) o) ≡ option_and_then (λ x. Some (reset_at t (unspilled held a x))) o
both_made t a None = refl
both_made t a (Some x) = refl

pub get_released : (a : CellPlace) (m : Contents Content) (q : CellPlace) → finite.get (released held a m) q ≡ option_and_then (λ x. Some (released_one a q x)) (finite.get m q)
get_released a m q =
    get-remade (λ q x. Some (reset_at (same_place q a) x)) (without_spill held a m) q
    ∙ ap (option_and_then (λ x. Some (reset_at (same_place q a) x))) (get-remade (λ q x. Some (unspilled held a x)) m q)
    ∙ both_made (same_place q a) a (finite.get m q)

kept_one : (a q b : CellPlace) (x : Content) → anchor_of q (shape_of x) ≡ Some b → same_place a b ≡ false → released_one a q x ≡ x
kept_one a q b (EmptyContent style) e f = cc
kept_one a q b (BoolContent truth style) e f = cc
kept_one a q b (NumContent amount style) e f = cc
kept_one a q b (ErrContent error_value style) e f = cc
kept_one a q b (TextContent text style) e f = cc
kept_one a q b (FormulaContent index value style) e f = cc
kept_one a q b (AnchorContent index area kind value style) e f =
    let same : q ≡ b = cc in
    cond_false (same_place q a) (anchor_reset held (AnchorContent index area kind value style)) (AnchorContent index area kind value style) (same_turned q a ∙ ap (same_place a) same ∙ f)
kept_one a q b (SpillContent c value style) e f =
    let same : c ≡ b = cc in
    ap (reset_at (same_place q a)) (cond_false (same_place a c) (EmptyContent style) (SpillContent c value style) (ap (same_place a) same ∙ f))
    ∙ cond_same (same_place q a) (SpillContent c value style)

pub loose_same : (t : Bool) (x : Content) → is_loose (shape_of x) ≡ true → is_loose (shape_of (cond t x x)) ≡ true
loose_same t x e = ap (λ (y : Content). is_loose (shape_of y)) (cond_same t x) ∙ e

loose_one : (a q : CellPlace) (x : Content) → ((b : CellPlace) → anchor_of q (shape_of x) ≡ Some b → same_place a b ≡ true) → is_loose (shape_of (released_one a q x)) ≡ true
loose_one a q (EmptyContent style) h = loose_same (same_place q a) (EmptyContent style) refl
loose_one a q (BoolContent truth style) h = loose_same (same_place q a) (BoolContent truth style) refl
loose_one a q (NumContent amount style) h = loose_same (same_place q a) (NumContent amount style) refl
loose_one a q (ErrContent error_value style) h = loose_same (same_place q a) (ErrContent error_value style) refl
loose_one a q (TextContent text style) h = loose_same (same_place q a) (TextContent text style) refl
loose_one a q (FormulaContent index value style) h = loose_same (same_place q a) (FormulaContent index value style) refl
loose_one a q (AnchorContent index area kind value style) h =
    ap (λ (t : Bool). is_loose (shape_of (reset_at t (AnchorContent index area kind value style)))) (same_turned q a ∙ h q refl)
loose_one a q (SpillContent c value style) h =
    ap (λ (t : Bool). is_loose (shape_of (reset_at (same_place q a) (cond t (EmptyContent style) (SpillContent c value style))))) (h c refl)
    ∙ loose_same (same_place q a) (EmptyContent style) refl

pub free_loose : (q : CellPlace) (x : Content) → ((b : CellPlace) → anchor_of q (shape_of x) ≡ Some b → ⊥) → is_loose (shape_of x) ≡ true
free_loose q (EmptyContent style) h = refl
free_loose q (BoolContent truth style) h = refl
free_loose q (NumContent amount style) h = refl
free_loose q (ErrContent error_value style) h = refl
free_loose q (TextContent text style) h = refl
free_loose q (FormulaContent index value style) h = refl
free_loose q (AnchorContent index area kind value style) h = absurd (h q refl)
free_loose q (SpillContent c value style) h = absurd (h c refl)

-- the style of a content stays
style_unspilled : (a : CellPlace) (x : Content) → style_of (unspilled held a x) ≡ style_of x
style_unspilled a x = style_by (is_spill_of a (shape_of x)) x
  where
    style_by : (t : Bool) (x : Content) → style_of (cond t (EmptyContent (style_of x)) x) ≡ style_of x
    style_by true x = refl
    style_by false x = refl

style_reset : (x : Content) → style_of (anchor_reset held x) ≡ style_of x
style_reset (EmptyContent style) = refl
style_reset (BoolContent truth style) = refl
style_reset (NumContent amount style) = refl
style_reset (ErrContent error_value style) = refl
style_reset (TextContent text style) = refl
style_reset (FormulaContent index value style) = refl
style_reset (AnchorContent index area kind value style) = refl
style_reset (SpillContent c value style) = refl

style_at_reset : (t : Bool) (x : Content) → style_of (reset_at t x) ≡ style_of x
style_at_reset true x = style_reset x
style_at_reset false x = refl

style_released : (a q : CellPlace) (x : Content) → style_of (released_one a q x) ≡ style_of x
style_released a q x = style_at_reset (same_place q a) (unspilled held a x) ∙ style_unspilled a x

index_reset : (t : Bool) (x : Content) → formula_index (reset_at t x) ≡ formula_index x
index_reset true x = reset_formula x
index_reset false x = refl

-- a number that stays is an amount as before
amount_reset : (x : Content) → HasAmount x → HasAmount (anchor_reset held x)
amount_reset (EmptyContent style) h = tt
amount_reset (BoolContent truth style) h = tt
amount_reset (NumContent amount style) h = h
amount_reset (ErrContent error_value style) h = tt
amount_reset (TextContent text style) h = tt
amount_reset (FormulaContent index value style) h = tt
amount_reset (AnchorContent index area kind value style) h = tt
amount_reset (SpillContent anchor value style) h = tt

amount_released : (a q : CellPlace) (x : Content) → HasAmount x → HasAmount (released_one a q x)
amount_released a q x h = reset (same_place q a) (unspilled held a x) (kept (is_spill_of a (shape_of x)))
  where
    kept : (t : Bool) → HasAmount (cond t (EmptyContent (style_of x)) x)
    kept true = tt
    kept false = h

    reset : (t : Bool) (y : Content) → HasAmount y → HasAmount (reset_at t y)
    reset true y g = amount_reset y g
    reset false y g = g

-- Contents after a place is prepared, and after it is written. ----

abbrev pub begins_at : Option CellPlace → CellPlace → Bool
begins_at None b = false
begins_at (Some a) b = same_place a b

-- what is there was there, with the same style, and a number is an amount where it was one
pub record Was (m : Contents Content) (q : CellPlace) (x : Content) : Type 0 where
  pub old : Content
  pub at : finite.get m q ≡ Some old
  pub style : style_of x ≡ style_of old
  pub index : formula_index x ≡ formula_index old
  pub amount : HasAmount old → HasAmount x

module _ (m : Contents Content) where
  pub kept_at : (o : Option CellPlace) (q b : CellPlace) → anchor_at held m q ≡ Some b → begins_at o b ≡ false → finite.get (released_if held o m) q ≡ finite.get m q
  kept_at None q b e f = refl
  kept_at (Some a) q b e f =
      let x = there (λ y. anchor_of q (shape_of y)) (finite.get m q) b e in
      get_released a m q ∙ ap (option_and_then (λ y. Some (released_one a q y))) x.1 ∙ ap (λ (y : Content). Some y) (kept_one a q b x.0 x.2 f) ∙ sym x.1

  anchor_there : (q : CellPlace) (x : Content) → finite.get m q ≡ Some x → anchor_at held m q ≡ anchor_of q (shape_of x)
  anchor_there q x e = ap (option_and_then (λ y. anchor_of q (shape_of y))) e

  pub loose_at : (o : Option CellPlace) (q : CellPlace) → ((b : CellPlace) → anchor_at held m q ≡ Some b → begins_at o b ≡ true) → (x : Content) → finite.get (released_if held o m) q ≡ Some x → is_loose (shape_of x) ≡ true
  loose_at None q h x e = free_loose q x (λ b f. true≢false (sym (h b (anchor_there q x e ∙ f))))
  loose_at (Some a) q h x e =
      let y = there (λ z. Some (released_one a q z)) (finite.get m q) x (sym (get_released a m q) ∙ e) in
      let some : Some (released_one a q y.0) ≡ Some x = y.2 in
      let same : released_one a q y.0 ≡ x = cc in
      subst (λ (z : Content). is_loose (shape_of z) ≡ true) same (loose_one a q y.0 (λ b f. h b (anchor_there q y.0 y.1 ∙ f)))

  pub was_at : (o : Option CellPlace) (q : CellPlace) (x : Content) → finite.get (released_if held o m) q ≡ Some x → Was m q x
  was_at None q x e = record { old = x; at = e; style = refl; index = refl; amount = λ h. h }
  was_at (Some a) q x e =
      let y = there (λ z. Some (released_one a q z)) (finite.get m q) x (sym (get_released a m q) ∙ e) in
      let some : Some (released_one a q y.0) ≡ Some x = y.2 in
      let same : released_one a q y.0 ≡ x = cc in
      record {
        old = y.0;
        at = y.1;
        style = ap style_of (sym same) ∙ style_released a q y.0;
        index = ap formula_index (sym same) ∙ index_reset (same_place q a) (unspilled held a y.0) ∙ unspilled_formula a y.0;
        amount = λ h. subst HasAmount same (amount_released a q y.0 h);
      }

  module _ (p : CellPlace) (x : Content) where
    written_at : (q : CellPlace) → finite.get (written held p x m) q ≡ cond (same_place q p) (Some x) (finite.get (prepared held p m) q)
    written_at q = finite.get-insert place_cmp_total (prepared held p m) p x q

    -- what stands somewhere then is the new content, or was there
    pub stands : (q : CellPlace) (y : Content) → finite.get (written held p x m) q ≡ Some y → ((q ≡ p) × (y ≡ x)) ⊎ ((same_place q p ≡ false) × (finite.get (prepared held p m) q ≡ Some y))
    stands q y e = elim (cases_Bool (same_place q p)) [
      | inl t ↦
          let some : Some x ≡ Some y = sym (cond_true (same_place q p) (Some x) (finite.get (prepared held p m) q) t) ∙ sym (written_at q) ∙ e in
          let same : x ≡ y = cc in
          inl (same_is q p t, sym same)
      | inr f ↦ inr (f, sym (cond_false (same_place q p) (Some x) (finite.get (prepared held p m) q) f) ∙ sym (written_at q) ∙ e)
    ]

    pub written_loosens : is_loose (shape_of x) ≡ true → Loosens held m (written held p x m) (begins_at (anchor_at held m p))
    written_loosens loose = record { kept = kept; loose = left }
      where
        kept : (q b : CellPlace) → anchor_at held m q ≡ Some b → begins_at (anchor_at held m p) b ≡ false → finite.get (written held p x m) q ≡ finite.get m q
        kept q b e t = elim (cases_Bool (same_place q p)) [
          | inl s ↦
              let begins : begins_at (anchor_at held m p) b ≡ true = ap (λ (o : Option CellPlace). begins_at o b) (ap (anchor_at held m) (sym (same_is q p s)) ∙ e) ∙ same_itself b in
              absurd (true≢false (sym begins ∙ t))
          | inr s ↦ written_at q ∙ cond_false (same_place q p) (Some x) (finite.get (prepared held p m) q) s ∙ kept_at (anchor_at held m p) q b e t
        ]

        left : (q : CellPlace) → ((b : CellPlace) → anchor_at held m q ≡ Some b → begins_at (anchor_at held m p) b ≡ true) → (y : Content) → finite.get (written held p x m) q ≡ Some y → is_loose (shape_of y) ≡ true
        left q h y e = elim (stands q y e) [
          | inl s ↦ ap (λ (z : Content). is_loose (shape_of z)) s.1 ∙ loose
          | inr s ↦ loose_at (anchor_at held m p) q h y s.1
        ]

    pub written_inside : AreInSheet held m → is_in_sheet p ≡ true → AreInSheet held (written held p x m)
    written_inside inside here q y e = elim (stands q y e) [
      | inl s ↦ ap is_in_sheet s.0 ∙ here
      | inr s ↦ let was = was_at (anchor_at held m p) q y s.1 in inside q was.old was.at
    ]
