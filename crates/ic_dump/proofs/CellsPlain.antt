-- A sheet into which nothing but formulas was written: no place is covered, and none is part of an array of several cells.
use Rattle.std.proofs.Common.{◌≡◌, ℕ, pos, List, [], ◌∷◌, ◌++◌, Bool, true, false, cond, ◌&&◌, Option, None, Some, Ok, refl, sym, ap, subst, ◌∙◌}
use Rattle.std.specs.FinMap as finite
use Rattle.std.specs.List.{AllByRecursion, slice_get}
use Rattle.std.specs.Prelude.{is_none, not, option_and_then, option_map, unwrap_or}
use Rattle.ic_laws.specs.CoreBook.{CellPlace}
use Rattle.ic_laws.specs.declared.tree.Formula.{Formula}
use Rattle.ic_cells.specs.Maps.{place_cmp}
use Rattle.ic_cells.specs.declared.cell.ArrayKind.TheVariants as arrays
use Rattle.ic_cells.specs.declared.value.FormulaValue.TheVariants as fvalues
use Rattle.ic_grid.specs.Arrays.{anchor_at, array_from, array_of, is_fixed, is_fixed_at}
use Rattle.ic_grid.specs.Block.{Place, is_single, block_at, same_place}
use Rattle.ic_grid.specs.Contents.{Contents}
use Rattle.ic_grid.specs.Prepare.{anchor_reset, prepared, released, released_if, unspilled, without_spill, written}
use Rattle.ic_grid.specs.Shape.{is_cse}
use Rattle.ic_machine.specs.Book.{Book, Sheet, empty_grid, found_or, unless}
use Rattle.ic_machine.specs.Content.{AnchorContent, BoolContent, Content, EmptyContent, ErrContent, FormulaContent, NumContent, SpillContent, TextContent, held}
use Rattle.ic_machine.specs.InForce.{formula_typed}
use Rattle.ic_machine.specs.Refusal.{InvalidSheet, NotAFormula, first_refusal}
use Rattle.ic_machine.specs.Reply.{Field}
use Rattle.ic_machine.specs.subjects.Writing.{formula_at_place, formula_step, formula_written, place_causes, with_written, write_causes}
use Rattle.ic_machine.proofs.contents.HaveLemmas.{AllHave, all_put, all_remade}
use Rattle.ic_machine.proofs.bound.InsertedBinds.{accepted}
use Rattle.ic_machine.proofs.valid.ValidLemmas.{all_at, all_put as all_replaced}

-- a content is no first cell of a Cse array
abbrev pub IsPlain : Content → Type 0
IsPlain (AnchorContent index area kind value style) = is_cse kind ≡ false
IsPlain content = Unit {0}

abbrev pub AllPlain : Contents Content → Type 0
AllPlain m = AllHave held (λ q x. IsPlain x) m

plain_array : (a : Place) (x : Content) → IsPlain x → is_fixed (array_from a (held.shape x)) ≡ false
plain_array a (EmptyContent style) h = refl
plain_array a (BoolContent truth style) h = refl
plain_array a (NumContent amount style) h = refl
plain_array a (ErrContent error_value style) h = refl
plain_array a (TextContent text style) h = refl
plain_array a (FormulaContent index value style) h = refl
plain_array a (AnchorContent index area kind value style) h = ap (λ (b : Bool). b && not (is_single (block_at a area.0 area.1))) h
plain_array a (SpillContent anchor value style) h = refl

-- so no place is part of such an array
pub plain_loose : (m : Contents Content) → AllPlain m → (p : Place) → is_fixed_at held m p ≡ false
plain_loose m all p = by_anchor (anchor_at held m p)
  where
    by_anchor : (o : Option Place) → is_fixed (option_and_then (array_of held m) o) ≡ false
    by_anchor None = refl
    by_anchor (Some a) = by_content (finite.get m a) refl
      where
        by_content : (o : Option Content) → finite.get m a ≡ o → is_fixed (option_and_then (λ (x : Content). array_from a (held.shape x)) o) ≡ false
        by_content None e = refl
        by_content (Some x) e = plain_array a x (all a x e)

-- What a write makes of such contents. ----

reset_plain : (x : Content) → IsPlain x → IsPlain (anchor_reset held x)
reset_plain (EmptyContent style) h = h
reset_plain (BoolContent truth style) h = h
reset_plain (NumContent amount style) h = h
reset_plain (ErrContent error_value style) h = h
reset_plain (TextContent text style) h = h
reset_plain (FormulaContent index value style) h = h
reset_plain (AnchorContent index area kind value style) h = h
reset_plain (SpillContent anchor value style) h = h

either_plain : (t : Bool) (x y : Content) → IsPlain x → IsPlain y → IsPlain (cond t x y)
either_plain true x y h g = h
either_plain false x y h g = g

unspilled_plain : (a : Place) (x : Content) → IsPlain x → IsPlain (unspilled held a x)
unspilled_plain a (EmptyContent style) h = h
unspilled_plain a (BoolContent truth style) h = h
unspilled_plain a (NumContent amount style) h = h
unspilled_plain a (ErrContent error_value style) h = h
unspilled_plain a (TextContent text style) h = h
unspilled_plain a (FormulaContent index value style) h = h
unspilled_plain a (AnchorContent index area kind value style) h = h
unspilled_plain a (SpillContent anchor value style) h = either_plain (same_place a anchor) (EmptyContent style) (SpillContent anchor value style) tt tt

made_plain : (x y : Content) → IsPlain x → (let o : Option Content = Some x in o ≡ Some y) → IsPlain y
made_plain x y h e = let same : x ≡ y = cc in subst IsPlain same h

released_plain : (a : Place) (m : Contents Content) → AllPlain m → AllPlain (released held a m)
released_plain a m all =
    all_remade held (λ q x. IsPlain x) (λ q x. Some (cond (same_place q a) (anchor_reset held x) x))
    (λ q x h y e. made_plain (cond (same_place q a) (anchor_reset held x) x) y (either_plain (same_place q a) (anchor_reset held x) x (reset_plain x h) h) e) (without_spill held a m)
    (all_remade held (λ q x. IsPlain x) (λ q x. Some (cond true (unspilled held a x) x)) (λ q x h y e. made_plain (unspilled held a x) y (unspilled_plain a x h) e) m all)

prepared_plain : (m : Contents Content) → AllPlain m → (o : Option Place) → AllPlain (released_if held o m)
prepared_plain m all None = all
prepared_plain m all (Some a) = released_plain a m all

written_plain : (p : Place) (x : Content) (m : Contents Content) → AllPlain m → IsPlain x → AllPlain (written held p x m)
written_plain p x m all plain = all_put held (λ q y. IsPlain y) (prepared held p m) p x (prepared_plain m all (anchor_at held m p)) plain

-- Sheets. ----

pub record IsPlainSheet (s : Sheet) : Type 0 where
  pub merges : s.grid.merges ≡ []
  pub plain : AllPlain s.grid.contents

pub empty_plain : AllPlain empty_grid.contents
empty_plain q x e = absurd (let no : None ≡ Some x = sym (finite.get-empty {X = Content} place_cmp q) ∙ e in cc)

content_plain : (t : Bool) (index style : ℕ) → IsPlain (cond t (AnchorContent index (pos 1, pos 1) arrays.Dynamic fvalues.Unevaluated style) (FormulaContent index fvalues.Unevaluated style))
content_plain true index style = refl
content_plain false index style = tt

-- a formula that is written leaves such sheets, and the tables
pub record StaysPlain (before left : Book) : Type 0 where
  pub tables : left.tables ≡ before.tables
  pub plain : AllByRecursion IsPlainSheet left.sheets

module _ (b : Book) (plain : AllByRecursion IsPlainSheet b.sheets) (index : ℕ) (place : CellPlace) where
  at_plain : (s : Sheet) → slice_get b.sheets index ≡ Some s → (f : Formula) → StaysPlain b (with_written b index s place (formula_written b s f))
  at_plain s at f =
      let old : IsPlainSheet s = all_at IsPlainSheet index b.sheets s plain at in
      record {
        tables = refl;
        plain = all_replaced IsPlainSheet index b.sheets _ plain (record { merges = old.merges; plain = written_plain place _ s.grid.contents old.plain (content_plain _ _ _) });
      }

  pub formula_plain : (text : List ℕ) (left : Book) (fields : List Field) → formula_step index place text b ≡ Ok (left, fields) → StaysPlain b left
  unfolding formula_step
  formula_plain text left fields e = by_sheet (slice_get b.sheets index) refl e
    where
      made : Sheet → Formula
      made s = formula_at_place b s place (unwrap_or (formula_typed b text) [])

      by_sheet : (o : Option Sheet) → slice_get b.sheets index ≡ o
          → found_or InvalidSheet
          (option_map
          (λ (s : Sheet).
          unless (first_refusal (place_causes place ++ (write_causes s place ++ (is_none (formula_typed b text), NotAFormula) ∷ [])))
          (with_written b index s place (formula_written b s (formula_at_place b s place (unwrap_or (formula_typed b text) [])))) [])
          o)
          ≡ Ok (left, fields) → StaysPlain b left
      by_sheet None at h = absurd (cc)
      by_sheet (Some s) at h =
          let ok = accepted (first_refusal (place_causes place ++ (write_causes s place ++ (is_none (formula_typed b text), NotAFormula) ∷ []))) (with_written b index s place (formula_written b s (made s))) left [] fields h in
          subst (StaysPlain b) (sym ok.1) (at_plain s at (made s))
