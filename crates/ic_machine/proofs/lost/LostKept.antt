-- A kept formula with its lost references is kept in the cell, and printed there as it is.
use Rattle.std.proofs.Common.{◌≡◌, ◌∙◌, refl, sym, ap, ℕ, ℤ, [], ◌++◌, Bool, true, false, Option, if◌then◌else◌}
use Rattle.std.proofs.lemmas.Bool.{true≢false}
use Rattle.ic_laws.specs.Binding.{bound, spelled}
use Rattle.ic_laws.specs.Dialect.{DialectMeaning}
use Rattle.ic_laws.specs.Notations.{IsShownForm, Notations, english_function}
use Rattle.ic_laws.specs.Position.{is_inside}
use Rattle.ic_laws.specs.Reading.{printed}
use Rattle.ic_laws.specs.Scene.{definition_spelling, sheet_spelling}
use Rattle.ic_laws.specs.Tree.{Bound, Kind, bound_names}
use Rattle.ic_laws.specs.ValidCore.{IsKept, IsKeptWhere, IsPlaceInside, LiesWhere}
use Rattle.ic_laws.specs.declared.reference.Place.{Place}
use Rattle.ic_laws.specs.declared.reference.RefToken.{RefToken}
use Rattle.ic_laws.specs.declared.scene.Scene.{Scene}
use Rattle.ic_laws.specs.declared.tree.Error.TheVariants as errors
use Rattle.ic_laws.specs.declared.tree.NameMention.{NameMention}
use Rattle.ic_laws.specs.declared.tree.SheetMention.{SheetMention}
use Rattle.ic_laws.specs.declared.tree.Tree.TheOpen as one
use Rattle.ic_machine.specs.Lost.{lost_kind, with_lost}
use Rattle.ic_machine.proofs.lost.LostTokens.{printed_lost}
use Rattle.ic_machine.proofs.lost.LostTrees.{bound_lost, children_lost, spelled_lost}
use Rattle.ic_machine.proofs.lost.LostWell.{every_lost, well_lost}

module _ (n : Notations) (scene : Scene) (row column : ℤ) where
  lies_lost : (Inside : Place → Type 0) (kind : Kind SheetMention NameMention) → LiesWhere n Inside kind → LiesWhere n (IsPlaceInside row column) (lost_kind row column (children_lost row column kind))
  lies_lost Inside (one.Reference sheet place) h = at (is_inside place row column) refl
    where
      at : (t : Bool) → is_inside place row column ≡ t → LiesWhere n (IsPlaceInside row column) (if t then one.Reference sheet place else one.Err errors.REF)
      at true e = e
      at false e = tt
  lies_lost Inside (one.Fun number arguments) h = h
  lies_lost Inside kind h = tt

  -- a kept formula with its lost references is kept in the cell
  pub kept_lost : (scope : Option ℕ) (Inside : Place → Type 0) (t : Bound) → IsKeptWhere n Inside scene scope t → IsKept n scene scope row column (with_lost row column t)
  kept_lost scope Inside t h = record {
    well = well_lost row column bound_names n.stored.let_fn n.stored.lambda_fn t h.well;
    settled = ap (bound (english_function n) scene scope) (spelled_lost row column (sheet_spelling scene) (definition_spelling scene) t)
        ∙ bound_lost row column (english_function n) scene scope (spelled scene t) ∙ ap (with_lost row column) h.settled;
    parts = every_lost row column (LiesWhere n Inside) (λ pair. Unit {0}) (LiesWhere n (IsPlaceInside row column)) (λ pair. Unit {0}) (lies_lost Inside) (λ variable value p. tt) t h.parts;
  }

  module _ (d : DialectMeaning) (form : IsShownForm n d row column) where
    -- no reference outside the sheet can be written
    pub outside : (r : RefToken) → is_inside r.place row column ≡ false → d.can_spell r ≡ false
    outside r e = at (d.can_spell r) refl
      where
        at : (t : Bool) → d.can_spell r ≡ t → t ≡ false
        at true can = absurd (true≢false (sym (form.reads_inside (d.spell_ref r ++ []) [] r (form.lawful.reads_spelled r [] can refl)).0 ∙ e))
        at false can = refl

    -- so a formula is printed as it is with its lost references
    pub printed_same : (t : Bound) → printed d (spelled scene (with_lost row column t)) ≡ printed d (spelled scene t)
    printed_same t = ap (printed d) (spelled_lost row column (sheet_spelling scene) (definition_spelling scene) t) ∙ printed_lost row column d outside (spelled scene t)
