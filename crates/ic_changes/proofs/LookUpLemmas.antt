-- The look-ups of a model's sheets, as contracts see them.
use Rattle.std.proofs.Common.{◌≡◌, ℕ, List, [], ◌∷◌, ◌⊎◌, Bool, true, map, option_map, IfSome, Some, refl, sym, ap, subst, ◌∙◌, inl, inr}
use Rattle.std.specs.List.{slice_get}
use Rattle.std.proofs.lemmas.Option.{slice_get-map}
use Rattle.ic_laws.specs.Changes.{Change}
use Rattle.ic_laws.specs.CoreStep.{updated_at}
use Rattle.ic_sheets.specs.Rewriting.{look_ups, looks_up_after}
use Rattle.ic_sheets.specs.Sheet.{AreSameOrLookUp, Sheet, looking_up, sheet_of}
use Rattle.ic_sheets.specs.declared.sheet.Sheet.{Sheet as HeldSheet}
use Rattle.ic_changes.specs.LookUps.{looks_up_over}
use Rattle.ic_parts.proofs.HeldLemmas.{whole_updated}

-- over the sheets that a model keeps
pub looks_up_is : (change : Change) (ws : List HeldSheet) → looks_up_over change (map sheet_of ws) (look_ups ws) ≡ map (looks_up_after change) ws
looks_up_is change [] = refl
looks_up_is change (s ∷ ws) = ap (λ more. looks_up_after change s ∷ more) (looks_up_is change ws)

-- where the change depends on the sheet at an index
pub looks_up_at : (change : Sheet → Change) (left : List Bool → List Bool) (ws : List HeldSheet) (index : ℕ) (s : HeldSheet) → slice_get ws index ≡ Some s
    → (now : List Bool) → now ≡ left (map (looks_up_after (change (sheet_of s))) ws)
    → IfSome (slice_get (map sheet_of ws) index) (λ b. now ≡ left (looks_up_over (change b) (map sheet_of ws) (look_ups ws)))
looks_up_at change left ws index s at now e =
    subst (λ o. IfSome o (λ (b : Sheet). now ≡ left (looks_up_over (change b) (map sheet_of ws) (look_ups ws)))) (sym (slice_get-map sheet_of ws index ∙ ap (option_map sheet_of) at))
    (e ∙ ap left (sym (looks_up_is (change (sheet_of s)) ws)))

-- where that of one sheet alone may be there now
pub look_ups_left : (index : ℕ) (before after : List HeldSheet) → AreSameOrLookUp index before after → (look_ups after ≡ look_ups before) ⊎ (look_ups after ≡ updated_at (λ b. true) index (look_ups before))
look_ups_left index before after (inl e) = inl (ap look_ups e)
look_ups_left index before after (inr e) = inr (ap look_ups e ∙ whole_updated looking_up (λ s. refl) index before)
