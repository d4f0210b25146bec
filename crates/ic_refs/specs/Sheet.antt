-- References with a sheet's name or without.
use Rattle.std.specs.Prelude.{◌≡◌, ℕ, List, ◌++◌, Option, Some, None, option_map, option_and_then}
use Rattle.ic_laws.specs.SheetText.{SpellsSheet, sheet_at}
use Rattle.ic_laws.specs.declared.reference.RefToken.{RefToken}
use Rattle.ic_laws.specs.declared.reference.Place.{Place}

-- a reference is a sheet's name or none, and a place
pub record SpellsReference (SpellsPlace : List ℕ → Place → Type 0) (text : List ℕ) (token : RefToken) : Type 0 where
  pub sheet_text : List ℕ
  pub place_text : List ℕ
  pub whole : text ≡ sheet_text ++ place_text
  pub sheet : SpellsSheet sheet_text token.sheet
  pub place : SpellsPlace place_text token.place

abbrev pub with_sheet : Option (List ℕ) → Option (Place × List ℕ) → Option (RefToken × List ℕ)
with_sheet sheet read = option_map (λ f. (record { sheet = sheet; place = f.0 }, f.1)) read

-- the first of two that is there
abbrev pub or_else : {T : Type 0} → Option T → Option T → Option T
or_else (Some x) y = Some x
or_else None y = y

-- the longest reference at the front, by what reads a place
abbrev pub reference_at : (List ℕ → Option (Place × List ℕ)) → List ℕ → Option (RefToken × List ℕ)
reference_at read text =
    or_else (option_and_then (λ f. with_sheet (Some f.0) (read f.1)) (sheet_at text)) (with_sheet None (read text))
