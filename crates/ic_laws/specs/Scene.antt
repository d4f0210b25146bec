-- What formulas find: sheets by their names, definitions by their names and the sheets that they are local to; and how
-- what was found is spelled.
use Rattle.std.specs.Prelude.{ℕ, List, map, [], ◌∷◌, Bool, true, false, ◌&&◌, ◌==◌, if◌then◌else◌, Option, Some, None, option_map, nat_eq, bytes_eq, unwrap_or}
use Rattle.std.specs.Fmt.{decimal}
use Rattle.std.specs.List.{find, IsDistinct}
use Rattle.std.specs.Option.{option_or}
use Rattle.ic_laws.specs.Name.{fold, agrees}
use Rattle.ic_laws.specs.declared.scene.NameSpelling.{NameSpelling}
use Rattle.ic_laws.specs.declared.scene.Scene.{Scene}
use Rattle.ic_laws.specs.declared.scene.SheetName.{SheetName}
use Rattle.ic_laws.specs.declared.tree.NameKey.{NameKey}

-- two definitions are local to one sheet, or both are local to none
abbrev pub same_scope : Option ℕ → Option ℕ → Bool
same_scope None None = true
same_scope (Some a) (Some b) = nat_eq a b
same_scope a b = false

-- the key of a definition: its folded name, and the sheet that it is local to
abbrev pub key_of : NameSpelling → NameKey
key_of definition = record { name = fold definition.name; scope = definition.scope }

-- two keys are equal
abbrev pub same_key : NameKey → NameKey → Bool
same_key a b = bytes_eq a.name b.name && same_scope a.scope b.scope

-- no two sheets' names agree
abbrev pub SheetsDiffer : Scene → Type 0
SheetsDiffer scene = IsDistinct agrees (map (λ (sheet : SheetName). sheet.name) scene.sheets)

-- no two sheets' ids are equal
abbrev pub IdsDiffer : Scene → Type 0
IdsDiffer scene = IsDistinct nat_eq (map (λ (sheet : SheetName). sheet.id) scene.sheets)

-- no two definitions with agreeing names are local to one sheet, or to none
abbrev pub KeysDiffer : Scene → Type 0
KeysDiffer scene = IsDistinct same_key (map key_of scene.names)

-- the first sheet whose name agrees
abbrev pub found_sheet : Scene → List ℕ → Option ℕ
found_sheet scene name = option_map (λ sheet. sheet.id) (find (λ sheet. agrees sheet.name name) scene.sheets)

-- the first definition of this folded name that is local to this sheet, or to none
abbrev pub definition_at : Scene → List ℕ → Option ℕ → Option NameSpelling
definition_at scene folded scope = find (λ definition. bytes_eq (fold definition.name) folded && same_scope definition.scope scope) scene.names

-- a local definition is found before the one for all sheets
abbrev pub key_found : Scene → Option ℕ → List ℕ → Option NameKey
key_found scene scope folded = option_map key_of (option_or (definition_at scene folded scope) (definition_at scene folded None))

-- the definition that a word means where it is no variable
abbrev pub found_name : Scene → Option ℕ → List ℕ → Option NameKey
found_name scene scope word = key_found scene scope (fold word)

-- the definition of this folded name that is local to the sheet with this id, and no other
abbrev pub local_key : Scene → ℕ → List ℕ → Option NameKey
local_key scene id folded = option_map key_of (definition_at scene folded (Some id))

-- the definition that a word with its sheet means
abbrev pub found_local : Scene → ℕ → List ℕ → Option NameKey
found_local scene id word = local_key scene id (fold word)

-- the name of the sheet with this id
abbrev pub name_of_sheet : Scene → ℕ → Option (List ℕ)
name_of_sheet scene id = option_map (λ sheet. sheet.name) (find (λ sheet. nat_eq sheet.id id) scene.sheets)

-- the name of the definition with this key, as it was given
abbrev pub name_of_key : Scene → NameKey → Option (List ℕ)
name_of_key scene key = option_map (λ definition. definition.name) (definition_at scene key.name key.scope)

-- a sheet is written by its own name, an id without a sheet by its digits
abbrev pub sheet_spelling : Scene → ℕ → List ℕ
sheet_spelling scene id = unwrap_or (name_of_sheet scene id) (decimal id)

-- a definition is written by its own name, a key without a definition by its folded name
abbrev pub definition_spelling : Scene → NameKey → List ℕ
definition_spelling scene key = unwrap_or (name_of_key scene key) key.name

-- what is left of a text after these characters, if it begins with them
abbrev pub past_front : List ℕ → List ℕ → Option (List ℕ)
past_front [] text = Some text
past_front (c ∷ cs) [] = None
past_front (c ∷ cs) (d ∷ ds) = if c == d then past_front cs ds else None
