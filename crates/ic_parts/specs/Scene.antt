-- What formulas can mention where these are the sheets and the definitions.
use Rattle.std.specs.Prelude.{ℕ, List, [], ◌∷◌, ◌++◌, Option, map}
use Rattle.ic_laws.specs.CoreBook.{Definition, spelling_of}
use Rattle.ic_laws.specs.CoreStep.{updated_at}
use Rattle.ic_laws.specs.declared.scene.Scene.{Scene}
use Rattle.ic_laws.specs.declared.scene.SheetName.{SheetName}
use Rattle.ic_sheets.specs.declared.sheet.Sheet.{Sheet as HeldSheet}

abbrev pub named : HeldSheet → SheetName
named sheet = record { id = sheet.id; name = sheet.name }

abbrev pub scene_of_parts : List HeldSheet → List Definition → Scene
scene_of_parts sheets definitions = record { sheets = map named sheets; names = map spelling_of definitions }

-- and one definition more at the end, by its name and the sheet that it is local to
abbrev pub scene_with : List HeldSheet → List Definition → List ℕ → Option ℕ → Scene
scene_with sheets definitions name scope = record (scene_of_parts sheets definitions) { names = map spelling_of definitions ++ record { name = name; scope = scope } ∷ [] }

-- and where the definition at an index has another name and another scope
abbrev pub scene_renamed : List HeldSheet → List Definition → ℕ → List ℕ → Option ℕ → Scene
scene_renamed sheets definitions index name scope = record (scene_of_parts sheets definitions) { names = updated_at (λ m. record { name = name; scope = scope }) index (map spelling_of definitions) }
