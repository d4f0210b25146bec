-- The sheets that stand while a book is rebuilt: its own, and passing ones, for definitions that are local to a sheet which is
-- gone. A passing sheet has a name that nothing in the book means.
use Rattle.std.specs.Prelude.{ℕ, ◌+◌, List, [], ◌∷◌, ◌++◌, filter, flat_map, length, map, take, zip, Bool, not, nat_eq, if◌then◌else◌}
use Rattle.std.specs.Fmt.{decimal}
use Rattle.std.specs.List.{list_any, range_with_len}
use Rattle.std.specs.Option.{option_to_list}
use Rattle.ic_laws.specs.CoreBook.{CoreBook, ids_of, names_of, scene_of}
use Rattle.ic_laws.specs.Name.{agrees}
use Rattle.ic_laws.specs.Tree.{Bound}
use Rattle.ic_laws.specs.declared.scene.SheetName.{SheetName}
use Rattle.ic_laws.specs.declared.tree.Formula.{Formula}
use Rattle.ic_laws.specs.declared.tree.Formula.TheVariants as formulas
use Rattle.ic_laws.specs.declared.tree.NameMention.{NameMention}
use Rattle.ic_laws.specs.declared.tree.SheetMention.{SheetMention}
use Rattle.ic_laws.specs.declared.tree.SheetMention.TheVariants as sheets
use Rattle.ic_laws.specs.declared.tree.Tree.{Tree-F, fold-Tree}
use Rattle.ic_laws.specs.declared.tree.Tree.TheOpen as one

-- The sheets that formulas name and that aren't there. ----

-- the name of a sheet that wasn't found
abbrev pub unfound : SheetMention → List (List ℕ)
unfound (sheets.Dangling name) = name ∷ []
unfound mention = []

-- those of a formula: of references, and before words
abbrev pub unfound_step : Tree-F SheetMention NameMention (List (List ℕ)) (List (List ℕ)) → List (List ℕ)
unfound_step (one.Reference sheet place) = unfound sheet
unfound_step (one.Local sheet word) = unfound sheet
unfound_step (one.Paren x) = x
unfound_step (one.Prefix sign x) = x
unfound_step (one.Percent x) = x
unfound_step (one.Spill x) = x
unfound_step (one.Binary sign a b) = a ++ b
unfound_step (one.Fun number arguments) = flat_map (λ names. names) arguments
unfound_step (one.Call word arguments) = flat_map (λ names. names) arguments
unfound_step (one.Let pairs body) = flat_map (λ names. names) pairs ++ body
unfound_step (one.Lambda parameters body) = body
unfound_step (one.Apply x arguments) = x ++ flat_map (λ names. names) arguments
unfound_step kind = []

abbrev pub unfound_in : Bound → List (List ℕ)
unfound_in t = fold-Tree SheetMention NameMention (List (List ℕ)) (List (List ℕ)) unfound_step (λ pair. pair.value) t

-- a text that doesn't read names none
abbrev pub unfound_of : Formula → List (List ℕ)
unfound_of (formulas.Tree t) = unfound_in t
unfound_of (formulas.Raw text) = []

-- the formulas of all cells, and the bodies of all definitions
abbrev pub formulas_in : CoreBook → List Formula
formulas_in book = flat_map (λ s. map (λ cell. cell.1) s.cells) book.sheets ++ map (λ d. d.body) book.definitions

-- The passing sheets. ----

-- the ids that definitions are local to
abbrev pub scopes_of : CoreBook → List ℕ
scopes_of book = flat_map (λ d. option_to_list d.scope) book.definitions

-- those of some ids that aren't among others, each once
abbrev pub other_ids : List ℕ → List ℕ → List ℕ
other_ids seen [] = []
other_ids seen (id ∷ ids) = if list_any (nat_eq id) seen then other_ids seen ids else id ∷ other_ids (id ∷ seen) ids

-- the ids that definitions are local to and no sheet has; and 1, the id of a new book's first sheet, where nothing has it
abbrev pub passing_ids : CoreBook → List ℕ
passing_ids book = other_ids (ids_of book) (scopes_of book ++ 1 ∷ [])

-- the names that a passing sheet can't have: those of sheets, and those of sheets that formulas name and that aren't there
abbrev pub taken_names : CoreBook → List (List ℕ)
taken_names book = names_of book ++ flat_map unfound_of (formulas_in book)

-- a name agrees with none of these
abbrev pub is_free : List (List ℕ) → List ℕ → Bool
is_free taken name = not (list_any (agrees name) taken)

-- The first numerals from 1 on that are free, as many as are asked for. No two numerals agree, so each taken name takes at
-- most one of them, and among as many as there are taken names and asked ones enough are left.
abbrev pub free_numerals : ℕ → List (List ℕ) → List (List ℕ)
free_numerals count taken = take count (filter (is_free taken) (map decimal (range_with_len 1 (count + length taken))))

abbrev pub sheet_named : ℕ × List ℕ → SheetName
sheet_named pair = record { id = pair.0; name = pair.1 }

abbrev pub passing_sheets : CoreBook → List SheetName
passing_sheets book = map sheet_named (zip (passing_ids book) (free_numerals (length (passing_ids book)) (taken_names book)))

-- the book's own sheets in their order, and the passing ones after them
abbrev pub standing_sheets : CoreBook → List SheetName
standing_sheets book = (scene_of book).sheets ++ passing_sheets book
