-- The lines that rebuild the sheets, the definitions and the formulas of a book from a new one, stage by stage.
use Rattle.std.specs.Prelude.{ℕ, ◌+◌, suc, List, [], ◌∷◌, ◌++◌, codes, filter, length, map, position, reverse, Bool, Option, Some, None, nat_eq, unwrap_or, if◌then◌else◌}
use Rattle.std.specs.Fmt.{decimal, signed_decimal}
use Rattle.std.specs.List.{range_with_len}
use Rattle.ic_laws.specs.Character.{equals}
use Rattle.ic_laws.specs.CoreBook.{CellPlace, Cells, CoreBook, Definition, Sheet, spelling_of}
use Rattle.ic_laws.specs.FormulaReading.{shown_body, shown_formula}
use Rattle.ic_laws.specs.Notations.{Notations, english}
use Rattle.ic_laws.specs.declared.scene.NameSpelling.{NameSpelling}
use Rattle.ic_laws.specs.declared.scene.SheetName.{SheetName}
use Rattle.ic_laws.specs.declared.tree.Formula.{Formula}
use Rattle.ic_machine.specs.Translation.{line_of}
use Rattle.ic_dump.specs.Passing.{passing_ids, standing_sheets}

-- a command line, as its text
abbrev pub Text : Type 0
Text = List ℕ

-- the book with English in force
abbrev pub in_english : CoreBook → CoreBook
in_english book = record book { locale = english; language = english }

-- The sheets. ----

-- the sheet of a new book has this id
abbrev pub first_id : ℕ
first_id = 1

abbrev pub is_first : SheetName → Bool
is_first sheet = nat_eq sheet.id first_id

-- it is named first, so that any other may be called as it was
abbrev pub naming_line : SheetName → Text
naming_line sheet = line_of (codes "rename_sheet_by_index" ∷ codes "0" ∷ sheet.name ∷ [])

abbrev pub naming_lines : CoreBook → List Text
naming_lines book = map naming_line (filter is_first (standing_sheets book))

-- every other is put in at its place, with its id
abbrev pub inserting_line : ℕ → SheetName → Text
inserting_line index sheet = line_of (codes "insert_sheet" ∷ sheet.name ∷ decimal index ∷ decimal sheet.id ∷ [])

abbrev pub inserting_lines_from : ℕ → List SheetName → List Text
inserting_lines_from index [] = []
inserting_lines_from index (sheet ∷ sheets) = (if is_first sheet then [] else inserting_line index sheet ∷ []) ++ inserting_lines_from (suc index) sheets

abbrev pub inserting_lines : CoreBook → List Text
inserting_lines book = inserting_lines_from 0 (standing_sheets book)

-- The definitions. ----

-- the index of the sheet with this id among those that stand
abbrev pub index_standing : List SheetName → ℕ → ℕ
index_standing sheets id = unwrap_or (position (λ (s : SheetName). nat_eq s.id id) sheets) 0

-- the word for the sheet that a definition is local to, or for none
abbrev pub scope_word : List SheetName → Option ℕ → List ℕ
scope_word sheets None = codes "-"
scope_word sheets (Some id) = decimal (index_standing sheets id)

-- each is made with a body that mentions nothing, so that all names are there before the first body is bound
abbrev pub plain_body : List ℕ
plain_body = codes "LAMBDA(1)"

abbrev pub defining_line : List SheetName → NameSpelling → Text
defining_line sheets d = line_of (codes "new_defined_name" ∷ d.name ∷ scope_word sheets d.scope ∷ plain_body ∷ [])

abbrev pub defining_lines : CoreBook → List Text
defining_lines book = map (λ d. defining_line (standing_sheets book) (spelling_of d)) book.definitions

-- the bodies are set by updates that keep name and scope, since they may be what a new definition can't have
abbrev pub english_body : Notations → CoreBook → Definition → List ℕ
english_body n book definition = shown_body n (in_english book) definition.has_equals definition.body

abbrev pub body_line : List SheetName → NameSpelling → List ℕ → Text
body_line sheets d body =
    line_of (codes "update_defined_name" ∷ d.name ∷ scope_word sheets d.scope ∷ d.name ∷ scope_word sheets d.scope ∷ body ∷ [])

abbrev pub body_lines : Notations → CoreBook → List Text
body_lines n book = map (λ d. body_line (standing_sheets book) (spelling_of d) (english_body n book d)) book.definitions

-- The passing sheets go, from the end. ----

abbrev pub deleting_line : ℕ → Text
deleting_line index = line_of (codes "delete_sheet" ∷ decimal index ∷ [])

abbrev pub deleting_lines : CoreBook → List Text
deleting_lines book = map deleting_line (reverse (range_with_len (length book.sheets) (length (passing_ids book))))

-- The cells with formulas: by sheets, rows and columns. ----

abbrev pub english_formula : Notations → CoreBook → CellPlace → Formula → List ℕ
english_formula n book place formula = equals ∷ shown_formula n (in_english book) place.0 place.1 formula

abbrev pub cell_line : ℕ → CellPlace → List ℕ → Text
cell_line index place text = line_of (codes "update_cell_with_formula" ∷ decimal index ∷ signed_decimal place.0 ∷ signed_decimal place.1 ∷ text ∷ [])

abbrev pub lines_of_cells : Notations → CoreBook → ℕ → Cells → List Text
lines_of_cells n book index cells = map (λ (cell : CellPlace × Formula). cell_line index cell.0 (english_formula n book cell.0 cell.1)) cells

abbrev pub cell_lines_from : Notations → CoreBook → ℕ → List Sheet → List Text
cell_lines_from n book index [] = []
cell_lines_from n book index (sheet ∷ sheets) = lines_of_cells n book index sheet.cells ++ cell_lines_from n book (suc index) sheets

abbrev pub cell_lines : Notations → CoreBook → List Text
cell_lines n book = cell_lines_from n book 0 book.sheets

-- All of them. ----

abbrev pub dump_lines : Notations → CoreBook → List Text
dump_lines n book =
    naming_lines book ++ (inserting_lines book ++ (defining_lines book ++ (body_lines n book ++ (deleting_lines book ++ cell_lines n book))))
