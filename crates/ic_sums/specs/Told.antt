-- What the program writes of a book that is evaluated.
use Rattle.std.specs.Prelude.{◌≡◌, ℕ, List, [], ◌∷◌, ◌++◌, Ok, Err, codes, encode_utf8_all, flat_map}
use Rattle.std.specs.Global.{Vec}
use Rattle.ic_laws.specs.Character.{line_feed}
use Rattle.ic_lines.specs.Bytes.{AppendsFront}
use Rattle.ic_cells.specs.declared.sheet.CellIndex.{CellIndex}
use Rattle.ic_tables.specs.Tables.{TableSet}
use Rattle.ic_machine.specs.Book.{Book, Stepped}
use Rattle.ic_machine.specs.Fields.{fields_of_place, places_fields}
use Rattle.ic_machine.specs.Reply.{Field, field_word}
use Rattle.ic_machine.specs.subjects.Reading.{GetAllCells, GetCellFormula, GetFormattedCellValue, reading_step}
use Rattle.ic_run.specs.Prepared.{book_after}
use Rattle.ic_sums.specs.Evaluated.{OnlyValues}

-- the fields that a step answers
abbrev pub fields_of : Stepped Book → List Field
fields_of (Ok done) = done.1
fields_of (Err refusal) = []

-- fields as they stand in a line, each behind a tab
abbrev pub words : List Field → List ℕ
words fields = flat_map field_word fields

-- the line of a cell with these fields of its place, its formula and its value; none where it has no formula
abbrev pub told_line : List Field → List Field → List Field → List ℕ
told_line place [] value = []
told_line place (formula ∷ more) value = codes "cell" ++ (words place ++ (words (formula ∷ more) ++ (words value ++ line_feed ∷ [])))

-- the line of the cell at a place, with what `get_cell_formula` and `get_formatted_cell_value` answer there
abbrev pub told_cell : Book → CellIndex → List ℕ
told_cell book cell =
    told_line (fields_of_place cell) (fields_of (reading_step book (GetCellFormula cell.index cell.row cell.column)))
    (fields_of (reading_step book (GetFormattedCellValue cell.index cell.row cell.column)))

-- a text is the lines of the cells that `get_all_cells` answers, in their order
abbrev pub TellsBook : Book → List ℕ → Type 0
TellsBook book text = (cells : Vec CellIndex) × (reading_step book GetAllCells ≡ Ok (book, places_fields cells)) × (text ≡ flat_map (told_cell book) cells.items)

-- the lines of a book were written; or a front of them, which isn't all of them
abbrev pub WritesBook : Book → List ℕ → List ℕ → Type 0
WritesBook book before now = (text : List ℕ) × TellsBook book text × (now ≡ before ++ encode_utf8_all text)

abbrev pub WritesBookFront : Book → List ℕ → List ℕ → Type 0
WritesBookFront book before now = (text : List ℕ) × TellsBook book text × AppendsFront (encode_utf8_all text) before now

-- the same for a book of which only values differ from one
abbrev pub WritesValues : Book → List ℕ → List ℕ → Type 0
WritesValues book before now = (after : Book) × OnlyValues book after × WritesBook after before now

abbrev pub WritesValuesFront : Book → List ℕ → List ℕ → Type 0
WritesValuesFront book before now = (after : Book) × OnlyValues book after × WritesBookFront after before now

-- the same for the book after the lines of some bytes, from the new one that was made at some moment ----

abbrev pub AppendsValues : TableSet → List ℕ → List ℕ → List ℕ → Type 0
AppendsValues tables bytes before now = (created : List ℕ) × WritesValues (book_after tables created bytes) before now

abbrev pub AppendsValuesFront : TableSet → List ℕ → List ℕ → List ℕ → Type 0
AppendsValuesFront tables bytes before now = (created : List ℕ) × WritesValuesFront (book_after tables created bytes) before now
