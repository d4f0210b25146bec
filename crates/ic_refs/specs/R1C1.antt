-- The R1C1 form of a reference, as a user writes it, relative to a cell. It is read from left to right, and the first
-- error is told.
use Rattle.std.specs.Prelude.{◌≡◌, ℕ, ℤ, pos, neg_ℤ, ◌-◌, ◌^◌, ◌+ℤ◌, ◌-ℤ◌, List, [], ◌∷◌, Bool, not, ◌&&◌, ◌==◌, is_some, nat_lt, nat_le, Option, Some, None, Result, Ok, Err, unwrap_or, if◌then◌else◌, length}
use Rattle.std.specs.List.{before_first, after_first, list_any}
use Rattle.std.specs.Int.{int_min, int_max, int_rem_euclid}
use Rattle.std.specs.Str.Parse.{digits_value}
use Rattle.ic_refs.specs.Stored.{close_square}
use Rattle.ic_laws.specs.Position.{row_count, column_count}
use Rattle.ic_laws.specs.declared.reference.TheConstants.{LAST_ROW, LAST_COLUMN}
use Rattle.ic_laws.specs.Character.{colon, minus, open_square}
use Rattle.ic_laws.specs.Name.{is_r, is_c}
use Rattle.ic_laws.specs.Scan.{is_digit, run_of, past_run}
use Rattle.ic_refs.specs.declared.error.ReferenceError.{ReferenceError}
use Rattle.ic_refs.specs.declared.error.ReferenceError.TheVariants as errors
use Rattle.ic_refs.specs.declared.reference.CellReferenceIndex.{CellReferenceIndex}
use Rattle.ic_refs.specs.declared.reference.ParsedReference.{ParsedReference}
use Rattle.ic_refs.specs.declared.reference.ParsedReference.TheVariants as parsed
use Rattle.ic_refs.specs.declared.r1c1_ends.End.{End}
use Rattle.ic_refs.specs.Formula.{IsSheetOf, ◌>>=◌}
use Rattle.ic_laws.specs.SheetText.{is_bang, name_in_quotes, is_quote}

-- The sheet's name

-- after a quoted name stands a `!`
abbrev pub past_bang : List ℕ → List ℕ → Result (Option (List ℕ) × List ℕ) ReferenceError
past_bang name [] = Err errors.ExpectedBang
past_bang name (c ∷ rest) = if is_bang c then Ok (Some name, rest) else Err errors.ExpectedBang

abbrev pub quoted_name : Option (List ℕ × List ℕ) → Result (Option (List ℕ) × List ℕ) ReferenceError
quoted_name None = Err errors.NameNotClosed
quoted_name (Some read) = past_bang read.0 read.1

abbrev pub is_no_bang : ℕ → Bool
is_no_bang c = not (is_bang c)

-- a name without quotes ends at the first `!`; there may be none
abbrev pub unquoted_name : List ℕ → Result (Option (List ℕ) × List ℕ) ReferenceError
unquoted_name text = if list_any is_bang text then Ok (Some (before_first is_bang text), after_first is_bang text) else Ok (None, text)

-- the name of the sheet, if there is one, and the rest
abbrev pub split_sheet : List ℕ → Result (Option (List ℕ) × List ℕ) ReferenceError
split_sheet [] = Ok (None, [])
split_sheet (c ∷ cs) = if is_quote c then quoted_name (name_in_quotes cs) else unquoted_name (c ∷ cs)

-- What a reader answers, seen by view, is what reading on lists gives.
abbrev pub Gives : {X Y : Type 0} → (X → Y) → Result X ReferenceError → Result Y ReferenceError → Type 0
Gives view (Ok x) read = read ≡ Ok (view x)
Gives view (Err e) read = read ≡ Err e

-- One end

-- the greatest number of 32 bits with a sign, and the greatest after a minus
abbrev pub greatest_number : ℕ
greatest_number = 2 ^ 31 - 1

abbrev pub greatest_back : ℕ
greatest_back = 2 ^ 31

-- the number of the digits at the front, where it fits 32 bits
abbrev pub number_at : ℕ → List ℕ → Result ℕ ReferenceError
number_at most [] = Err errors.ExpectedNumber
number_at most (c ∷ cs) =
    if is_digit c then (if nat_le (digits_value 10 (run_of is_digit (c ∷ cs))) most then Ok (digits_value 10 (run_of is_digit (c ∷ cs))) else Err errors.ExpectedNumber)
    else Err errors.ExpectedNumber

-- the row (the column) that lies so far from one of a sheet of this length, round its end
abbrev pub wrapped : ℕ → ℤ → ℤ → ℤ
wrapped length origin k = int_rem_euclid (origin +ℤ k -ℤ pos 1) (pos length) +ℤ pos 1

-- an absolute number lies in the sheet
abbrev pub absolute : ℕ → ℕ → Result ℤ ReferenceError
absolute length n = if nat_lt 0 n then (if nat_le n length then Ok (pos n) else Err errors.OutsideSheet) else Err errors.OutsideSheet

-- an offset is less than the sheet's length
abbrev pub offset : ℕ → ℤ → ℤ → ℕ → Result ℤ ReferenceError
offset length origin k distance = if nat_lt distance length then Ok (wrapped length origin k) else Err errors.OffsetTooLarge

-- a closing bracket stands at the front
abbrev pub past_bracket : ℤ → List ℕ → Result (ℤ × List ℕ) ReferenceError
past_bracket place [] = Err errors.ExpectedBracket
past_bracket place (c ∷ rest) = if c == close_square then Ok (place, rest) else Err errors.ExpectedBracket

-- an offset on, an offset back, and the bracket that closes them
abbrev pub offset_on_at : ℕ → ℤ → List ℕ → Result (ℤ × List ℕ) ReferenceError
offset_on_at length origin text =
    number_at greatest_number text >>= λ n. offset length origin (pos n) n >>= λ place. past_bracket place (past_run is_digit text)

abbrev pub offset_back_at : ℕ → ℤ → List ℕ → Result (ℤ × List ℕ) ReferenceError
offset_back_at length origin text =
    number_at greatest_back text >>= λ n. offset length origin (neg_ℤ (pos n)) n >>= λ place. past_bracket place (past_run is_digit text)

-- what stands after an opening bracket: a number, after a minus or not, and a closing bracket
abbrev pub offset_at : ℕ → ℤ → List ℕ → Result (ℤ × List ℕ) ReferenceError
offset_at length origin [] = Err errors.ExpectedNumber
offset_at length origin (c ∷ cs) = if c == minus then offset_back_at length origin cs else offset_on_at length origin (c ∷ cs)

-- an absolute number
abbrev pub absolute_at : ℕ → List ℕ → Result (ℤ × List ℕ) ReferenceError
absolute_at length text = number_at greatest_number text >>= λ n. absolute length n >>= λ place. Ok (place, past_run is_digit text)

-- what stands after the letter: a number, an offset, or nothing, which is the place of the cell
abbrev pub part_at : ℕ → ℤ → List ℕ → Result (ℤ × List ℕ) ReferenceError
part_at length origin [] = Ok (origin, [])
part_at length origin (c ∷ cs) =
    if is_digit c then absolute_at length (c ∷ cs) else if c == open_square then offset_at length origin cs else Ok (origin, c ∷ cs)

-- the column after a row, if there is one
abbrev pub column_after : CellReferenceIndex → ℤ → List ℕ → Result (End × List ℕ) ReferenceError
column_after cell row [] = Ok (record { row = Some row; column = None }, [])
column_after cell row (c ∷ cs) =
    if is_c c then (part_at column_count cell.column cs >>= λ column. Ok (record { row = Some row; column = Some column.0 }, column.1))
    else Ok (record { row = Some row; column = None }, c ∷ cs)

-- a row part, and a column part after it or not
abbrev pub row_end_at : CellReferenceIndex → List ℕ → Result (End × List ℕ) ReferenceError
row_end_at cell text = part_at row_count cell.row text >>= λ row. column_after cell row.0 row.1

-- a column part alone
abbrev pub column_end_at : CellReferenceIndex → List ℕ → Result (End × List ℕ) ReferenceError
column_end_at cell text =
    part_at column_count cell.column text >>= λ column. Ok (record { row = None; column = Some column.0 }, column.1)

abbrev pub end_at : CellReferenceIndex → List ℕ → Result (End × List ℕ) ReferenceError
end_at cell [] = Err errors.ExpectedLetter
end_at cell (c ∷ cs) = if is_r c then row_end_at cell cs else if is_c c then column_end_at cell cs else Err errors.ExpectedLetter

-- The ends

-- nothing stands after the ends
abbrev pub ended : {T : Type 0} → T → List ℕ → Result T ReferenceError
ended ends [] = Ok ends
ended ends (c ∷ cs) = Err errors.ExpectedEnd

-- the second end, and nothing after it
abbrev pub last_end : CellReferenceIndex → End → List ℕ → Result (End × Option End) ReferenceError
last_end cell first text = end_at cell text >>= λ last. ended (first, Some last.0) last.1

-- after the first end stands nothing, or a colon and the second end
abbrev pub ends_after : CellReferenceIndex → End → List ℕ → Result (End × Option End) ReferenceError
ends_after cell first [] = Ok (first, None)
ends_after cell first (c ∷ cs) = if c == colon then last_end cell first cs else Err errors.ExpectedEnd

abbrev pub ends_of : CellReferenceIndex → List ℕ → Result (End × Option End) ReferenceError
ends_of cell text = end_at cell text >>= λ first. ends_after cell first.0 first.1

-- the first and the last cell of what an end stands for
abbrev pub first_cell : ℕ → End → CellReferenceIndex
first_cell sheet end = record { sheet = sheet; row = unwrap_or end.row (pos 1); column = unwrap_or end.column (pos 1) }

abbrev pub last_cell : ℕ → End → CellReferenceIndex
last_cell sheet end = record { sheet = sheet; row = unwrap_or end.row LAST_ROW; column = unwrap_or end.column LAST_COLUMN }

-- the corners in order, whichever was written first
abbrev pub first_corner : CellReferenceIndex → CellReferenceIndex → CellReferenceIndex
first_corner a b = record a { row = int_min a.row b.row; column = int_min a.column b.column }

abbrev pub last_corner : CellReferenceIndex → CellReferenceIndex → CellReferenceIndex
last_corner a b = record a { row = int_max a.row b.row; column = int_max a.column b.column }

abbrev pub area_of : ℕ → End → End → ParsedReference
area_of sheet a b =
    parsed.Range (first_corner (first_cell sheet a) (first_cell sheet b)) (last_corner (last_cell sheet a) (last_cell sheet b))

abbrev pub are_alike : Bool → Bool → Bool
are_alike p q = if p then q else not q

-- two ends are of one kind: both have a row or neither, and both have a column or neither
abbrev pub have_one_kind : End → End → Bool
have_one_kind a b = are_alike (is_some a.row) (is_some b.row) && are_alike (is_some a.column) (is_some b.column)

-- a cell alone is a cell; a whole row or column alone is its cells; two ends are all that lies between
abbrev pub referred : End × Option End → ℕ → Result ParsedReference ReferenceError
referred (end, None) sheet =
    if is_some end.row && is_some end.column then Ok (parsed.CellReference (first_cell sheet end)) else Ok (area_of sheet end end)
referred (first, Some last) sheet = if have_one_kind first last then Ok (area_of sheet first last) else Err errors.MixedEnds

-- what the text of the ends refers to on a sheet
abbrev pub refers : CellReferenceIndex → List ℕ → ℕ → Result ParsedReference ReferenceError
refers cell text sheet = ends_of cell text >>= λ ends. referred ends sheet

-- What the text refers to: the sheet's name is split off, then the sheet is found, then the ends are read.
abbrev pub ParsesR1C1 : (List ℕ → Option ℕ → Type 0) → CellReferenceIndex → Result (Option (List ℕ) × List ℕ) ReferenceError → Result ParsedReference ReferenceError → Type 0
ParsesR1C1 Answers cell (Err e) result = result ≡ Err e
ParsesR1C1 Answers cell (Ok split) result =
    (sheet : Result ℕ ReferenceError) × IsSheetOf Answers (Some cell.sheet) split.0 sheet
    × (result ≡ (sheet >>= refers cell split.1))
