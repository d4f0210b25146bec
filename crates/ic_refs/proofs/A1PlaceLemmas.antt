-- The longest place at the front of a text, and the one that is read where nothing could go on after it.
use Rattle.std.proofs.Common.{◌≡◌, ℕ, ℤ, pos, ◌≤◌, List, ◌∷◌, ◌++◌, false, ◌==◌, length, Some, None, sym, ◌∙◌, ap, arith, inl, inr, append_assoc}
use Rattle.ic_laws.specs.Scan.{is_digit, first_is, is_ascii_letter}
use Rattle.ic_laws.specs.declared.reference.Position.{Position}
use Rattle.ic_laws.specs.declared.reference.Position.TheVariants as at
use Rattle.ic_laws.specs.declared.reference.RefPart.{RefPart}
use Rattle.ic_laws.specs.declared.reference.Place.{Place}
use Rattle.ic_laws.specs.declared.reference.Place.TheVariants as places
use Rattle.ic_refs.specs.A1.{SpellsColumn, SpellsRow, SpellsCell, SpellsPlace, AreWholeColumns, AreWholeRows, column_at, cell_at, pair_at, a1_place_at}
use Rattle.ic_refs.specs.Longest.{FindsLongest}
use Rattle.ic_refs.proofs.A1PairLemmas.{SpellsPair, pair_alone, pair_longer}
use Rattle.ic_refs.proofs.LongestLemmas.{Reads, finds_longest, reaches_found, takes_found}
use Rattle.ic_refs.proofs.A1CellLemmas.{cell_reads, row_no_column}
use Rattle.ic_refs.proofs.A1ReadingLemmas.{as_cells, as_cell, as_columns, as_rows, cells_read, columns_read, rows_read, read_cells, read_cell, read_columns, read_rows, before_colon, place_at-spelled}
use Rattle.ic_laws.proofs.parsing.ListFuelLemmas.{option_cases as none_or_some}

-- a place is read, and no more than this is left after it
abbrev IsReadUpTo : ℤ → ℤ → List ℕ → List ℕ → Type 0
IsReadUpTo row column text rest = (found : Place × List ℕ) × (a1_place_at row column text ≡ Some found) × (length found.1 ≤ length rest)

cells_longest : (row column : ℤ) (front rest : List ℕ) (v : RefPart × RefPart) → SpellsPair (SpellsCell row column) front v → IsReadUpTo row column (front ++ rest) rest
cells_longest row column front rest v s =
    let more = Reads.longest (cells_read row column) front rest v s in
    (as_cells more.0, read_cells row column (front ++ rest) more.0 more.1, more.2)

cell_longest : (row column : ℤ) (front rest : List ℕ) (v : RefPart) → SpellsCell row column front v → IsReadUpTo row column (front ++ rest) rest
cell_longest row column front rest v s =
    let text = front ++ rest in
    let more = Reads.longest (cell_reads row column) front rest v s in
    elim (none_or_some (pair_at (cell_at row column) text)) [
      | inl p ↦ (as_cell more.0, read_cell row column text more.0 p more.1, more.2)
      | inr p ↦ (
        as_cells p.0,
        read_cells row column text p.0 p.1,
        omega (arith, more.2, pair_longer (SpellsCell row column) (cell_at row column) is_digit (cell_reads row column) text p.0 more.0 p.1 more.1),
      )
    ]

columns_longest : (row column : ℤ) (front rest : List ℕ) (v : Position × Position) → SpellsPair (SpellsColumn column) front v → IsReadUpTo row column (front ++ rest) rest
columns_longest row column front rest v s =
    let more = Reads.longest (columns_read column) front rest v s in
    let no_cell : cell_at row column (front ++ rest) ≡ None =
    ap (λ t. cell_at row column (t ++ rest)) s.2 ∙ ap (cell_at row column) (append_assoc s.0 (58 ∷ s.1) rest) ∙ before_colon row column s.0 (s.1 ++ rest) v.0 s.3 in
    (as_columns more.0, read_columns row column (front ++ rest) more.0 no_cell more.1, more.2)

rows_longest : (row column : ℤ) (front rest : List ℕ) (v : Position × Position) → SpellsPair (SpellsRow row) front v → IsReadUpTo row column (front ++ rest) rest
rows_longest row column front rest v s =
    let more = Reads.longest (rows_read row) front rest v s in
    let no_column : column_at column (front ++ rest) ≡ None =
    ap (λ t. column_at column (t ++ rest)) s.2 ∙ ap (column_at column) (append_assoc s.0 (58 ∷ s.1) rest) ∙ row_no_column row column s.0 (58 ∷ (s.1 ++ rest)) v.0 s.3 in
    (as_rows more.0, read_rows row column (front ++ rest) more.0 no_column more.1, more.2)

-- what is spelled is read, or more is
pub place_at-longest : (row column : ℤ) (front rest : List ℕ) (place : Place) → SpellsPlace row column front place → IsReadUpTo row column (front ++ rest) rest
place_at-longest row column front rest (places.Cell part) s = cell_longest row column front rest part s
place_at-longest row column front rest (places.Range first last) s =
    elim s.3 [
      | inl p ↦ cells_longest row column front rest (first, last) (s.0, s.1, s.2, p.0, p.1)
      | inr p ↦ elim p [
        | inl q ↦ columns_longest row column front rest (first.column, last.column) (s.0, s.1, s.2, q.1, q.2)
        | inr q ↦ rows_longest row column front rest (first.row, last.row) (s.0, s.1, s.2, q.1, q.2)
      ]
    ]

-- nothing could go on: neither a letter, a digit nor a colon stands at the front
pub record EndsPlace (rest : List ℕ) : Type 0 where
  pub no_letter : first_is is_ascii_letter rest ≡ false
  pub no_digit : first_is is_digit rest ≡ false
  pub no_colon : first_is (λ c. c == 58) rest ≡ false

-- whole columns and whole rows have the rows and columns of the short form
abbrev with_rows : Position → Position → RefPart → RefPart → Place
with_rows r s first last = places.Range (record { row = r; column = first.column }) (record { row = s; column = last.column })

abbrev with_columns : Position → Position → RefPart → RefPart → Place
with_columns c d first last = places.Range (record { row = first.row; column = c }) (record { row = last.row; column = d })

whole_columns : (first last : RefPart) → AreWholeColumns first last → with_rows (at.Abs (pos 1)) (at.Abs (pos 1048576)) first last ≡ places.Range first last
whole_columns first last w = ap (λ r. with_rows r (at.Abs (pos 1048576)) first last) (sym w.0) ∙ ap (λ r. with_rows first.row r first last) (sym w.1)

whole_rows : (first last : RefPart) → AreWholeRows first last → with_columns (at.Abs (pos 1)) (at.Abs (pos 16384)) first last ≡ places.Range first last
whole_rows first last w = ap (λ c. with_columns c (at.Abs (pos 16384)) first last) (sym w.0) ∙ ap (λ c. with_columns first.column c first last) (sym w.1)

-- what is spelled before an end is read again
pub place_at-exact : (row column : ℤ) (front rest : List ℕ) (place : Place) → SpellsPlace row column front place → EndsPlace rest → a1_place_at row column (front ++ rest) ≡ Some (place, rest)
place_at-exact row column front rest (places.Cell part) s end =
    let e = Reads.exact (cell_reads row column) front rest part s end.no_digit in
    read_cell row column (front ++ rest) (part, rest) (pair_alone (cell_at row column) (front ++ rest) (part, rest) e end.no_colon) e
place_at-exact row column front rest (places.Range first last) s end =
    elim s.3 [
      | inl p ↦ read_cells row column (front ++ rest) ((first, last), rest) (Reads.exact (cells_read row column) front rest (first, last) (s.0, s.1, s.2, p.0, p.1) end.no_digit)
      | inr p ↦ elim p [
        | inl q ↦
            let no_cell : cell_at row column (front ++ rest) ≡ None =
            ap (λ t. cell_at row column (t ++ rest)) s.2 ∙ ap (cell_at row column) (append_assoc s.0 (58 ∷ s.1) rest) ∙ before_colon row column s.0 (s.1 ++ rest) first.column q.1 in
            read_columns row column (front ++ rest) ((first.column, last.column), rest) no_cell
            (Reads.exact (columns_read column) front rest (first.column, last.column) (s.0, s.1, s.2, q.1, q.2) end.no_letter)
            ∙ ap (λ p. Some (p, rest)) (whole_columns first last q.0)
        | inr q ↦
            let no_column : column_at column (front ++ rest) ≡ None =
            ap (λ t. column_at column (t ++ rest)) s.2 ∙ ap (column_at column) (append_assoc s.0 (58 ∷ s.1) rest) ∙ row_no_column row column s.0 (58 ∷ (s.1 ++ rest)) first.row q.1 in
            read_rows row column (front ++ rest) ((first.row, last.row), rest) no_column
            (Reads.exact (rows_read row) front rest (first.row, last.row) (s.0, s.1, s.2, q.1, q.2) end.no_digit)
            ∙ ap (λ p. Some (p, rest)) (whole_rows first last q.0)
      ]
    ]

-- the longest place at the front
pub finds_longest_place : (row column : ℤ) (text : List ℕ) → FindsLongest (SpellsPlace row column) text (a1_place_at row column text)
finds_longest_place row column text =
    finds_longest (SpellsPlace row column) (a1_place_at row column)
    (λ text. takes_found (SpellsPlace row column) text (a1_place_at row column text) (place_at-spelled row column text))
    (λ front after v s. let more = place_at-longest row column front after v s in reaches_found after more.0 (a1_place_at row column (front ++ after)) more.1 more.2)
    text
