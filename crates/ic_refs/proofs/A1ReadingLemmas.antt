-- The place at the front of a text: what is read is spelled so, nothing longer is, and what is spelled is read.
use Rattle.std.proofs.Common.{◌≡◌, ℕ, ℤ, pos, List, ◌∷◌, ◌++◌, Option, Some, None, option_map, option_and_then, refl, ◌∙◌, ap, subst, inl, inr}
use Rattle.ic_laws.specs.Scan.{is_digit, is_ascii_letter}
use Rattle.ic_laws.specs.declared.reference.Position.{Position}
use Rattle.ic_laws.specs.declared.reference.Position.TheVariants as at
use Rattle.ic_laws.specs.declared.reference.RefPart.{RefPart}
use Rattle.ic_laws.specs.declared.reference.Place.{Place}
use Rattle.ic_laws.specs.declared.reference.Place.TheVariants as places
use Rattle.ic_refs.specs.A1.{SpellsColumn, SpellsRow, SpellsCell, SpellsPlace, column_at, row_at, cell_at, pair_at, a1_place_at}
use Rattle.ic_refs.specs.Sheet.{or_else}
use Rattle.ic_refs.proofs.LongestLemmas.{IsTaken}
use Rattle.ic_refs.proofs.A1NumberLemmas.{column_at-exact}
use Rattle.ic_refs.proofs.A1PairLemmas.{SpellsPair, pair_reads, pair_none}
use Rattle.ic_refs.proofs.LongestLemmas.{Reads}
use Rattle.ic_refs.proofs.A1CellLemmas.{column_reads, row_reads, cell_reads, cell_none}
use Rattle.ic_laws.proofs.tokens.Splits.{mapped, or_else_parts}

-- the four kinds of places
abbrev pub as_cells : (RefPart × RefPart) × List ℕ → Place × List ℕ
as_cells f = (places.Range f.0.0 f.0.1, f.1)

abbrev pub as_cell : RefPart × List ℕ → Place × List ℕ
as_cell f = (places.Cell f.0, f.1)

abbrev pub as_columns : (Position × Position) × List ℕ → Place × List ℕ
as_columns f = (places.Range (record { row = at.Abs (pos 1); column = f.0.0 }) (record { row = at.Abs (pos 1048576); column = f.0.1 }), f.1)

abbrev pub as_rows : (Position × Position) × List ℕ → Place × List ℕ
as_rows f = (places.Range (record { row = f.0.0; column = at.Abs (pos 1) }) (record { row = f.0.1; column = at.Abs (pos 16384) }), f.1)

abbrev first_of_four : Option ((RefPart × RefPart) × List ℕ) → Option (RefPart × List ℕ) → Option ((Position × Position) × List ℕ) → Option ((Position × Position) × List ℕ) → Option (Place × List ℕ)
first_of_four a b c d = or_else (option_map as_cells a) (or_else (option_map as_cell b) (or_else (option_map as_columns c) (option_map as_rows d)))

-- each kind of pair
pub cells_read : (row column : ℤ) → Reads (SpellsPair (SpellsCell row column)) (pair_at (cell_at row column)) is_digit
cells_read row column = pair_reads (SpellsCell row column) (cell_at row column) is_digit (cell_reads row column) refl

pub columns_read : (column : ℤ) → Reads (SpellsPair (SpellsColumn column)) (pair_at (column_at column)) is_ascii_letter
columns_read column = pair_reads (SpellsColumn column) (column_at column) is_ascii_letter (column_reads column) refl

pub rows_read : (row : ℤ) → Reads (SpellsPair (SpellsRow row)) (pair_at (row_at row)) is_digit
rows_read row = pair_reads (SpellsRow row) (row_at row) is_digit (row_reads row) refl

-- what is read is spelled so
abbrev IsPlaceRead : ℤ → ℤ → List ℕ → Place × List ℕ → Type 0
IsPlaceRead row column text found = IsTaken (SpellsPlace row column) text found

from_cells : (row column : ℤ) (text : List ℕ) (f : (RefPart × RefPart) × List ℕ) → pair_at (cell_at row column) text ≡ Some f → IsPlaceRead row column text (as_cells f)
from_cells row column text f e =
    let t = Reads.spelled (cells_read row column) text f e in
    record { front = t.front; whole = t.whole; spelled = (t.spelled.0, t.spelled.1, t.spelled.2, inl (t.spelled.3, t.spelled.4)) }

from_cell : (row column : ℤ) (text : List ℕ) (f : RefPart × List ℕ) → cell_at row column text ≡ Some f → IsPlaceRead row column text (as_cell f)
from_cell row column text f e =
    let t = Reads.spelled (cell_reads row column) text f e in
    record { front = t.front; whole = t.whole; spelled = t.spelled }

from_columns : (row column : ℤ) (text : List ℕ) (f : (Position × Position) × List ℕ) → pair_at (column_at column) text ≡ Some f → IsPlaceRead row column text (as_columns f)
from_columns row column text f e =
    let t = Reads.spelled (columns_read column) text f e in
    record { front = t.front; whole = t.whole; spelled = (t.spelled.0, t.spelled.1, t.spelled.2, inr (inl ((refl, refl), t.spelled.3, t.spelled.4))) }

from_rows : (row column : ℤ) (text : List ℕ) (f : (Position × Position) × List ℕ) → pair_at (row_at row) text ≡ Some f → IsPlaceRead row column text (as_rows f)
from_rows row column text f e =
    let t = Reads.spelled (rows_read row) text f e in
    record { front = t.front; whole = t.whole; spelled = (t.spelled.0, t.spelled.1, t.spelled.2, inr (inr ((refl, refl), t.spelled.3, t.spelled.4))) }

pub place_at-spelled : (row column : ℤ) (text : List ℕ) (found : Place × List ℕ) → a1_place_at row column text ≡ Some found → IsTaken (SpellsPlace row column) text found
place_at-spelled row column text found e =
    let a = pair_at (cell_at row column) text in
    let b = cell_at row column text in
    let c = pair_at (column_at column) text in
    let d = pair_at (row_at row) text in
    let Wanted : Place × List ℕ → Type 0 = λ f. IsPlaceRead row column text f in
    elim (or_else_parts (option_map as_cells a) (or_else (option_map as_cell b) (or_else (option_map as_columns c) (option_map as_rows d))) found e) [
      | inl p ↦ let m = mapped as_cells a found p in subst Wanted m.2 (from_cells row column text m.0 m.1)
      | inr p ↦ elim (or_else_parts (option_map as_cell b) (or_else (option_map as_columns c) (option_map as_rows d)) found p.1) [
        | inl q ↦ let m = mapped as_cell b found q in subst Wanted m.2 (from_cell row column text m.0 m.1)
        | inr q ↦ elim (or_else_parts (option_map as_columns c) (option_map as_rows d) found q.1) [
          | inl r ↦ let m = mapped as_columns c found r in subst Wanted m.2 (from_columns row column text m.0 m.1)
          | inr r ↦ let m = mapped as_rows d found r.1 in subst Wanted m.2 (from_rows row column text m.0 m.1)
        ]
      ]
    ]

-- which of the four is read
pub read_cells : (row column : ℤ) (text : List ℕ) (f : (RefPart × RefPart) × List ℕ) → pair_at (cell_at row column) text ≡ Some f → a1_place_at row column text ≡ Some (as_cells f)
read_cells row column text f p = ap (λ a. first_of_four a (cell_at row column text) (pair_at (column_at column) text) (pair_at (row_at row) text)) p

pub read_cell : (row column : ℤ) (text : List ℕ) (f : RefPart × List ℕ) → pair_at (cell_at row column) text ≡ None → cell_at row column text ≡ Some f → a1_place_at row column text ≡ Some (as_cell f)
read_cell row column text f p q =
    ap (λ a. first_of_four a (cell_at row column text) (pair_at (column_at column) text) (pair_at (row_at row) text)) p
    ∙ ap (λ b. first_of_four None b (pair_at (column_at column) text) (pair_at (row_at row) text)) q

pub read_columns : (row column : ℤ) (text : List ℕ) (f : (Position × Position) × List ℕ) → cell_at row column text ≡ None → pair_at (column_at column) text ≡ Some f → a1_place_at row column text ≡ Some (as_columns f)
read_columns row column text f p q =
    ap (λ a. first_of_four a (cell_at row column text) (pair_at (column_at column) text) (pair_at (row_at row) text)) (pair_none (cell_at row column) text p)
    ∙ ap (λ b. first_of_four None b (pair_at (column_at column) text) (pair_at (row_at row) text)) p
    ∙ ap (λ c. first_of_four None None c (pair_at (row_at row) text)) q

pub read_rows : (row column : ℤ) (text : List ℕ) (f : (Position × Position) × List ℕ) → column_at column text ≡ None → pair_at (row_at row) text ≡ Some f → a1_place_at row column text ≡ Some (as_rows f)
read_rows row column text f p q =
    ap (λ a. first_of_four a (cell_at row column text) (pair_at (column_at column) text) (pair_at (row_at row) text)) (pair_none (cell_at row column) text (cell_none row column text p))
    ∙ ap (λ b. first_of_four None b (pair_at (column_at column) text) (pair_at (row_at row) text)) (cell_none row column text p)
    ∙ ap (λ c. first_of_four None None c (pair_at (row_at row) text)) (pair_none (column_at column) text p)
    ∙ ap (λ d. first_of_four None None None d) q

-- no row stands at a colon, so a column before a colon is no cell
pub before_colon : (row column : ℤ) (a rest : List ℕ) (position : Position) → SpellsColumn column a position → cell_at row column (a ++ 58 ∷ rest) ≡ None
before_colon row column a rest position s =
    ap (λ o. option_and_then (λ (c : Position × List ℕ). option_map (λ (r : Position × List ℕ). (record { row = r.0; column = c.0 }, r.1)) (row_at row c.1)) o)
    (column_at-exact column a (58 ∷ rest) position s refl)
