-- Places as they are written, and read again.
use Rattle.std.proofs.Common.{◌≡◌, ℕ, ℤ, pos, ◌≤◌, List, ◌++◌, true, ◌&&◌, nat_lt, nat_le, nat_abs, Some, refl, sym, ◌∙◌, ap, arith, inl, inr}
use Rattle.std.specs.Fmt.{decimal}
use Rattle.std.specs.Str.{all_ascii_digits}
use Rattle.std.specs.Str.Parse.{digits_value}
use Rattle.std.proofs.lemmas.Bool.{and_parts, and_from, cases_Bool, le-leb, lt-ltb}
use Rattle.std.proofs.lemmas.Bool.Decides.{Decides-int_eq}
use Rattle.std.proofs.lemmas.Fmt.{digits_decimal, digits_value-decimal}
use Rattle.ic_laws.specs.Name.{names_row}
use Rattle.ic_laws.specs.Position.{is_row, is_column, place_at, is_part_inside, is_inside}
use Rattle.ic_laws.specs.declared.reference.Position.{Position}
use Rattle.ic_laws.specs.declared.reference.Position.TheVariants as at
use Rattle.ic_laws.specs.declared.reference.RefPart.{RefPart}
use Rattle.ic_laws.specs.declared.reference.Place.{Place}
use Rattle.ic_laws.specs.declared.reference.Place.TheVariants as places
use Rattle.ic_refs.specs.A1.{SpellsColumn, SpellsRow, SpellsCell, SpellsPlace, column_text, row_text, cell_text, is_abs, are_whole_columns, are_whole_rows, place_text, a1_place_at}
use Rattle.ic_refs.specs.Column.{column_letters}
use Rattle.ic_refs.proofs.ColumnLemmas.{letters_number-column_letters, names_column-column_letters, number_of_column, number_of_row}
use Rattle.ic_refs.proofs.A1PlaceLemmas.{EndsPlace, place_at-exact}
use Rattle.ic_laws.proofs.AmountLemmas.{numerals}

-- a row's digits name it
names_row-decimal : (n : ℕ) → 1 ≤ n → n ≤ 1048576 → names_row (decimal n) ≡ true
names_row-decimal n l h =
    let v : digits_value 10 (decimal n) ≡ n = digits_value-decimal numerals n (omega arith) in
    and_from (all_ascii_digits (decimal n) && nat_lt 0 (digits_value 10 (decimal n))) (nat_le (digits_value 10 (decimal n)) 1048576)
    (and_from (all_ascii_digits (decimal n)) (nat_lt 0 (digits_value 10 (decimal n))) (digits_decimal numerals n (omega arith)) (lt-ltb 0 (digits_value 10 (decimal n)) (omega (arith, v))))
    (le-leb (digits_value 10 (decimal n)) 1048576 (omega (arith, v)))

-- what is written is spelled so
pub column_text-spells : (column : ℤ) (position : Position) → is_column (place_at position column) ≡ true → SpellsColumn column (column_text column position) position
column_text-spells column position h =
    let n = number_of_column (place_at position column) h in
    record {
      letters = column_letters (nat_abs (place_at position column));
      whole = refl;
      named = names_column-column_letters (nat_abs (place_at position column)) n.low n.high;
      place = n.same ∙ ap pos (sym (letters_number-column_letters (nat_abs (place_at position column)) n.low n.high));
    }

pub row_text-spells : (row : ℤ) (position : Position) → is_row (place_at position row) ≡ true → SpellsRow row (row_text row position) position
row_text-spells row position h =
    let n = number_of_row (place_at position row) h in
    record {
      digits = decimal (nat_abs (place_at position row));
      whole = refl;
      named = names_row-decimal (nat_abs (place_at position row)) n.low n.high;
      place = n.same ∙ ap pos (sym (digits_value-decimal numerals (nat_abs (place_at position row)) (omega (arith, n.high))));
    }

pub cell_text-spells : (row column : ℤ) (part : RefPart) → is_part_inside part row column ≡ true → SpellsCell row column (cell_text row column part) part
cell_text-spells row column part h =
    let parts = and_parts (is_row (place_at part.row row)) (is_column (place_at part.column column)) h in
    record {
      column_text = column_text column part.column;
      row_text = row_text row part.row;
      whole = refl;
      column = column_text-spells column part.column parts.1;
      row = row_text-spells row part.row parts.0;
    }

is_abs-true : (p : Position) (n : ℤ) → is_abs p n ≡ true → p ≡ at.Abs n
is_abs-true (at.Abs m) n h = ap at.Abs ((Decides-int_eq m n).0 h)
is_abs-true (at.Rel k) n h = absurd (cc)

pub place_text-spells : (row column : ℤ) (place : Place) → is_inside place row column ≡ true → SpellsPlace row column (place_text row column place) place
place_text-spells row column (places.Cell part) h = cell_text-spells row column part h
place_text-spells row column (places.Range first last) h =
    let inside = and_parts (is_part_inside first row column) (is_part_inside last row column) h in
    let a = and_parts (is_row (place_at first.row row)) (is_column (place_at first.column column)) inside.0 in
    let b = and_parts (is_row (place_at last.row row)) (is_column (place_at last.column column)) inside.1 in
    elim (cases_Bool (are_whole_columns first last)) [
      | inl p ↦
          let whole = and_parts (is_abs first.row (pos 1)) (is_abs last.row (pos 1048576)) p in
          rw p (
            column_text column first.column,
            column_text column last.column,
            refl,
            inr (inl ((is_abs-true first.row (pos 1) whole.0, is_abs-true last.row (pos 1048576) whole.1), column_text-spells column first.column a.1, column_text-spells column last.column b.1)),
          )
      | inr p ↦ elim (cases_Bool (are_whole_rows first last)) [
        | inl q ↦
            let whole = and_parts (is_abs first.column (pos 1)) (is_abs last.column (pos 16384)) q in
            rw (p, q) (
              row_text row first.row,
              row_text row last.row,
              refl,
              inr (inr ((is_abs-true first.column (pos 1) whole.0, is_abs-true last.column (pos 16384) whole.1), row_text-spells row first.row a.0, row_text-spells row last.row b.0)),
            )
        | inr q ↦
            rw (p, q) (cell_text row column first, cell_text row column last, refl, inl (cell_text-spells row column first inside.0, cell_text-spells row column last inside.1))
      ]
    ]

-- what is written before an end is read again
pub place_text-again : (row column : ℤ) (place : Place) (rest : List ℕ) → is_inside place row column ≡ true → EndsPlace rest → a1_place_at row column (place_text row column place ++ rest) ≡ Some (place, rest)
place_text-again row column place rest h end = place_at-exact row column (place_text row column place) rest place (place_text-spells row column place h) end
