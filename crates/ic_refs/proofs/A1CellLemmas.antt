-- Cells and places: what reads the longest at the front.
use Rattle.std.proofs.Common.{◌≡◌, ℕ, ℤ, pos, negsuc, ◌<◌, ◌≤ℤ◌, List, [], ◌∷◌, ◌++◌, true, false, Some, None, option_map, option_and_then, Option, refl, sym, ◌∙◌, ap, subst, arith, inl, inr, append_assoc}
use Rattle.std.specs.List.{list_all}
use Rattle.std.proofs.lemmas.Int.{ints, to_z-of_z}
use mir.Syntax.{w32}
use mir.Val.{of_z, to_z}
use Rattle.std.proofs.lemmas.Bool.{and_parts}
use Rattle.std.proofs.lemmas.Bool.Decides.{eqb_tells, nat_tests}
use Rattle.ic_laws.specs.Scan.{is_digit, first_is, is_ascii_letter}
use Rattle.ic_laws.specs.Position.{letter_digit}
use Rattle.ic_laws.specs.declared.reference.TheConstants.{LAST_ROW}
use Rattle.ic_laws.specs.declared.reference.Position.{Position}
use Rattle.ic_laws.specs.declared.reference.Position.TheVariants as at
use Rattle.ic_laws.specs.declared.reference.RefPart.{RefPart}
use Rattle.ic_refs.specs.A1.{IsAnOrigin, SpellsColumn, SpellsRow, SpellsCell, a1_place_at, dollar_of, past_colon, read_position, column_at, row_at, cell_at}
use Rattle.ic_refs.specs.Digits.{digit_number, number_value}
use Rattle.ic_refs.proofs.DigitsLemmas.{read_stops}
use Rattle.ic_refs.proofs.LongestLemmas.{IsTaken}
use Rattle.ic_refs.proofs.A1NumberLemmas.{row_as_number, column_at-spelled, row_at-spelled, column_at-longest, row_at-longest, column_at-exact, row_at-exact}
use Rattle.ic_refs.proofs.LongestLemmas.{Reads}
use Rattle.ic_laws.proofs.tokens.Splits.{mapped}
use Rattle.ic_laws.proofs.General.{chained}

pub column_reads : (column : ℤ) → Reads (SpellsColumn column) (column_at column) is_ascii_letter
column_reads column = record { spelled = column_at-spelled column; longest = column_at-longest column; exact = column_at-exact column }

pub row_reads : (row : ℤ) → Reads (SpellsRow row) (row_at row) is_digit
row_reads row = record { spelled = row_at-spelled row; longest = row_at-longest row; exact = row_at-exact row }

-- a digit is no letter
digit_no_letter : (c : ℕ) → is_digit c ≡ true → is_ascii_letter c ≡ false
digit_no_letter c h = grind (arith, nat_tests)

-- no letter stands at the front of a row
digits_no_letter : (digits rest : List ℕ) → list_all is_digit digits ≡ true → 0 < number_value digit_number 10 0 digits → first_is is_ascii_letter (digits ++ rest) ≡ false
digits_no_letter [] rest a p = absurd (omega arith)
digits_no_letter (c ∷ cs) rest a p = digit_no_letter c (and_parts (is_digit c) (list_all is_digit cs) a).0

dollar_no_letter : (position : Position) (digits rest : List ℕ) → list_all is_digit digits ≡ true → 0 < number_value digit_number 10 0 digits
    → first_is is_ascii_letter ((dollar_of position ++ digits) ++ rest) ≡ false
dollar_no_letter (at.Abs n) digits rest a p = refl
dollar_no_letter (at.Rel k) digits rest a p = digits_no_letter digits rest a p

pub row_no_letter : (row : ℤ) (front rest : List ℕ) (position : Position) → SpellsRow row front position → first_is is_ascii_letter (front ++ rest) ≡ false
row_no_letter row front rest position s =
    let n = row_as_number row front position s in
    ap (λ v. first_is is_ascii_letter (v ++ rest)) n.whole ∙ dollar_no_letter position n.digits rest n.all n.positive

-- and so no column does
dollar_no_column : (column : ℤ) (position : Position) (digits rest : List ℕ) → list_all is_digit digits ≡ true → 0 < number_value digit_number 10 0 digits
    → column_at column ((dollar_of position ++ digits) ++ rest) ≡ None
dollar_no_column column (at.Abs n) digits rest a p =
    ap (read_position true column) (read_stops is_ascii_letter letter_digit 26 16384 0 (digits ++ rest) (digits_no_letter digits rest a p))
dollar_no_column column (at.Rel k) [] rest a p = absurd (omega arith)
dollar_no_column column (at.Rel k) (c ∷ cs) rest a p =
    elim (eqb_tells c 36) [
      | inl q ↦ let no : is_digit 36 ≡ true = subst (λ x. is_digit x ≡ true) q.1 (and_parts (is_digit c) (list_all is_digit cs) a).0 in absurd (cc)
      | inr q ↦ rw q.0 (ap (read_position false column) (read_stops is_ascii_letter letter_digit 26 16384 0 (c ∷ (cs ++ rest)) (digits_no_letter (c ∷ cs) rest a p)))
    ]

pub row_no_column : (row column : ℤ) (front rest : List ℕ) (position : Position) → SpellsRow row front position → column_at column (front ++ rest) ≡ None
row_no_column row column front rest position s =
    let n = row_as_number row front position s in
    ap (λ v. column_at column (v ++ rest)) n.whole ∙ dollar_no_column column position n.digits rest n.all n.positive

-- a cell of a column and a row
abbrev pub cell_of : Position × List ℕ → Position × List ℕ → RefPart × List ℕ
cell_of c r = (record { row = r.0; column = c.0 }, r.1)

cell_read : (row column : ℤ) (text beyond : List ℕ) (c : Position) (r : Position × List ℕ) → column_at column text ≡ Some (c, beyond) → row_at row beyond ≡ Some r
    → cell_at row column text ≡ Some (record { row = r.0; column = c }, r.1)
cell_read row column text beyond c r p q =
    ap (λ o. option_and_then (λ (c : Position × List ℕ). option_map (cell_of c) (row_at row c.1)) o) p ∙ ap (option_map (cell_of (c, beyond))) q

pub cell_none : (row column : ℤ) (text : List ℕ) → column_at column text ≡ None → cell_at row column text ≡ None
cell_none row column text p = ap (λ o. option_and_then (λ (c : Position × List ℕ). option_map (cell_of c) (row_at row c.1)) o) p

cell_spelled : (row column : ℤ) (text : List ℕ) (found : RefPart × List ℕ) → cell_at row column text ≡ Some found → IsTaken (SpellsCell row column) text found
cell_spelled row column text found e =
    let one = chained (λ (c : Position × List ℕ). option_map (cell_of c) (row_at row c.1)) (column_at column text) found e in
    let two = mapped (cell_of one.0) (row_at row one.0.1) found one.2 in
    let c = column_at-spelled column text one.0 one.1 in
    let r = row_at-spelled row one.0.1 two.0 two.1 in
    let Wanted : RefPart × List ℕ → Type 0 = λ f. IsTaken (SpellsCell row column) text f in
    subst Wanted two.2 (record {
      front = c.front ++ r.front;
      whole = c.whole ∙ ap (λ v. c.front ++ v) r.whole ∙ sym (append_assoc c.front r.front two.0.1);
      spelled = record { column_text = c.front; row_text = r.front; whole = refl; column = c.spelled; row = r.spelled };
    })

pub cell_reads : (row column : ℤ) → Reads (SpellsCell row column) (cell_at row column) is_digit
cell_reads row column = record {
  spelled = cell_spelled row column;
  longest = λ front rest v s.
      let r = row_at-longest row s.row_text rest v.row s.row in (
        (record { row = r.0.0; column = v.column }, r.0.1),
        ap (λ t. cell_at row column (t ++ rest)) s.whole ∙ ap (cell_at row column) (append_assoc s.column_text s.row_text rest)
            ∙ cell_read row column (s.column_text ++ (s.row_text ++ rest)) (s.row_text ++ rest) v.column r.0
            (column_at-exact column s.column_text (s.row_text ++ rest) v.column s.column (row_no_letter row s.row_text rest v.row s.row)) r.1,
        r.2,
      );
  exact = λ front rest v s ends.
      ap (λ t. cell_at row column (t ++ rest)) s.whole ∙ ap (cell_at row column) (append_assoc s.column_text s.row_text rest)
      ∙ cell_read row column (s.column_text ++ (s.row_text ++ rest)) (s.row_text ++ rest) v.column (v.row, rest)
      (column_at-exact column s.column_text (s.row_text ++ rest) v.column s.column (row_no_letter row s.row_text rest v.row s.row))
      (row_at-exact row s.row_text rest v.row s.row ends);
}

-- a text that begins with a column begins with no row
pub column_no_row : (row column : ℤ) (text : List ℕ) (found : Position × List ℕ) → column_at column text ≡ Some found → row_at row text ≡ None
column_no_row row column text found e = by (row_at row text) refl
  where
    by : (r : Option (Position × List ℕ)) → row_at row text ≡ r → row_at row text ≡ None
    by None h = h
    by (Some read) h =
        let s = (row_reads row).spelled text read h in
        absurd (let no : Some found ≡ None = sym e ∙ ap (column_at column) s.whole ∙ row_no_column row column s.front read.1 read.0 s.spelled in cc)

-- a row or a column of an origin is the same number in 32 bits
same_number : (z : ℤ) → pos 0 ≤ℤ z → z ≤ℤ LAST_ROW → to_z w32 (of_z w32 z) ≡ z
same_number (pos n) low high = to_z-of_z w32 (pos n) (record { sfits = omega (arith, ints, high) })
same_number (negsuc n) low high = absurd (omega (arith, ints, low))

-- a text that begins with a column, and with neither a cell nor two columns, begins with no place
pub lone_column : (row column : ℤ) → IsAnOrigin row column → (text rest : List ℕ) (p : Position) → column_at (to_z w32 (of_z w32 column)) text ≡ Some (p, rest)
    → row_at (to_z w32 (of_z w32 row)) rest ≡ None
    → option_and_then {U = (Position × Position) × List ℕ} (λ after. option_map (λ (b : Position × List ℕ). ((p, b.0), b.1)) (column_at (to_z w32 (of_z w32 column)) after)) (past_colon rest) ≡ None
    → None ≡ a1_place_at row column text
lone_column row column origin text rest p first second more =
    let same_row = same_number row origin.0 origin.1 in
    let same_column = same_number column origin.2 (omega (arith, ints, origin.3)) in
    let e = rw same_column at first in
    let r = rw same_row at second in
    let n = rw same_column at more in
    rw e (rw r (rw n (rw (column_no_row row column text (p, rest) e) refl)))
