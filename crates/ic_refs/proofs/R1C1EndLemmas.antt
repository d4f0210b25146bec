-- The ends of a reference in the R1C1 form: what is read is spelled so, and what is spelled is read.
use Rattle.std.proofs.Common.{◌≡◌, ℕ, ℤ, List, [], ◌∷◌, ◌++◌, true, false, Option, Some, None, Result, Ok, refl, sym, subst, ◌∙◌, ap, inl, inr, arith, append_assoc, eqb}
use Rattle.std.proofs.lemmas.Bool.{cases_Bool, eqb-true, or_cases}
use Rattle.ic_laws.specs.Name.{is_r, is_c}
use Rattle.ic_laws.specs.Position.{row_count, column_count}
use Rattle.ic_laws.specs.Scan.{is_digit, first_is}
use Rattle.ic_refs.specs.declared.error.ReferenceError.{ReferenceError}
use Rattle.ic_refs.specs.declared.r1c1_ends.End.{End}
use Rattle.ic_refs.specs.declared.reference.CellReferenceIndex.{CellReferenceIndex}
use Rattle.ic_refs.specs.Formula.{◌>>=◌}
use Rattle.ic_refs.specs.R1C1.{part_at, column_after, row_end_at, column_end_at, end_at, ended, last_end, ends_after, ends_of}
use Rattle.ic_refs.specs.R1C1Form.{IsNumberOf, SpellsRowPart, SpellsColumnPart, SpellsEnd}
use Rattle.ic_refs.proofs.R1C1PartLemmas.{bound, bind, is_open, part_sound, part_complete}

-- a cell of the sheet
pub record IsInSheet (cell : CellReferenceIndex) : Type 0 where
  pub row : IsNumberOf row_count cell.row
  pub column : IsNumberOf column_count cell.column

-- nothing of a part stands at the front
pub record EndsPart (rest : List ℕ) : Type 0 where
  pub no_digit : first_is is_digit rest ≡ false
  pub no_bracket : first_is is_open rest ≡ false

-- C and c are no part of a row
c_ends : (c : ℕ) (cs : List ℕ) → is_c c ≡ true → EndsPart (c ∷ cs)
c_ends c cs h =
    elim (or_cases (eqb c 67) (eqb c 99) h) [
      | inl p ↦ subst (λ x. EndsPart (x ∷ cs)) (sym (eqb-true c 67 p)) (record { no_digit = refl; no_bracket = refl })
      | inr p ↦ subst (λ x. EndsPart (x ∷ cs)) (sym (eqb-true c 99 p)) (record { no_digit = refl; no_bracket = refl })
    ]

-- and no R
c_no_r : (c : ℕ) → is_c c ≡ true → is_r c ≡ false
c_no_r c h =
    elim (or_cases (eqb c 67) (eqb c 99) h) [
      | inl p ↦ ap is_r (eqb-true c 67 p)
      | inr p ↦ ap is_r (eqb-true c 99 p)
    ]

-- the text begins with what spells the end that was read
abbrev pub IsEndRead : CellReferenceIndex → List ℕ → End × List ℕ → Type 0
IsEndRead cell text found = (front : List ℕ) × (text ≡ front ++ found.1) × SpellsEnd cell front found.0

pub same_ok : {A : Type 0} (x y : A) → ◌≡◌ {A = Result A ReferenceError} (Ok x) (Ok y) → x ≡ y
same_ok x y e = cc

-- What is read is spelled so

after_sound : (cell : CellReferenceIndex) (row : ℤ) (front text : List ℕ) (found : End × List ℕ) → IsInSheet cell → SpellsRowPart cell front row → column_after cell row text ≡ Ok found → IsEndRead cell (front ++ text) found
after_sound cell row front [] found i s e =
    subst (IsEndRead cell (front ++ [])) (same_ok (record { row = Some row; column = None }, []) found e) (front, refl, s)
after_sound cell row front (c ∷ cs) found i s e =
    elim (cases_Bool (is_c c)) [
      | inr f ↦ subst (IsEndRead cell (front ++ c ∷ cs)) (same_ok (record { row = Some row; column = None }, c ∷ cs) found (rw f at e)) (front, refl, s)
      | inl t ↦
          let one = bound (part_at 16384 cell.column cs) (λ column. Ok (record { row = Some row; column = Some column.0 }, column.1)) found (rw t at e) in
          let part = part_sound 16384 cell.column cs one.0 i.column one.1 in
          subst (IsEndRead cell (front ++ c ∷ cs)) (same_ok (record { row = Some row; column = Some one.0.0 }, one.0.1) found one.2)
          (front ++ c ∷ part.0, ap (λ t. front ++ c ∷ t) part.1 ∙ sym (append_assoc front (c ∷ part.0) one.0.1), (front, c ∷ part.0, refl, s, (c, part.0, refl, t, part.2)))
    ]

row_end_sound : (cell : CellReferenceIndex) (r : ℕ) (text : List ℕ) (found : End × List ℕ) → IsInSheet cell → is_r r ≡ true → row_end_at cell text ≡ Ok found → IsEndRead cell (r ∷ text) found
row_end_sound cell r text found i t e =
    let one = bound (part_at 1048576 cell.row text) (λ row. column_after cell row.0 row.1) found e in
    let part = part_sound 1048576 cell.row text one.0 i.row one.1 in
    subst (λ t. IsEndRead cell (r ∷ t) found) (sym part.1) (after_sound cell one.0.0 (r ∷ part.0) one.0.1 found i (r, part.0, refl, t, part.2) one.2)

column_end_sound : (cell : CellReferenceIndex) (c : ℕ) (text : List ℕ) (found : End × List ℕ) → IsInSheet cell → is_c c ≡ true → column_end_at cell text ≡ Ok found → IsEndRead cell (c ∷ text) found
column_end_sound cell c text found i t e =
    let one = bound (part_at 16384 cell.column text) (λ column. Ok (record { row = None; column = Some column.0 }, column.1)) found e in
    let part = part_sound 16384 cell.column text one.0 i.column one.1 in
    subst (IsEndRead cell (c ∷ text)) (same_ok (record { row = None; column = Some one.0.0 }, one.0.1) found one.2)
    (c ∷ part.0, ap (λ t. c ∷ t) part.1, (c, part.0, refl, t, part.2))

pub end_sound : (cell : CellReferenceIndex) (text : List ℕ) (found : End × List ℕ) → IsInSheet cell → end_at cell text ≡ Ok found → IsEndRead cell text found
end_sound cell [] found i e = absurd (cc)
end_sound cell (c ∷ cs) found i e =
    elim (cases_Bool (is_r c)) [
      | inl t ↦ row_end_sound cell c cs found i t (rw t at e)
      | inr f ↦ elim (cases_Bool (is_c c)) [
        | inl t ↦ column_end_sound cell c cs found i t (rw (f, t) at e)
        | inr g ↦ let none = rw (f, g) at e in absurd (cc)
      ]
    ]

-- What is spelled is read

-- nothing of an end stands at the front
pub record EndsEnd (rest : List ℕ) : Type 0 where
  pub part : EndsPart rest
  pub no_column : first_is is_c rest ≡ false

after_none : (cell : CellReferenceIndex) (row : ℤ) (rest : List ℕ) → first_is is_c rest ≡ false → column_after cell row rest ≡ Ok (record { row = Some row; column = None }, rest)
after_none cell row [] f = refl
after_none cell row (c ∷ cs) f = rw f refl

row_complete : (cell : CellReferenceIndex) (row : ℤ) (front rest : List ℕ) → SpellsRowPart cell front row → EndsPart rest → end_at cell (front ++ rest) ≡ column_after cell row rest
row_complete cell row front rest s ends =
    ap (λ t. end_at cell (t ++ rest)) s.2
    ∙ (let step : end_at cell (s.0 ∷ (s.1 ++ rest)) ≡ row_end_at cell (s.1 ++ rest) = rw s.3 refl in step)
    ∙ bind (part_at 1048576 cell.row (s.1 ++ rest)) (λ row. column_after cell row.0 row.1) (row, rest)
    (part_complete 1048576 cell.row row s.1 rest (omega arith) s.4 ends.no_digit ends.no_bracket)

column_complete : (cell : CellReferenceIndex) (row column : ℤ) (front rest : List ℕ) → SpellsColumnPart cell front column → EndsPart rest
    → column_after cell row (front ++ rest) ≡ Ok (record { row = Some row; column = Some column }, rest)
column_complete cell row column front rest s ends =
    let go : (column : ℤ × List ℕ) → Result (End × List ℕ) ReferenceError = λ column. Ok (record { row = Some row; column = Some column.0 }, column.1) in
    ap (λ t. column_after cell row (t ++ rest)) s.2
    ∙ (let step : column_after cell row (s.0 ∷ (s.1 ++ rest)) ≡ (part_at 16384 cell.column (s.1 ++ rest) >>= go) = rw s.3 refl in step)
    ∙ bind (part_at 16384 cell.column (s.1 ++ rest)) go (column, rest) (part_complete 16384 cell.column column s.1 rest (omega arith) s.4 ends.no_digit ends.no_bracket)

alone_complete : (cell : CellReferenceIndex) (column : ℤ) (front rest : List ℕ) → SpellsColumnPart cell front column → EndsPart rest
    → end_at cell (front ++ rest) ≡ Ok (record { row = None; column = Some column }, rest)
alone_complete cell column front rest s ends =
    let go : (column : ℤ × List ℕ) → Result (End × List ℕ) ReferenceError = λ column. Ok (record { row = None; column = Some column.0 }, column.1) in
    ap (λ t. end_at cell (t ++ rest)) s.2
    ∙ (let step : end_at cell (s.0 ∷ (s.1 ++ rest)) ≡ column_end_at cell (s.1 ++ rest) = rw (c_no_r s.0 s.3, s.3) refl in step)
    ∙ bind (part_at 16384 cell.column (s.1 ++ rest)) go (column, rest) (part_complete 16384 cell.column column s.1 rest (omega arith) s.4 ends.no_digit ends.no_bracket)

column_begins : (cell : CellReferenceIndex) (column : ℤ) (front rest : List ℕ) → SpellsColumnPart cell front column → EndsPart (front ++ rest)
column_begins cell column front rest s = subst (λ t. EndsPart (t ++ rest)) (sym s.2) (c_ends s.0 (s.1 ++ rest) s.3)

end_of_complete : (cell : CellReferenceIndex) (row column : Option ℤ) (front rest : List ℕ) → SpellsEnd cell front (record { row = row; column = column }) → EndsEnd rest
    → end_at cell (front ++ rest) ≡ Ok (record { row = row; column = column }, rest)
end_of_complete cell (Some row) (Some column) front rest s ends =
    ap (λ t. end_at cell (t ++ rest)) s.2 ∙ ap (end_at cell) (append_assoc s.0 s.1 rest)
    ∙ row_complete cell row s.0 (s.1 ++ rest) s.3 (column_begins cell column s.1 rest s.4)
    ∙ column_complete cell row column s.1 rest s.4 ends.part
end_of_complete cell (Some row) None front rest s ends = row_complete cell row front rest s ends.part ∙ after_none cell row rest ends.no_column
end_of_complete cell None (Some column) front rest s ends = alone_complete cell column front rest s ends.part
end_of_complete cell None None front rest s ends = absurd s

pub end_complete : (cell : CellReferenceIndex) (end : End) (front rest : List ℕ) → SpellsEnd cell front end → EndsEnd rest → end_at cell (front ++ rest) ≡ Ok (end, rest)
end_complete cell end front rest s ends = end_of_complete cell end.row end.column front rest s ends

-- Whole texts

-- one end, or two with a colon between them
abbrev pub AreEnds : CellReferenceIndex → List ℕ → End × Option End → Type 0
AreEnds cell text (first, None) = SpellsEnd cell text first
AreEnds cell text (first, Some last) = (a : List ℕ) × (b : List ℕ) × (text ≡ a ++ 58 ∷ b) × SpellsEnd cell a first × SpellsEnd cell b last

ended_sound : {T : Type 0} (ends found : T) (text : List ℕ) → ended ends text ≡ Ok found → (text ≡ []) × (ends ≡ found)
ended_sound ends found [] e = (refl, cc)
ended_sound ends found (c ∷ cs) e = absurd (cc)

no_rest : (front : List ℕ) → front ++ [] ≡ front
no_rest [] = refl
no_rest (c ∷ cs) = ap (λ t. c ∷ t) (no_rest cs)

last_sound : (cell : CellReferenceIndex) (first : End) (front text : List ℕ) (found : End × Option End) → IsInSheet cell → SpellsEnd cell front first → last_end cell first text ≡ Ok found → AreEnds cell (front ++ 58 ∷ text) found
last_sound cell first front text found i s e =
    let one = bound (end_at cell text) (λ last. ended (first, Some last.0) last.1) found e in
    let read = end_sound cell text one.0 i one.1 in
    let done = ended_sound (first, Some one.0.0) found one.0.1 one.2 in
    subst (AreEnds cell (front ++ 58 ∷ text)) done.1
    (front, read.0, ap (λ t. front ++ 58 ∷ t) (read.1 ∙ ap (λ r. read.0 ++ r) done.0 ∙ no_rest read.0), s, read.2)

ends_after_sound : (cell : CellReferenceIndex) (first : End) (front text : List ℕ) (found : End × Option End) → IsInSheet cell → SpellsEnd cell front first → ends_after cell first text ≡ Ok found → AreEnds cell (front ++ text) found
ends_after_sound cell first front [] found i s e =
    subst (AreEnds cell (front ++ [])) (same_ok (first, None) found e) (subst (λ t. SpellsEnd cell t first) (sym (no_rest front)) s)
ends_after_sound cell first front (c ∷ cs) found i s e =
    elim (cases_Bool (eqb c 58)) [
      | inr f ↦ let none = rw f at e in absurd (cc)
      | inl t ↦ subst (λ x. AreEnds cell (front ++ x ∷ cs) found) (sym (eqb-true c 58 t)) (last_sound cell first front cs found i s (rw t at e))
    ]

pub ends_sound : (cell : CellReferenceIndex) (text : List ℕ) (found : End × Option End) → IsInSheet cell → ends_of cell text ≡ Ok found → AreEnds cell text found
ends_sound cell text found i e =
    let one = bound (end_at cell text) (λ first. ends_after cell first.0 first.1) found e in
    let read = end_sound cell text one.0 i one.1 in
    subst (λ t. AreEnds cell t found) (sym read.1) (ends_after_sound cell one.0.0 read.0 one.0.1 found i read.2 one.2)

nothing_left : EndsEnd []
nothing_left = record { part = record { no_digit = refl; no_bracket = refl }; no_column = refl }

colon_left : (text : List ℕ) → EndsEnd (58 ∷ text)
colon_left text = record { part = record { no_digit = refl; no_bracket = refl }; no_column = refl }

whole_end : (cell : CellReferenceIndex) (end : End) (text : List ℕ) → SpellsEnd cell text end → end_at cell text ≡ Ok (end, [])
whole_end cell end text s = ap (end_at cell) (sym (no_rest text)) ∙ end_complete cell end text [] s nothing_left

pub ends_complete : (cell : CellReferenceIndex) (text : List ℕ) (ends : End × Option End) → AreEnds cell text ends → ends_of cell text ≡ Ok ends
ends_complete cell text (first, None) s = bind (end_at cell text) (λ first. ends_after cell first.0 first.1) (first, []) (whole_end cell first text s)
ends_complete cell text (first, Some last) s =
    ap (ends_of cell) s.2
    ∙ bind (end_at cell (s.0 ++ 58 ∷ s.1)) (λ first. ends_after cell first.0 first.1) (first, 58 ∷ s.1) (end_complete cell first s.0 (58 ∷ s.1) s.3 (colon_left s.1))
    ∙ bind (end_at cell s.1) (λ last. ended (first, Some last.0) last.1) (last, []) (whole_end cell last s.1 s.4)
