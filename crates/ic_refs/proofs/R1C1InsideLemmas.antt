-- What the R1C1 form refers to lies in the sheet.
use Rattle.std.proofs.Common.{◌≡◌, ◌<◌, ℕ, ℤ, pos, negsuc, neg_ℤ, ◌+◌, ◌-◌, ◌%◌, ◌+ℤ◌, ◌-ℤ◌, ◌≤ℤ◌, List, [], ◌∷◌, Bool, true, false, ◌&&◌, Option, Some, None, IfSome, Result, Ok, Err, IfOk, is_some, unwrap_or, refl, inl, inr, arith, leb, ltb, eqb, cond}
use Rattle.std.specs.Int.{int_min, int_max, int_rem_euclid}
use Rattle.std.specs.Prelude.{int_le, int_lt}
use Rattle.std.proofs.lemmas.Int.{ints, clamps}
use Rattle.std.proofs.Math.Nat.{mod-lt}
use Rattle.std.proofs.lemmas.Bool.{and_parts, and_from, le-leb, cases_Bool}
use Rattle.ic_laws.specs.Name.{is_r, is_c}
use Rattle.ic_laws.specs.Scan.{is_digit, past_run}
use Rattle.ic_laws.specs.Position.{is_row, is_column}
use Rattle.ic_refs.specs.declared.error.ReferenceError.{ReferenceError}
use Rattle.ic_refs.specs.declared.r1c1_ends.End.{End}
use Rattle.ic_refs.specs.declared.reference.CellReferenceIndex.{CellReferenceIndex}
use Rattle.ic_refs.specs.declared.reference.ParsedReference.{ParsedReference}
use Rattle.ic_refs.specs.Formula.{◌>>=◌}
use Rattle.ic_refs.specs.R1C1.{number_at, absolute, offset, past_bracket, offset_on_at, offset_back_at, offset_at, absolute_at, part_at, column_after, row_end_at, column_end_at, end_at, ended, last_end, ends_after, ends_of, first_cell, last_cell, first_corner, last_corner, area_of, have_one_kind, referred, refers}
use Rattle.ic_refs.specs.Referred.{is_cell_of_sheet, LiesInSheet, HasCornersInOrder}

-- a row or a column of a sheet of this length
abbrev pub is_of : ℕ → ℤ → Bool
is_of length z = int_le (pos 1) z && int_le z (pos length)

-- what holds after a first step that may fail
held : {A B : Type 0} (Q : A → Type 0) (P : B → Type 0) (r : Result A ReferenceError) (f : A → Result B ReferenceError) → IfOk r Q → ((x : A) → Q x → IfOk (f x) P) → IfOk (r >>= f) P
held Q P (Ok x) f q g = g x q
held Q P (Err e) f q g = tt

whatever : {A : Type 0} (r : Result A ReferenceError) → IfOk r (λ _. Unit {0})
whatever (Ok x) = tt
whatever (Err e) = tt

-- whichever of two is taken
either : {A : Type 0} (P : A → Type 0) (b : Bool) (x y : Result A ReferenceError) → IfOk x P → IfOk y P → IfOk (cond b x y) P
either P true x y p q = p
either P false x y p q = q

rem_of : (length : ℕ) (x : ℤ) → 0 < length → is_of length (int_rem_euclid x (pos length) +ℤ pos 1) ≡ true
rem_of length (pos a) h =
    let m = mod-lt a h in
    and_from (leb 1 (a % length + 1)) (leb (a % length + 1) length) (le-leb _ _ (omega arith)) (le-leb _ _ (omega arith))
rem_of length (negsuc a) h =
    let m = mod-lt a h in
    and_from (leb 1 (length - 1 - a % length + 1)) (leb (length - 1 - a % length + 1) length) (le-leb _ _ (omega arith)) (le-leb _ _ (omega arith))

absolute_of : (length n : ℕ) → IfOk (absolute length n) (λ z. is_of length z ≡ true)
absolute_of length n =
    elim (cases_Bool (ltb 0 n)) [
      | inr f ↦ rw f tt
      | inl t ↦ elim (cases_Bool (leb n length)) [
        | inr f ↦ rw (t, f) tt
        | inl l ↦ rw (t, l) (and_from (leb 1 n) (leb n length) t l)
      ]
    ]

offset_of : (length : ℕ) (origin k : ℤ) (distance : ℕ) → 0 < length → IfOk (offset length origin k distance) (λ z. is_of length z ≡ true)
offset_of length origin k distance h =
    elim (cases_Bool (ltb distance length)) [
      | inr f ↦ rw f tt
      | inl t ↦ rw t (rem_of length ((origin +ℤ k) -ℤ pos 1) h)
    ]

abbrev IsPart : ℕ → ℤ × List ℕ → Type 0
IsPart length f = is_of length f.0 ≡ true

bracket_of : (length : ℕ) (place : ℤ) (text : List ℕ) → is_of length place ≡ true → IfOk (past_bracket place text) (IsPart length)
bracket_of length place [] h = tt
bracket_of length place (c ∷ cs) h =
    elim (cases_Bool (eqb c 93)) [
      | inl t ↦ rw t h
      | inr f ↦ rw f tt
    ]

on_of : (length : ℕ) (origin : ℤ) (text : List ℕ) → 0 < length → IfOk (offset_on_at length origin text) (IsPart length)
on_of length origin text h =
    held (λ _. Unit {0}) (IsPart length) (number_at 2147483647 text) (λ n. offset length origin (pos n) n >>= λ place. past_bracket place (past_run is_digit text)) (whatever (number_at 2147483647 text))
    (λ n _. held (λ z. is_of length z ≡ true) (IsPart length) (offset length origin (pos n) n) (λ place. past_bracket place (past_run is_digit text)) (offset_of length origin (pos n) n h)
    (λ place w. bracket_of length place (past_run is_digit text) w))

back_of : (length : ℕ) (origin : ℤ) (text : List ℕ) → 0 < length → IfOk (offset_back_at length origin text) (IsPart length)
back_of length origin text h =
    held (λ _. Unit {0}) (IsPart length) (number_at 2147483648 text) (λ n. offset length origin (neg_ℤ (pos n)) n >>= λ place. past_bracket place (past_run is_digit text)) (whatever (number_at 2147483648 text))
    (λ n _. held (λ z. is_of length z ≡ true) (IsPart length) (offset length origin (neg_ℤ (pos n)) n) (λ place. past_bracket place (past_run is_digit text)) (offset_of length origin (neg_ℤ (pos n)) n h)
    (λ place w. bracket_of length place (past_run is_digit text) w))

offset_at_of : (length : ℕ) (origin : ℤ) (text : List ℕ) → 0 < length → IfOk (offset_at length origin text) (IsPart length)
offset_at_of length origin [] h = tt
offset_at_of length origin (c ∷ cs) h =
    elim (cases_Bool (eqb c 45)) [
      | inl t ↦ rw t (back_of length origin cs h)
      | inr f ↦ rw f (on_of length origin (c ∷ cs) h)
    ]

absolute_at_of : (length : ℕ) (text : List ℕ) → IfOk (absolute_at length text) (IsPart length)
absolute_at_of length text =
    held (λ _. Unit {0}) (IsPart length) (number_at 2147483647 text) (λ n. absolute length n >>= λ place. Ok (place, past_run is_digit text)) (whatever (number_at 2147483647 text))
    (λ n _. held (λ z. is_of length z ≡ true) (IsPart length) (absolute length n) (λ place. Ok (place, past_run is_digit text)) (absolute_of length n) (λ place w. w))

part_of : (length : ℕ) (origin : ℤ) (text : List ℕ) → 0 < length → is_of length origin ≡ true → IfOk (part_at length origin text) (IsPart length)
part_of length origin [] h o = o
part_of length origin (c ∷ cs) h o =
    either (IsPart length) (is_digit c) (absolute_at length (c ∷ cs)) (cond (eqb c 91) (offset_at length origin cs) (Ok (origin, c ∷ cs))) (absolute_at_of length (c ∷ cs))
    (either (IsPart length) (eqb c 91) (offset_at length origin cs) (Ok (origin, c ∷ cs)) (offset_at_of length origin cs h) o)

-- Ends

abbrev IsEndInside : End → Type 0
IsEndInside end = IfSome end.row (λ z. is_of 1048576 z ≡ true) × IfSome end.column (λ z. is_of 16384 z ≡ true)

column_after_of : (cell : CellReferenceIndex) (row : ℤ) (text : List ℕ) → is_column cell.column ≡ true → is_of 1048576 row ≡ true → IfOk (column_after cell row text) (λ f. IsEndInside f.0)
column_after_of cell row [] k w = (w, tt)
column_after_of cell row (c ∷ cs) k w =
    elim (cases_Bool (is_c c)) [
      | inl t ↦ rw t (held (IsPart 16384) (λ f. IsEndInside f.0) (part_at 16384 cell.column cs) (λ column. Ok (record { row = Some row; column = Some column.0 }, column.1)) (part_of 16384 cell.column cs (omega arith) k) (λ column v. (w, v)))
      | inr f ↦ rw f (w, tt)
    ]

row_end_of : (cell : CellReferenceIndex) (text : List ℕ) → is_row cell.row ≡ true → is_column cell.column ≡ true → IfOk (row_end_at cell text) (λ f. IsEndInside f.0)
row_end_of cell text r k =
    held (IsPart 1048576) (λ f. IsEndInside f.0) (part_at 1048576 cell.row text) (λ row. column_after cell row.0 row.1) (part_of 1048576 cell.row text (omega arith) r)
    (λ row w. column_after_of cell row.0 row.1 k w)

column_end_of : (cell : CellReferenceIndex) (text : List ℕ) → is_column cell.column ≡ true → IfOk (column_end_at cell text) (λ f. IsEndInside f.0)
column_end_of cell text k =
    held (IsPart 16384) (λ f. IsEndInside f.0) (part_at 16384 cell.column text) (λ column. Ok (record { row = None; column = Some column.0 }, column.1)) (part_of 16384 cell.column text (omega arith) k)
    (λ column w. (tt, w))

end_of : (cell : CellReferenceIndex) (text : List ℕ) → is_row cell.row ≡ true → is_column cell.column ≡ true → IfOk (end_at cell text) (λ f. IsEndInside f.0)
end_of cell [] r k = tt
end_of cell (c ∷ cs) r k =
    elim (cases_Bool (is_r c)) [
      | inl t ↦ rw t (row_end_of cell cs r k)
      | inr f ↦ elim (cases_Bool (is_c c)) [
        | inl t ↦ rw (f, t) (column_end_of cell cs k)
        | inr g ↦ rw (f, g) tt
      ]
    ]

abbrev AreEndsInside : End × Option End → Type 0
AreEndsInside ends = IsEndInside ends.0 × IfSome ends.1 IsEndInside

ended_of : (first last : End) (text : List ℕ) → IsEndInside first → IsEndInside last → IfOk (ended (first, Some last) text) AreEndsInside
ended_of first last [] a b = (a, b)
ended_of first last (c ∷ cs) a b = tt

last_end_of : (cell : CellReferenceIndex) (first : End) (text : List ℕ) → is_row cell.row ≡ true → is_column cell.column ≡ true → IsEndInside first → IfOk (last_end cell first text) AreEndsInside
last_end_of cell first text r k a =
    held (λ f. IsEndInside f.0) AreEndsInside (end_at cell text) (λ last. ended (first, Some last.0) last.1) (end_of cell text r k) (λ last b. ended_of first last.0 last.1 a b)

ends_after_of : (cell : CellReferenceIndex) (first : End) (text : List ℕ) → is_row cell.row ≡ true → is_column cell.column ≡ true → IsEndInside first → IfOk (ends_after cell first text) AreEndsInside
ends_after_of cell first [] r k a = (a, tt)
ends_after_of cell first (c ∷ cs) r k a =
    elim (cases_Bool (eqb c 58)) [
      | inl t ↦ rw t (last_end_of cell first cs r k a)
      | inr f ↦ rw f tt
    ]

ends_of_inside : (cell : CellReferenceIndex) (text : List ℕ) → is_row cell.row ≡ true → is_column cell.column ≡ true → IfOk (ends_of cell text) AreEndsInside
ends_of_inside cell text r k =
    held (λ f. IsEndInside f.0) AreEndsInside (end_at cell text) (λ first. ends_after cell first.0 first.1) (end_of cell text r k) (λ first a. ends_after_of cell first.0 first.1 r k a)

-- Corners

unwrapped_of : (length : ℕ) (o : Option ℤ) (d : ℤ) → is_of length d ≡ true → IfSome o (λ z. is_of length z ≡ true) → is_of length (unwrap_or o d) ≡ true
unwrapped_of length None d h s = h
unwrapped_of length (Some z) d h s = s

first_of_end : (sheet : ℕ) (end : End) → IsEndInside end → is_cell_of_sheet (first_cell sheet end) ≡ true
first_of_end sheet end h =
    and_from (is_row (unwrap_or end.row (pos 1))) (is_column (unwrap_or end.column (pos 1))) (unwrapped_of 1048576 end.row (pos 1) refl h.0) (unwrapped_of 16384 end.column (pos 1) refl h.1)

last_of_end : (sheet : ℕ) (end : End) → IsEndInside end → is_cell_of_sheet (last_cell sheet end) ≡ true
last_of_end sheet end h =
    and_from (is_row (unwrap_or end.row (pos 1048576))) (is_column (unwrap_or end.column (pos 16384)))
    (unwrapped_of 1048576 end.row (pos 1048576) refl h.0) (unwrapped_of 16384 end.column (pos 16384) refl h.1)

either_of : (length : ℕ) (b : Bool) (x y : ℤ) → is_of length x ≡ true → is_of length y ≡ true → is_of length (cond b x y) ≡ true
either_of length true x y h k = h
either_of length false x y h k = k

first_inside : (a b : CellReferenceIndex) → is_cell_of_sheet a ≡ true → is_cell_of_sheet b ≡ true → is_cell_of_sheet (first_corner a b) ≡ true
first_inside a b h k =
    let p = and_parts (is_row a.row) (is_column a.column) h in
    let q = and_parts (is_row b.row) (is_column b.column) k in
    and_from (is_row (int_min a.row b.row)) (is_column (int_min a.column b.column))
    (either_of 1048576 (int_lt b.row a.row) b.row a.row q.0 p.0) (either_of 16384 (int_lt b.column a.column) b.column a.column q.1 p.1)

last_inside : (a b : CellReferenceIndex) → is_cell_of_sheet a ≡ true → is_cell_of_sheet b ≡ true → is_cell_of_sheet (last_corner a b) ≡ true
last_inside a b h k =
    let p = and_parts (is_row a.row) (is_column a.column) h in
    let q = and_parts (is_row b.row) (is_column b.column) k in
    and_from (is_row (int_max a.row b.row)) (is_column (int_max a.column b.column))
    (either_of 1048576 (int_lt b.row a.row) a.row b.row p.0 q.0) (either_of 16384 (int_lt b.column a.column) a.column b.column p.1 q.1)

unwrapped_le : (o : Option ℤ) (low high : ℤ) → low ≤ℤ high → unwrap_or o low ≤ℤ unwrap_or o high
unwrapped_le None low high h = h
unwrapped_le (Some z) low high h = omega (arith, ints)

min_le_max : (a b x y : ℤ) → a ≤ℤ x → int_min a b ≤ℤ int_max x y
min_le_max a b x y h = omega (arith, ints, clamps)

-- what is referred to lies in the sheet, its corners in order
abbrev pub LiesInOrder : ParsedReference → Type 0
LiesInOrder found = LiesInSheet found × HasCornersInOrder found

area_inside : (sheet : ℕ) (a b : End) → IsEndInside a → IsEndInside b → LiesInOrder (area_of sheet a b)
area_inside sheet a b h k = (
  (
    first_inside (first_cell sheet a) (first_cell sheet b) (first_of_end sheet a h) (first_of_end sheet b k),
    last_inside (last_cell sheet a) (last_cell sheet b) (last_of_end sheet a h) (last_of_end sheet b k),
    refl,
  ),
  (
    min_le_max _ _ _ _ (unwrapped_le a.row (pos 1) (pos 1048576) (omega (arith, ints))),
    min_le_max _ _ _ _ (unwrapped_le a.column (pos 1) (pos 16384) (omega (arith, ints))),
  ),
)

referred_inside : (ends : End × Option End) (sheet : ℕ) → AreEndsInside ends → IfOk (referred ends sheet) LiesInOrder
referred_inside (end, None) sheet h =
    elim (cases_Bool (is_some end.row && is_some end.column)) [
      | inl t ↦ rw t (first_of_end sheet end h.0, tt)
      | inr f ↦ rw f (area_inside sheet end end h.0 h.0)
    ]
referred_inside (first, Some last) sheet h =
    elim (cases_Bool (have_one_kind first last)) [
      | inl t ↦ rw t (area_inside sheet first last h.0 h.1)
      | inr f ↦ rw f tt
    ]

-- What a text refers to relative to a cell of the sheet lies in the sheet.
pub refers_inside : (cell : CellReferenceIndex) (text : List ℕ) (sheet : ℕ) → is_row cell.row ≡ true → is_column cell.column ≡ true → IfOk (refers cell text sheet) LiesInOrder
refers_inside cell text sheet r k =
    held AreEndsInside LiesInOrder (ends_of cell text) (λ ends. referred ends sheet) (ends_of_inside cell text r k) (λ ends h. referred_inside ends sheet h)

-- either of the two
pub only_inside : (r : Result ParsedReference ReferenceError) → IfOk r LiesInOrder → IfOk r LiesInSheet
only_inside (Ok found) h = h.0
only_inside (Err e) h = tt

pub only_order : (r : Result ParsedReference ReferenceError) → IfOk r LiesInOrder → IfOk r HasCornersInOrder
only_order (Ok found) h = h.1
only_order (Err e) h = tt
