-- What a text in the R1C1 form refers to: what is answered is spelled so, and what is spelled is answered.
use Rattle.std.proofs.Common.{◌≡◌, ◌⊎◌, ◌≤ℤ◌, ℕ, ℤ, pos, List, [], ◌∷◌, ◌++◌, Bool, true, false, not, ◌&&◌, Option, Some, None, Result, Ok, Err, is_some, unwrap_or, refl, sym, subst, ◌∙◌, ap, inl, inr, arith, append_assoc, eqb}
use Rattle.std.specs.Int.{int_min, int_max}
use Rattle.std.specs.Prelude.{int_le, int_lt}
use Rattle.std.specs.List.{list_all, list_any, before_first, after_first}
use Rattle.std.proofs.lemmas.Bool.{and_from, and_parts, cases_Bool, eqb-true, not-false, or_parts, true≢false}
use Rattle.std.proofs.lemmas.Int.{ints, clamps}
use Rattle.ic_laws.specs.Name.{in_quotes}
use Rattle.ic_laws.specs.Position.{row_count, column_count, is_row, is_column}
use Rattle.ic_laws.specs.Scan.{first_is, past_run, run_of}
use Rattle.ic_laws.proofs.RunLemmas.{run_and_rest}
use Rattle.ic_refs.specs.declared.error.ReferenceError.{ReferenceError}
use Rattle.ic_refs.specs.declared.error.ReferenceError.TheVariants as errors
use Rattle.ic_refs.specs.declared.r1c1_ends.End.{End}
use Rattle.ic_refs.specs.declared.reference.CellReferenceIndex.{CellReferenceIndex}
use Rattle.ic_refs.specs.declared.reference.ParsedReference.{ParsedReference}
use Rattle.ic_refs.specs.declared.reference.ParsedReference.TheVariants as parsed
use Rattle.ic_refs.specs.Formula.{IsSheetOf, UnlessMemory}
use Rattle.ic_refs.specs.R1C1.{are_alike, first_cell, last_cell, first_corner, last_corner, area_of, have_one_kind, referred, refers, ends_of, split_sheet, quoted_name, unquoted_name, is_no_bang, ParsesR1C1}
use Rattle.ic_refs.specs.R1C1Form.{SpellsEndOf, HasUnknownSheet, IsAreaOf, IsOnSheet, RefersTo, Spans, SpellsEnds, SpellsR1C1, SplitsSheet, TellsR1C1}
use Rattle.ic_laws.specs.SheetText.{is_bang, is_quote, name_in_quotes, doubled}
use Rattle.ic_refs.proofs.R1C1EndLemmas.{AreEnds, IsInSheet, ends_sound, ends_complete, same_ok}
use Rattle.ic_refs.proofs.R1C1PartLemmas.{bound, bind}
use Rattle.ic_refs.proofs.R1C1SheetLemmas.{any_none, before_is, after_is, unquoted_some}
use Rattle.ic_laws.proofs.tokens.Characters.{past_run_all}
use Rattle.ic_laws.proofs.tokens.SheetTexts.{quoted_sound, quoted_complete}

-- Numbers of the sheet

int_le_of_lt : (a b : ℤ) → int_lt a b ≡ true → a ≤ℤ b
int_le_of_lt a b h = omega (arith, ints)

int_le_of_not_lt : (a b : ℤ) → int_lt a b ≡ false → b ≤ℤ a
int_le_of_not_lt a b h = omega (arith, ints)

int_le_true : (a b : ℤ) → int_le a b ≡ true → a ≤ℤ b
int_le_true a b h = omega (arith, ints)

in_sheet : (cell : CellReferenceIndex) → is_row cell.row ≡ true → is_column cell.column ≡ true → IsInSheet cell
in_sheet cell row column =
    let r = and_parts (int_le (pos 1) cell.row) (int_le cell.row (pos row_count)) row in
    let c = and_parts (int_le (pos 1) cell.column) (int_le cell.column (pos column_count)) column in
    record { row = (int_le_true _ _ r.0, int_le_true _ _ r.1); column = (int_le_true _ _ c.0, int_le_true _ _ c.1) }

-- an unquoted name by whether there is a `!`
unquoted_with : (text : List ℕ) (found : Option (List ℕ) × List ℕ) → list_any is_bang text ≡ true → unquoted_name text ≡ Ok found → (Some (before_first is_bang text), after_first is_bang text) ≡ found
unquoted_with text found t e = same_ok (Some (before_first is_bang text), after_first is_bang text) found (rw t at e)

unquoted_without : (text : List ℕ) (found : Option (List ℕ) × List ℕ) → list_any is_bang text ≡ false → unquoted_name text ≡ Ok found → (None, text) ≡ found
unquoted_without text found t e = same_ok (None, text) found (rw t at e)

-- Areas

ordered : (length : ℕ) (a b : ℤ) → Spans length (Some a) (Some b) (int_min a b) (int_max a b)
ordered length a b =
    elim (cases_Bool (int_lt b a)) [
      | inl t ↦ rw t (inr (int_le_of_lt b a t, refl, refl))
      | inr f ↦ rw f (inl (int_le_of_not_lt b a f, refl, refl))
    ]

span_sound : (length : ℕ) (a b : Option ℤ) → is_some a ≡ is_some b
    → Spans length a b (int_min (unwrap_or a (pos 1)) (unwrap_or b (pos 1))) (int_max (unwrap_or a (pos length)) (unwrap_or b (pos length)))
span_sound length (Some a) (Some b) h = ordered length a b
span_sound length None None h = (refl, omega (arith, ints, clamps))
span_sound length (Some a) None h = absurd (true≢false h)
span_sound length None (Some b) h = absurd (true≢false (sym h))

span_complete : (length : ℕ) (a b : Option ℤ) (low high : ℤ) → Spans length a b low high
    → (is_some a ≡ is_some b) × (int_min (unwrap_or a (pos 1)) (unwrap_or b (pos 1)) ≡ low) × (int_max (unwrap_or a (pos length)) (unwrap_or b (pos length)) ≡ high)
span_complete length (Some a) (Some b) low high (inl s) = (refl, omega (arith, ints, clamps, s.0, s.1), omega (arith, ints, clamps, s.0, s.2))
span_complete length (Some a) (Some b) low high (inr s) = (refl, omega (arith, ints, clamps, s.0, s.1), omega (arith, ints, clamps, s.0, s.2))
span_complete length None None low high s = (refl, sym s.0, omega (arith, ints, clamps, s.1))
span_complete length (Some a) None low high s = absurd s
span_complete length None (Some b) low high s = absurd s

alike_same : (p q : Bool) → are_alike p q ≡ true → p ≡ q
alike_same true q h = sym h
alike_same false true h = absurd (true≢false (sym h))
alike_same false false h = refl

same_alike : (p q : Bool) → p ≡ q → are_alike p q ≡ true
same_alike true q e = sym e
same_alike false true e = absurd (true≢false (sym e))
same_alike false false e = refl

area_sound : (sheet : ℕ) (a b : End) → is_some a.row ≡ is_some b.row → is_some a.column ≡ is_some b.column
    → IsAreaOf sheet a b (first_corner (first_cell sheet a) (first_cell sheet b)) (last_corner (last_cell sheet a) (last_cell sheet b))
area_sound sheet a b r c = record {
  rows = span_sound row_count a.row b.row r;
  columns = span_sound column_count a.column b.column c;
  first_sheet = refl;
  last_sheet = refl;
}

abbrev at_cell : ℕ → ℤ → ℤ → CellReferenceIndex
at_cell sheet row column = record { sheet = sheet; row = row; column = column }

same_cell : (s t : ℕ) (a b c d : ℤ) → s ≡ t → a ≡ b → c ≡ d → at_cell s a c ≡ at_cell t b d
same_cell s t a b c d e f g = ap (λ s. at_cell s a c) e ∙ ap (λ r. at_cell t r c) f ∙ ap (λ k. at_cell t b k) g

area_complete : (sheet : ℕ) (a b : End) (first last : CellReferenceIndex) → IsAreaOf sheet a b first last → (have_one_kind a b ≡ true) × (area_of sheet a b ≡ parsed.Range first last)
area_complete sheet a b first last h =
    let r = span_complete row_count a.row b.row first.row last.row h.rows in
    let c = span_complete column_count a.column b.column first.column last.column h.columns in
    let one : first_corner (first_cell sheet a) (first_cell sheet b) ≡ first = same_cell sheet first.sheet _ first.row _ first.column (sym h.first_sheet) r.1 c.1 in
    let two : last_corner (last_cell sheet a) (last_cell sheet b) ≡ last = same_cell sheet last.sheet _ last.row _ last.column (sym h.last_sheet) r.2 c.2 in (
      and_from (are_alike (is_some a.row) (is_some b.row)) (are_alike (is_some a.column) (is_some b.column)) (same_alike _ _ r.0) (same_alike _ _ c.0),
      ap (λ x. parsed.Range x (last_corner (last_cell sheet a) (last_cell sheet b))) one ∙ ap (parsed.Range first) two,
    )

-- What the ends refer to

cell_spelled : (cell : CellReferenceIndex) (text : List ℕ) (row column : Option ℤ) → (is_some row && is_some column) ≡ true → SpellsEndOf cell text row column
    → SpellsEndOf cell text (Some (unwrap_or row (pos 1))) (Some (unwrap_or column (pos 1)))
cell_spelled cell text (Some row) (Some column) h s = s
cell_spelled cell text (Some row) None h s = absurd (true≢false (sym h))
cell_spelled cell text None column h s = absurd (true≢false (sym h))

referred_sound : (cell : CellReferenceIndex) (text : List ℕ) (sheet : ℕ) (ends : End × Option End) (found : ParsedReference) → AreEnds cell text ends → referred ends sheet ≡ Ok found → RefersTo cell text sheet found
referred_sound cell text sheet (end, None) found s e =
    elim (cases_Bool (is_some end.row && is_some end.column)) [
      | inl t ↦ subst (RefersTo cell text sheet) (same_ok (parsed.CellReference (first_cell sheet end)) found (rw t at e)) (cell_spelled cell text end.row end.column t s, refl)
      | inr f ↦ subst (RefersTo cell text sheet) (same_ok (area_of sheet end end) found (rw f at e)) (end, end, inr (s, refl, f), area_sound sheet end end refl refl)
    ]
referred_sound cell text sheet (first, Some last) found s e =
    elim (cases_Bool (have_one_kind first last)) [
      | inl t ↦
          let p = and_parts (are_alike (is_some first.row) (is_some last.row)) (are_alike (is_some first.column) (is_some last.column)) t in
          subst (RefersTo cell text sheet) (same_ok (area_of sheet first last) found (rw t at e))
          (first, last, inl s, area_sound sheet first last (alike_same _ _ p.0) (alike_same _ _ p.1))
      | inr f ↦ let none = rw f at e in absurd (cc)
    ]

-- the ends of which something is referred to
EndsFor : CellReferenceIndex → List ℕ → ℕ → ParsedReference → Type 0
EndsFor cell text sheet found = (ends : End × Option End) × AreEnds cell text ends × (referred ends sheet ≡ Ok found)

ends_for : (cell : CellReferenceIndex) (text : List ℕ) (sheet : ℕ) (first last : CellReferenceIndex) (a b : End) → SpellsEnds cell text a b → IsAreaOf sheet a b first last → EndsFor cell text sheet (parsed.Range first last)
unfolding EndsFor
ends_for cell text sheet first last a b (inl s) h =
    let area = area_complete sheet a b first last h in ((a, Some b), s, (rw area.0 (ap Ok area.1)))
ends_for cell text sheet first last a b (inr s) h =
    let area = area_complete sheet a b first last h in
    ((a, None), s.0, (rw s.2 (ap (λ x. Ok (area_of sheet a x)) s.1 ∙ ap Ok area.1)))

referred_complete : (cell : CellReferenceIndex) (text : List ℕ) (sheet : ℕ) (found : ParsedReference) → RefersTo cell text sheet found → EndsFor cell text sheet found
unfolding EndsFor
referred_complete cell text sheet (parsed.CellReference target) s =
    ((record { row = Some target.row; column = Some target.column }, None), s.0, ap (λ n. Ok (parsed.CellReference (at_cell n target.row target.column))) (sym s.1))
referred_complete cell text sheet (parsed.Range first last) s = ends_for cell text sheet first last s.0 s.1 s.2 s.3

refers_sound : (cell : CellReferenceIndex) (text : List ℕ) (sheet : ℕ) (found : ParsedReference) → IsInSheet cell → refers cell text sheet ≡ Ok found → RefersTo cell text sheet found
refers_sound cell text sheet found i e =
    let one = bound (ends_of cell text) (λ ends. referred ends sheet) found e in
    referred_sound cell text sheet one.0 found (ends_sound cell text one.0 i one.1) one.2

refers_complete : (cell : CellReferenceIndex) (text : List ℕ) (sheet : ℕ) (found : ParsedReference) → RefersTo cell text sheet found → refers cell text sheet ≡ Ok found
unfolding EndsFor
refers_complete cell text sheet found s =
    let ends = referred_complete cell text sheet found s in
    bind (ends_of cell text) (λ ends. referred ends sheet) ends.0 (ends_complete cell text ends.0 ends.1) ∙ ends.2

-- the same on another sheet
moved : (cell : CellReferenceIndex) (text : List ℕ) (sheet other : ℕ) (found : ParsedReference) → RefersTo cell text sheet found → (it : ParsedReference) × RefersTo cell text other it
moved cell text sheet other (parsed.CellReference target) s = (parsed.CellReference (at_cell other target.row target.column), (s.0, refl))
moved cell text sheet other (parsed.Range first last) s = (
  parsed.Range (at_cell other first.row first.column) (at_cell other last.row last.column),
  (s.0, s.1, s.2, record { rows = s.3.rows; columns = s.3.columns; first_sheet = refl; last_sheet = refl }),
)

-- The sheet's name

quoted_parts : (o : Option (List ℕ × List ℕ)) (found : Option (List ℕ) × List ℕ) → quoted_name o ≡ Ok found → (n : List ℕ) × (o ≡ Some (n, 33 ∷ found.1)) × (found.0 ≡ Some n)
quoted_parts None found e = absurd (cc)
quoted_parts (Some (n, [])) found e = absurd (cc)
quoted_parts (Some (n, c ∷ r)) found e =
    elim (cases_Bool (eqb c 33)) [
      | inr f ↦ let none = rw f at e in absurd (cc)
      | inl t ↦
          let same : (Some n, r) ≡ found = same_ok (Some n, r) found (rw t at e) in
          (n, ap (λ x. Some (n, x ∷ r)) (eqb-true c 33 t) ∙ ap (λ (f : Option (List ℕ) × List ℕ). Some (n, 33 ∷ f.1)) same, sym (ap (λ (f : Option (List ℕ) × List ℕ). f.0) same))
    ]

run_no_bang : (text : List ℕ) → list_any is_bang (run_of is_no_bang text) ≡ false
run_no_bang [] = refl
run_no_bang (c ∷ cs) =
    elim (cases_Bool (is_bang c)) [
      | inl t ↦ rw t refl
      | inr f ↦ rw f (rw f (run_no_bang cs))
    ]

past_is : (p : ℕ → Bool) (text after : List ℕ) (c : ℕ) → past_run p text ≡ c ∷ after → p c ≡ false
past_is p [] after c e = absurd (cc)
past_is p (b ∷ cs) after c e =
    elim (cases_Bool (p b)) [
      | inl t ↦ past_is p cs after c (rw t at e)
      | inr f ↦ let k : b ∷ cs ≡ c ∷ after = rw f at e in let same : b ≡ c = cc in sym (ap p same) ∙ f
    ]

no_bangs : (text : List ℕ) → list_any is_bang text ≡ false → list_all is_no_bang text ≡ true
no_bangs [] h = refl
no_bangs (c ∷ cs) h =
    let p = or_parts (is_bang c) (list_any is_bang cs) h in and_from (is_no_bang c) (list_all is_no_bang cs) (ap not p.0) (no_bangs cs p.1)

-- a text with a `!` is what stands before the first, the `!` and the rest
bang_parts : (text rest : List ℕ) → past_run is_no_bang text ≡ rest → list_any is_bang text ≡ true → text ≡ before_first is_bang text ++ 33 ∷ after_first is_bang text
bang_parts text [] e h = absurd (true≢false (sym h ∙ any_none text e))
bang_parts text (c ∷ after) e h =
    let bang : c ≡ 33 = eqb-true c 33 (not-false (is_bang c) (past_is is_no_bang text after c e)) in
    run_and_rest is_no_bang text ∙ ap (λ r. run_of is_no_bang text ++ r) (e ∙ ap (λ x. x ∷ after) bang)
    ∙ ap (λ f. f ++ 33 ∷ after) (sym (before_is text)) ∙ ap (λ r. before_first is_bang text ++ 33 ∷ r) (sym (after_is text after c e))

split_sound : (text : List ℕ) (found : Option (List ℕ) × List ℕ) → split_sheet text ≡ Ok found → SplitsSheet text found.0 found.1
split_sound [] found e = subst (λ (f : Option (List ℕ) × List ℕ). SplitsSheet [] f.0 f.1) (same_ok (None, []) found e) (refl, refl, refl)
split_sound (c ∷ cs) found e =
    let Wanted : Option (List ℕ) × List ℕ → Type 0 = λ f. SplitsSheet (c ∷ cs) f.0 f.1 in
    elim (cases_Bool (eqb c 39)) [
      | inl t ↦
          let q = quoted_parts (name_in_quotes cs) found (rw t at e) in
          let spelled : c ∷ cs ≡ in_quotes q.0 ++ 33 ∷ found.1 =
          ap (λ x. x ∷ cs) (eqb-true c 39 t) ∙ ap (λ t. 39 ∷ t) (quoted_sound cs q.0 (33 ∷ found.1) q.1) ∙ ap (λ t. 39 ∷ t) (sym (append_assoc (doubled q.0) (39 ∷ []) (33 ∷ found.1))) in
          subst (λ n. SplitsSheet (c ∷ cs) n found.1) (sym q.2) (inl spelled)
      | inr f ↦ elim (cases_Bool (list_any is_bang (c ∷ cs))) [
        | inr g ↦ subst Wanted (unquoted_without (c ∷ cs) found g (rw f at e)) (refl, f, g)
        | inl t ↦
            subst Wanted (unquoted_with (c ∷ cs) found t (rw f at e))
            (inr (bang_parts (c ∷ cs) (past_run is_no_bang (c ∷ cs)) refl t, f, ap (list_any is_bang) (before_is (c ∷ cs)) ∙ run_no_bang (c ∷ cs)))
      ]
    ]

split_unquoted : (text : List ℕ) → first_is is_quote text ≡ false → split_sheet text ≡ unquoted_name text
split_unquoted [] f = refl
split_unquoted (c ∷ cs) f = rw f refl

split_complete : (text : List ℕ) (name : Option (List ℕ)) (rest : List ℕ) → SplitsSheet text name rest → split_sheet text ≡ Ok (name, rest)
split_complete text None rest s =
    split_unquoted text s.1 ∙ (let step : unquoted_name text ≡ Ok (None, text) = rw s.2 refl in step) ∙ ap (λ r. Ok (None, r)) s.0
split_complete text (Some name) rest (inl s) =
    ap split_sheet s
    ∙ ap (λ t. quoted_name (name_in_quotes t)) (append_assoc (doubled name) (39 ∷ []) (33 ∷ rest))
    ∙ ap quoted_name (quoted_complete name (33 ∷ rest) refl)
split_complete text (Some name) rest (inr s) =
    let left : 33 ∷ rest ≡ past_run is_no_bang text = sym (ap (past_run is_no_bang) s.0 ∙ past_run_all is_no_bang name (33 ∷ rest) (no_bangs name s.2) refl) in
    split_unquoted text s.1 ∙ unquoted_some text (33 ∷ rest) name rest 33 left refl s.0

-- The whole

unlike : {A : Type 0} (x : A) (e : ReferenceError) (r : Result A ReferenceError) → r ≡ Ok x → r ≡ Err e → ⊥
unlike x e r p q = cc

on_sheet_of : (Answers : List ℕ → Option ℕ → Type 0) (cell : CellReferenceIndex) (name : Option (List ℕ)) (sheet : ℕ) → IsSheetOf Answers (Some cell.sheet) name (Ok sheet) → IsOnSheet Answers cell name sheet
on_sheet_of Answers cell None sheet h = same_ok sheet cell.sheet h
on_sheet_of Answers cell (Some name) sheet (Some n, a, e) = subst (λ n. Answers name (Some n)) (sym (same_ok sheet n e)) a
on_sheet_of Answers cell (Some name) sheet (None, a, e) = absurd (cc)

unknown_of : (Answers : List ℕ → Option ℕ → Type 0) (cell : CellReferenceIndex) (text : List ℕ) (name : Option (List ℕ)) (rest : List ℕ) (e : ReferenceError) → SplitsSheet text name rest
    → IsSheetOf Answers (Some cell.sheet) name (Err e) → HasUnknownSheet Answers text e
unknown_of Answers cell text None rest e s h = absurd (cc)
unknown_of Answers cell text (Some name) rest e s (Some n, a, h) = absurd (cc)
unknown_of Answers cell text (Some name) rest e s (None, a, h) = (name, rest, s, a, cc)

tells_found : (Answers : List ℕ → Option ℕ → Type 0) (cell : CellReferenceIndex) (text : List ℕ) (split : Result (Option (List ℕ) × List ℕ) ReferenceError) (found : ParsedReference) → IsInSheet cell → split_sheet text ≡ split
    → ParsesR1C1 Answers cell split (Ok found) → TellsR1C1 Answers cell text (Ok found)
tells_found Answers cell text (Err e) found i k h = absurd (cc)
tells_found Answers cell text (Ok split) found i k (Err e, is, h) = absurd (cc)
tells_found Answers cell text (Ok split) found i k (Ok sheet, is, h) = (
  split.0,
  sheet,
  on_sheet_of Answers cell split.0 sheet is,
  (split.1, split_sound text split k, refers_sound cell split.1 sheet found i (sym h)),
  λ name other s.
      let parts = same_ok (name, s.0) split (sym (split_complete text name s.0 s.1) ∙ k) in
      let rest : s.0 ≡ split.1 = ap (λ (f : Option (List ℕ) × List ℕ). f.1) parts in (
        ap (λ (f : Option (List ℕ) × List ℕ). f.0) parts,
        same_ok other found (sym (refers_complete cell s.0 sheet other s.2) ∙ ap (λ t. refers cell t sheet) rest ∙ sym h),
      ),
)

tells_error : (Answers : List ℕ → Option ℕ → Type 0) (cell : CellReferenceIndex) (text : List ℕ) (split : Result (Option (List ℕ) × List ℕ) ReferenceError) (e : ReferenceError) → IsInSheet cell → split_sheet text ≡ split
    → ParsesR1C1 Answers cell split (Err e) → HasUnknownSheet Answers text e ⊎ ((name : Option (List ℕ)) (sheet : ℕ) (found : ParsedReference) → SpellsR1C1 cell text name sheet found → ⊥)
tells_error Answers cell text (Err x) e i k h = inr (λ name sheet found s. unlike (name, s.0) x (split_sheet text) (split_complete text name s.0 s.1) k)
tells_error Answers cell text (Ok split) e i k (Err x, is, h) =
    inl (unknown_of Answers cell text split.0 split.1 e (split_sound text split k) (subst (λ x. IsSheetOf Answers (Some cell.sheet) split.0 (Err x)) (let same : x ≡ e = cc in same) is))
tells_error Answers cell text (Ok split) e i k (Ok own, is, h) =
    inr (λ name sheet found s.
    let parts = same_ok (name, s.0) split (sym (split_complete text name s.0 s.1) ∙ k) in
    let rest : s.0 ≡ split.1 = ap (λ (f : Option (List ℕ) × List ℕ). f.1) parts in
    let here = moved cell s.0 sheet own found s.2 in
    unlike here.0 e (refers cell split.1 own) (ap (λ t. refers cell t own) (sym rest) ∙ refers_complete cell s.0 own here.0 here.1) (sym h))

pub tells : (Answers : List ℕ → Option ℕ → Type 0) (cell : CellReferenceIndex) (text : List ℕ) (r : Result ParsedReference ReferenceError) → is_row cell.row ≡ true → is_column cell.column ≡ true
    → UnlessMemory r (ParsesR1C1 Answers cell (split_sheet text)) → TellsR1C1 Answers cell text r
tells Answers cell text (Ok found) row column h = tells_found Answers cell text (split_sheet text) found (in_sheet cell row column) refl h
tells Answers cell text (Err errors.OutOfMemory) row column h = tt
tells Answers cell text (Err e) row column h = tells_error Answers cell text (split_sheet text) e (in_sheet cell row column) refl h
