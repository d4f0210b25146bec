-- References in the A1 form: the longest at the front of a text, and what is written read again.
use Rattle.std.proofs.Common.{◌≡◌, ℕ, ℤ, List, [], ◌++◌, Bool, true, false, ◌&&◌, chars, IsUtf8, string_bytes, String, option_map, if◌then◌else◌, Option, Some, None, refl, sym, ◌∙◌, ap, ap₂, subst, inl, inr}
use Rattle.std.specs.Option.{IfSome}
use Rattle.std.proofs.lemmas.Bool.{and_parts, and_from, cases_Bool, both_ways}
use Rattle.ic_laws.specs.Name.{is_sheet_name}
use Rattle.ic_laws.specs.Position.{is_row, is_column, is_inside}
use Rattle.ic_laws.specs.declared.reference.RefToken.{RefToken}
use Rattle.ic_refs.specs.A1.{SpellsPlace, SpellsA1, is_spellable, place_text, a1_text, a1_place_at, a1_at}
use Rattle.ic_laws.specs.Scan.{IsEnd}
use Rattle.ic_refs.specs.Longest.{FindsLongest, FindsLongestAt, read_at}
use Rattle.ic_laws.specs.SheetText.{sheet_text}
use Rattle.ic_refs.specs.Sheet.{SpellsReference, reference_at}
use Rattle.ic_refs.proofs.A1PlaceLemmas.{finds_longest_place}
use Rattle.ic_refs.proofs.MarkLemmas.{end_of_place, place_is_text, place_no_bang, place_no_sheet}
use Rattle.ic_refs.proofs.OffsetLemmas.{finds_at}
use Rattle.ic_refs.proofs.ReferenceLemmas.{finds_reference, reference_again}
use Rattle.ic_refs.proofs.A1SpellLemmas.{place_text-again, place_text-spells}

-- the longest reference at the front, in any cell
pub finds_a1_reference : (row column : ℤ) (text : List ℕ) → FindsLongest (SpellsReference (SpellsPlace row column)) text (reference_at (a1_place_at row column) text)
finds_a1_reference row column text =
    finds_reference (a1_place_at row column) (SpellsPlace row column) (finds_longest_place row column) (place_no_bang row column) text

-- and in a cell of the sheet
in_sheet : (row column : ℤ) (text : List ℕ) (found : Option (RefToken × List ℕ)) → is_row row ≡ true → is_column column ≡ true
    → FindsLongest (SpellsReference (SpellsPlace row column)) text found → FindsLongest (SpellsA1 row column) text found
in_sheet row column text None r c f = λ front rest v whole s. f front rest v whole s.reference
in_sheet row column text (Some found) r c f = record {
  front = f.front;
  whole = f.whole;
  spelled = record { in_row = r; in_column = c; reference = f.spelled };
  longest = λ other after v whole s. f.longest other after v whole s.reference;
}

pub finds_a1 : (row column : ℤ) (text : List ℕ) → FindsLongest (SpellsA1 row column) text (a1_at row column text)
finds_a1 row column text =
    elim (cases_Bool (is_row row && is_column column)) [
      | inl p ↦ let parts = and_parts (is_row row) (is_column column) p in
          rw p (in_sheet row column text (reference_at (a1_place_at row column) text) parts.0 parts.1 (finds_a1_reference row column text))
      | inr p ↦ rw p (λ front rest v whole s. absurd (both_ways (is_row row && is_column column) p (and_from (is_row row) (is_column column) s.in_row s.in_column)))
    ]

-- what is written before an end is read again
pub a1_again : (row column : ℤ) (token : RefToken) (rest : List ℕ) → is_spellable row column token ≡ true → IfSome token.sheet (λ name. is_sheet_name name ≡ true) → IsEnd rest
    → a1_at row column ((sheet_text token.sheet ++ place_text row column token.place) ++ rest) ≡ Some (token, rest)
a1_again row column token rest h valid end =
    let inside = and_parts (is_row row && is_column column) (is_inside token.place row column) h in
    let written = place_text row column token.place in
    let spelled = place_text-spells row column token.place inside.1 in
    rw inside.0 (reference_again (a1_place_at row column) written rest token valid
    (place_text-again row column token.place rest inside.1 (end_of_place rest end))
    (λ _. place_no_sheet written rest (place_is_text row column written token.place spelled) end))

-- what is written of a reference
pub written_token : (row column : ℤ) (token : RefToken) (sheet : Option (List ℕ)) (empty named text : List ℕ) → (is_row row && is_column column) ≡ true → is_inside token.place row column ≡ true
    → sheet ≡ token.sheet → empty ≡ [] → named ≡ empty ++ sheet_text sheet → text ≡ named ++ place_text row column token.place → Some text ≡ a1_text row column token
written_token row column token sheet empty named text s i same none n e =
    rw (s, i) (ap Some (e ∙ ap (λ t. t ++ place_text row column token.place) (n ∙ ap₂ (λ t s. t ++ sheet_text s) none same)))

-- so is a text that is what is spelled
pub again_text : (row column : ℤ) (token : RefToken) (b : Bool) (text : List ℕ) → is_spellable row column token ≡ b
    → Some text ≡ (if b then Some (sheet_text token.sheet ++ place_text row column token.place) else None) → IfSome token.sheet (λ name. is_sheet_name name ≡ true)
    → (rest : List ℕ) → IsEnd rest → a1_at row column (text ++ rest) ≡ Some (token, rest)
again_text row column token true text s e valid rest end =
    let same : text ≡ sheet_text token.sheet ++ place_text row column token.place = cc in
    ap (λ t. a1_at row column (t ++ rest)) same ∙ a1_again row column token rest s valid end
again_text row column token false text s e valid rest end = absurd (cc)

spelled_again : {Z : Type 0} (row column : ℤ) (token : RefToken) (text : Option (String Z)) → option_map (λ t. chars (string_bytes t)) text ≡ a1_text row column token
    → IfSome token.sheet (λ name. is_sheet_name name ≡ true) → IfSome text (λ t. (rest : List ℕ) → IsEnd rest → a1_at row column (chars (string_bytes t) ++ rest) ≡ Some (token, rest))
spelled_again {Z} row column token None e valid = tt
spelled_again {Z} row column token (Some t) e valid = λ rest end. again_text row column token (is_spellable row column token) (chars (string_bytes t)) refl e valid rest end

-- what was written in a cell whose row and column were handed on is read again there
pub spelled_string : {Z : Type 0} (row column r c : ℤ) (token : RefToken) (text : Option (String Z)) → r ≡ row → c ≡ column → option_map (λ t. chars (string_bytes t)) text ≡ a1_text r c token
    → IfSome token.sheet (λ name. is_sheet_name name ≡ true) → IfSome text (λ t. (rest : List ℕ) → IsEnd rest → a1_at row column (chars (string_bytes t) ++ rest) ≡ Some (token, rest))
spelled_string {Z} row column r c token text p q e valid =
    spelled_again row column token text (e ∙ ap (λ x. a1_text x c token) p ∙ ap (λ x. a1_text row x token) q) valid

pub longest_at : (row column r c : ℤ) (text : List ℕ) (at : ℕ) (found : Option (RefToken × ℕ)) → r ≡ row → c ≡ column → IsUtf8 text → found ≡ read_at (a1_at r c) text at
    → FindsLongestAt (SpellsA1 row column) text at found
longest_at row column r c text at found p q u e =
    subst (FindsLongestAt (SpellsA1 row column) text at) (sym (e ∙ ap (λ x. read_at (a1_at x c) text at) p ∙ ap (λ x. read_at (a1_at row x) text at) q))
    (finds_at (SpellsA1 row column) (a1_at row column) (finds_a1 row column) text at u)
