-- References in the stored form.
use Rattle.std.proofs.Common.{◌≡◌, ℕ, List, [], ◌∷◌, ◌++◌, true, false, Option, Some, None, IfSome, IsUtf8, refl, sym, subst, ap, inl, inr, eqb}
use Rattle.std.specs.List.{list_any}
use Rattle.std.proofs.lemmas.Bool.{and_parts, cases_Bool, or_parts}
use Rattle.ic_laws.specs.Name.{is_sheet_name}
use Rattle.ic_laws.specs.Scan.{is_plain, first_is, past_run, IsEnd}
use Rattle.ic_laws.specs.declared.reference.Place.{Place}
use Rattle.ic_laws.specs.declared.reference.RefToken.{RefToken}
use Rattle.ic_refs.specs.Longest.{FindsLongest, FindsLongestAt, read_at}
use Rattle.ic_laws.specs.SheetText.{sheet_at}
use Rattle.ic_refs.specs.Sheet.{reference_at}
use Rattle.ic_laws.specs.Position.{is_place_within}
use Rattle.ic_laws.specs.Tree.{is_written_sheet}
use Rattle.ic_refs.specs.Stored.{is_stored_spellable, SpellsPlace, SpellsStored, place_text, stored_text, stored_place_at}
use Rattle.ic_refs.proofs.OffsetLemmas.{finds_at}
use Rattle.ic_refs.proofs.ReferenceLemmas.{finds_reference, reference_again}
use Rattle.ic_laws.proofs.tokens.SheetTexts.{no_sheet_without_bang, sheet_named}
use Rattle.ic_refs.proofs.StoredReachLemmas.{finds_longest_place}
use Rattle.ic_refs.proofs.StoredTextLemmas.{place_again, place_spelled, place_begins, no_bang_in_place, end_bang, end_plain}

-- the reader finds the longest reference at the front
pub finds_stored : (text : List ℕ) → FindsLongest SpellsStored text (reference_at stored_place_at text)
finds_stored text = finds_reference stored_place_at SpellsPlace finds_longest_place no_bang_in_place text

-- and at a byte
pub finds_stored_at : (text : List ℕ) (at : ℕ) (found : Option (RefToken × ℕ)) → IsUtf8 text → found ≡ read_at (reference_at stored_place_at) text at → FindsLongestAt SpellsStored text at found
finds_stored_at text at found u e = subst (λ f. FindsLongestAt SpellsStored text at f) (sym e) (finds_at SpellsStored (reference_at stored_place_at) finds_stored text at u)

-- no `!` follows the plain characters at the front of a place before an end
no_bang_after : (text rest : List ℕ) → list_any (λ c. eqb c 33) text ≡ false → first_is is_plain rest ≡ false → first_is (λ c. eqb c 33) rest ≡ false → first_is (λ c. eqb c 33) (past_run is_plain (text ++ rest)) ≡ false
no_bang_after [] [] n p b = refl
no_bang_after [] (c ∷ cs) n p b = rw p b
no_bang_after (c ∷ cs) rest n p b =
    let q = or_parts (eqb c 33) (list_any (λ c. eqb c 33) cs) n in
    elim (cases_Bool (is_plain c)) [
      | inl t ↦ rw t (no_bang_after cs rest q.1 p b)
      | inr f ↦ rw f q.0
    ]

-- a place alone isn't read as a sheet's name
pub no_sheet_at_place : (text : List ℕ) (place : Place) (rest : List ℕ) → SpellsPlace text place → IsEnd rest → sheet_at (text ++ rest) ≡ None
no_sheet_at_place text place rest s e =
    let b = place_begins text place s in
    no_sheet_without_bang (text ++ rest) (ap (λ t. first_is (λ c. eqb c 39) (t ++ rest)) b.1)
    (no_bang_after text rest (no_bang_in_place text place s) (end_plain rest e) (end_bang rest e))

no_sheet_in_place : (place : Place) (rest : List ℕ) → is_place_within place ≡ true → IsEnd rest → sheet_at (place_text place ++ rest) ≡ None
no_sheet_in_place place rest w e = no_sheet_at_place (place_text place) place rest (place_spelled place w) e

-- What is spelled is read back, wherever it ends.
pub stored_again : (token : RefToken) (rest : List ℕ) → is_place_within token.place ≡ true → IfSome token.sheet (λ name. is_sheet_name name ≡ true) → IsEnd rest → reference_at stored_place_at (stored_text token ++ rest) ≡ Some (token, rest)
stored_again token rest w s e =
    reference_again stored_place_at (place_text token.place) rest token s (place_again token.place rest w e) (λ _. no_sheet_in_place token.place rest w e)

pub stored_spelled : (token : RefToken) (rest : List ℕ) → is_stored_spellable token ≡ true → IsEnd rest → reference_at stored_place_at (stored_text token ++ rest) ≡ Some (token, rest)
stored_spelled token rest h e =
    let p = and_parts (is_place_within token.place) (is_written_sheet token.sheet) h in stored_again token rest p.0 (sheet_named token.sheet p.1) e
