-- The places of the stored form: where they stop, and which of them are word characters alone.
use Rattle.std.proofs.Common.{◌≡◌, ℕ, List, [], ◌∷◌, ◌++◌, Bool, true, false, ◌&&◌, ◌||◌, ◌==◌, length, append_assoc, refl, sym, subst, ◌∙◌, ap, inl, inr, arith, eqb, suc}
use Rattle.std.specs.List.{list_all}
use Rattle.std.specs.Str.{all_ascii_digits}
use Rattle.std.proofs.lemmas.Bool.{and_parts, and_left, and_from, or_left, or_right, both_ways}
use Rattle.std.proofs.lemmas.Bool.Decides.{nat_tests}
use Rattle.ucd_derived.proofs.Computing.{ucd_derived}
use Rattle.ic_laws.specs.Scan.{is_digit, is_letter, is_plain, is_word_character, joins, past_run}
use Rattle.ic_laws.specs.Name.{has_row_column_form, is_c, is_lone, is_numbered, is_r}
use Rattle.ic_laws.specs.declared.reference.Position.{Position}
use Rattle.ic_laws.specs.declared.reference.Position.TheVariants as at
use Rattle.ic_laws.specs.declared.reference.RefPart.{RefPart}
use Rattle.ic_laws.specs.declared.reference.Place.{Place}
use Rattle.ic_laws.specs.declared.reference.Place.TheVariants as places
use Rattle.ic_refs.specs.Stored.{SpellsPosition, SpellsCell, SpellsPlace}
use Rattle.ic_tree.specs.laws.EndLaws.{Stops, past_none, past_one}

digit_word : (c : ℕ) → is_digit c ≡ true → is_word_character c ≡ true
digit_word c h = or_left (is_plain c) (eqb c 92) (or_left (is_letter c || is_digit c || eqb c 95) (eqb c 46) (or_left (is_letter c || is_digit c) (eqb c 95) (or_right (is_letter c) (is_digit c) h)))

pub past_digits_word : (ds rest : List ℕ) → all_ascii_digits ds ≡ true → past_run is_word_character (ds ++ rest) ≡ past_run is_word_character rest
past_digits_word [] rest h = refl
past_digits_word (d ∷ ds) rest h =
    let p = and_parts (is_digit d) (all_ascii_digits ds) h in past_one is_word_character d (ds ++ rest) (digit_word d p.0) ∙ past_digits_word ds rest p.1

row_word : is_word_character 82 ≡ true
unfolding ucd_derived
row_word = refl

column_word : is_word_character 67 ≡ true
unfolding ucd_derived
column_word = refl

opening_no_word : is_word_character 91 ≡ false
unfolding ucd_derived
opening_no_word = refl

colon_no_word : is_word_character 58 ≡ false
unfolding ucd_derived
colon_no_word = refl

opening_joins : joins 91 ≡ true
unfolding ucd_derived
opening_joins = refl

colon_joins : joins 58 ≡ true
unfolding ucd_derived
colon_joins = refl

-- a row or a column that ends with a run of word characters goes on with what stands after it; one with a distance
-- stops at its bracket
position_stops : (letter : ℕ) (text rest : List ℕ) (position : Position) → is_word_character letter ≡ true → SpellsPosition letter text position → Stops (past_run is_word_character rest) → Stops (past_run is_word_character (text ++ rest))
position_stops letter text rest (at.Abs n) w s next =
    subst Stops (sym (ap (λ t. past_run is_word_character (t ++ rest)) s.2 ∙ past_one is_word_character letter (s.0 ++ rest) w ∙ past_digits_word s.0 rest s.3.0)) next
position_stops letter text rest (at.Rel k) w s next =
    let tail = s.0 ++ 93 ∷ [] in
    subst Stops (sym (ap (λ t. past_run is_word_character (t ++ rest)) s.1 ∙ past_one is_word_character letter (91 ∷ tail ++ rest) w ∙ past_none is_word_character 91 (tail ++ rest) opening_no_word)) (inr opening_joins)

cell_stops : (text rest : List ℕ) (part : RefPart) → SpellsCell text part → Stops (past_run is_word_character rest) → Stops (past_run is_word_character (text ++ rest))
cell_stops text rest part s next =
    subst (λ t. Stops (past_run is_word_character t)) (sym (ap (λ t. t ++ rest) s.whole ∙ append_assoc s.row_text s.column_text rest))
    (position_stops 82 s.row_text (s.column_text ++ rest) part.row row_word s.row (position_stops 67 s.column_text rest part.column column_word s.column next))

append_nil : (xs : List ℕ) → xs ++ [] ≡ xs
append_nil [] = refl
append_nil (x ∷ xs) = ap (λ t. x ∷ t) (append_nil xs)

pub place_stops : (text : List ℕ) (place : Place) → SpellsPlace text place → Stops (past_run is_word_character text)
place_stops text (places.Cell part) s = subst (λ t. Stops (past_run is_word_character t)) (append_nil text) (cell_stops text [] part s (inl refl))
place_stops text (places.Range first last) s =
    subst (λ t. Stops (past_run is_word_character t)) (sym s.2)
    (cell_stops s.0 (58 ∷ s.1) first s.3 (subst Stops (sym (past_none is_word_character 58 s.1 colon_no_word)) (inr colon_joins)))

-- a place of word characters alone has the form of row and column

all_later : (p : ℕ → Bool) (a b : List ℕ) → list_all p (a ++ b) ≡ true → (list_all p a ≡ true) × (list_all p b ≡ true)
all_later p [] b h = (refl, h)
all_later p (x ∷ a) b h =
    let q = and_parts (p x) (list_all p (a ++ b)) h in let r = all_later p a b q.1 in (and_from (p x) (list_all p a) q.0 r.0, r.1)

column_no_digit : is_digit 67 ≡ false
column_no_digit = refl

past_digits_digit : (ds rest : List ℕ) → all_ascii_digits ds ≡ true → past_run is_digit (ds ++ rest) ≡ past_run is_digit rest
past_digits_digit [] rest h = refl
past_digits_digit (d ∷ ds) rest h =
    let p = and_parts (is_digit d) (all_ascii_digits ds) h in past_one is_digit d (ds ++ rest) p.0 ∙ past_digits_digit ds rest p.1

form_of_digits : (ds es : List ℕ) → all_ascii_digits ds ≡ true → all_ascii_digits es ≡ true → has_row_column_form (82 ∷ ds ++ 67 ∷ es) ≡ true
form_of_digits ds es d e =
    or_right (is_numbered is_r (82 ∷ ds ++ 67 ∷ es) || is_numbered is_c (82 ∷ ds ++ 67 ∷ es)) (is_r 82 && is_numbered is_c (past_run is_digit (ds ++ 67 ∷ es)))
    (and_from (is_r 82) (is_numbered is_c (past_run is_digit (ds ++ 67 ∷ es))) refl
    (ap (is_numbered is_c) (past_digits_digit ds (67 ∷ es) d ∙ past_none is_digit 67 es column_no_digit) ∙ and_from (is_c 67) (all_ascii_digits es) refl e))

not_lone : (c d : ℕ) (ds : List ℕ) → is_lone (c ∷ d ∷ ds) ≡ false
not_lone c d ds = and_left (length (c ∷ d ∷ ds) == 1) (list_all (λ c. is_r c || is_c c) (c ∷ d ∷ ds)) (two (length ds))
  where
    two : (n : ℕ) → (suc (suc n) == 1) ≡ false
    two n = grind (arith, nat_tests)

-- word characters alone: digits after the letter
bare_position : (letter : ℕ) (text : List ℕ) (position : Position) → SpellsPosition letter text position → list_all is_word_character text ≡ true → (ds : List ℕ) × (text ≡ letter ∷ ds) × (all_ascii_digits ds ≡ true)
bare_position letter text (at.Abs n) s w = (s.0, s.2, s.3.0)
bare_position letter text (at.Rel k) s w =
    let all : list_all is_word_character (letter ∷ 91 ∷ s.0 ++ 93 ∷ []) ≡ true = sym (ap (list_all is_word_character) s.1) ∙ w in
    let p = and_parts (is_word_character letter) (list_all is_word_character (91 ∷ s.0 ++ 93 ∷ [])) all in
    absurd (both_ways (is_word_character 91) opening_no_word (and_parts (is_word_character 91) (list_all is_word_character (s.0 ++ 93 ∷ [])) p.1).0)

pub place_form : (text : List ℕ) (place : Place) → SpellsPlace text place → list_all is_word_character text ≡ true → (has_row_column_form text ≡ true) × (is_lone text ≡ false)
place_form text (places.Cell part) s w =
    let both = all_later is_word_character s.row_text s.column_text (sym (ap (list_all is_word_character) s.whole) ∙ w) in
    let r = bare_position 82 s.row_text part.row s.row both.0 in
    let c = bare_position 67 s.column_text part.column s.column both.1 in
    let whole : text ≡ 82 ∷ r.0 ++ 67 ∷ c.0 = s.whole ∙ ap (λ t. t ++ s.column_text) r.1 ∙ ap (λ t. 82 ∷ r.0 ++ t) c.1 in
    (ap has_row_column_form whole ∙ form_of_digits r.0 c.0 r.2 c.2, ap is_lone whole ∙ later r.0 c.0)
  where
    later : (ds es : List ℕ) → is_lone (82 ∷ ds ++ 67 ∷ es) ≡ false
    later [] es = not_lone 82 67 es
    later (d ∷ ds) es = not_lone 82 d (ds ++ 67 ∷ es)
place_form text (places.Range first last) s w =
    let both = all_later is_word_character s.0 (58 ∷ s.1) (sym (ap (list_all is_word_character) s.2) ∙ w) in
    absurd (both_ways (is_word_character 58) colon_no_word (and_parts (is_word_character 58) (list_all is_word_character s.1) both.1).0)
