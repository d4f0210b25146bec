-- The laws of references, whatever spells and reads a place.
use Rattle.std.proofs.Common.{◌≡◌, ◌≢◌, ℕ, ◌≤◌, List, [], ◌∷◌, ◌++◌, Bool, true, false, not, ◌&&◌, ◌||◌, ◌==◌, ◌⊎◌, length, append_assoc, ◌<◌, arith, Option, Some, None, codes, option_and_then, refl, sym, subst, ◌∙◌, ap, inl, inr, eqb}
use Rattle.std.specs.List.{list_all, list_any}
use Rattle.std.proofs.lemmas.Bool.{and_parts, or_parts, or_left, or_right, or_from, cases_Bool, both_ways, or_cases}
use Rattle.std.proofs.lemmas.Bool.Decides.{eqb_tells}
use Rattle.std.proofs.lemmas.List.{length-append}
use Rattle.std.proofs.lemmas.Option.{none-some, some_pair_parts}
use Rattle.ucd_derived.proofs.Computing.{ucd_derived}
use Rattle.ic_laws.specs.Scan.{IsEnd, begins_word, first_is, is_digit, is_letter, is_plain, is_word_character, past_run, run_of}
use Rattle.ic_laws.specs.Name.{is_a1_cell, is_identifier, is_r1c1_cell, is_sheet_name, is_variable, is_variable_form, needs_quotes}
use Rattle.ic_laws.specs.Dialect.{begins_reference}
use Rattle.ic_laws.specs.declared.reference.Place.{Place}
use Rattle.ic_laws.specs.declared.reference.RefToken.{RefToken}
use Rattle.ic_refs.specs.Longest.{FindsLongest, IsLongest}
use Rattle.ic_laws.specs.SheetText.{SpellsSheet, before_bang, local_text, read_local, sheet_at, sheet_text, written_name}
use Rattle.ic_refs.specs.Sheet.{SpellsReference, reference_at, with_sheet}
use Rattle.ic_refs.proofs.ReferenceLemmas.{finds_reference, marked_longer, sheet_has_bang}
use Rattle.ic_laws.proofs.tokens.Locals.{local_sound}
use Rattle.ic_laws.proofs.tokens.SheetTexts.{no_sheet_without_bang, sheet_again, sheet_complete, sheet_text_spells}
use Rattle.ic_refs.proofs.StoredTextLemmas.{end_plain, end_bang}
use Rattle.ic_tree.specs.laws.EndLaws.{Stops, falls_short, more_after, no_longer}
use Rattle.ic_tree.specs.laws.NameLaws.{FormParts, form_parts, variable_form}

-- ---- where no sheet's name stands

bang_no_word : is_word_character 33 ≡ false
unfolding ucd_derived
bang_no_word = refl

quote_begins_no_word : begins_word 39 ≡ false
unfolding ucd_derived
quote_begins_no_word = refl

no_bang_in_word : (word : List ℕ) → list_all is_word_character word ≡ true → list_any (λ c. c == 33) word ≡ false
no_bang_in_word [] h = refl
no_bang_in_word (c ∷ cs) h =
    let p = and_parts (is_word_character c) (list_all is_word_character cs) h in
    or_from (c == 33) (list_any (λ c. c == 33) cs)
    (elim (eqb_tells c 33) [ inl q ↦ absurd (both_ways (is_word_character c) (ap is_word_character q.1 ∙ bang_no_word) p.0) | inr q ↦ q.0 ])
    (no_bang_in_word cs p.1)

no_bang_after : (text rest : List ℕ) → list_any (λ c. c == 33) text ≡ false → first_is is_plain rest ≡ false → first_is (λ c. c == 33) rest ≡ false → first_is (λ c. c == 33) (past_run is_plain (text ++ rest)) ≡ false
no_bang_after [] [] n p b = refl
no_bang_after [] (c ∷ cs) n p b = rw p b
no_bang_after (c ∷ cs) rest n p b =
    let q = or_parts (c == 33) (list_any (λ c. c == 33) cs) n in
    elim (cases_Bool (is_plain c)) [
      | inl t ↦ rw t (no_bang_after cs rest q.1 p b)
      | inr f ↦ rw f q.0
    ]

no_quote_first : (word rest : List ℕ) → first_is begins_word word ≡ true → first_is (λ c. c == 39) (word ++ rest) ≡ false
no_quote_first [] rest h = absurd (cc)
no_quote_first (c ∷ cs) rest h =
    elim (eqb_tells c 39) [ inl q ↦ absurd (both_ways (begins_word c) (ap begins_word q.1 ∙ quote_begins_no_word) h) | inr q ↦ q.0 ]

-- a run of a word before an end is no sheet's name
pub no_sheet_at_word : (word rest : List ℕ) → first_is begins_word word ≡ true → list_all is_word_character word ≡ true → IsEnd rest → sheet_at (word ++ rest) ≡ None
no_sheet_at_word word rest b w e =
    no_sheet_without_bang (word ++ rest) (no_quote_first word rest b) (no_bang_after word rest (no_bang_in_word word w) (end_plain rest e) (end_bang rest e))

digit_plain : (c : ℕ) → is_digit c ≡ true → is_plain c ≡ true
digit_plain c h = or_left (is_letter c || is_digit c || eqb c 95) (eqb c 46) (or_left (is_letter c || is_digit c) (eqb c 95) (or_right (is_letter c) (is_digit c) h))

quotes_for_digit : (c : ℕ) (cs : List ℕ) → is_digit c ≡ true → needs_quotes (c ∷ cs) ≡ true
quotes_for_digit c cs h =
    or_left (not (list_all is_plain (c ∷ cs)) || (is_digit c || c == 46) || is_a1_cell (c ∷ cs)) (is_r1c1_cell (c ∷ cs))
    (or_left (not (list_all is_plain (c ∷ cs)) || (is_digit c || c == 46)) (is_a1_cell (c ∷ cs))
    (or_right (not (list_all is_plain (c ∷ cs))) (is_digit c || c == 46) (or_left (is_digit c) (c == 46) h)))

quote_no_digit : is_digit 39 ≡ false
quote_no_digit = refl

-- nor is what begins with a digit
pub no_sheet_at_digit : (text : List ℕ) → first_is is_digit text ≡ true → sheet_at text ≡ None
no_sheet_at_digit [] h = absurd (cc)
no_sheet_at_digit (c ∷ cs) h =
    elim (eqb_tells c 39) [
      | inl q ↦ absurd (both_ways (is_digit c) (ap is_digit q.1 ∙ quote_no_digit) h)
      | inr q ↦
          let run : needs_quotes (run_of is_plain (c ∷ cs)) ≡ true = rw (digit_plain c h) (quotes_for_digit c (run_of is_plain cs) h) in
          let none : written_name (c ∷ cs) ≡ None = rw (q.0, run) refl in
          ap (option_and_then (λ (f : List ℕ × List ℕ). before_bang f.0 f.1)) none
    ]

-- ---- how a sheet's name begins

quote_begins : begins_reference 39 ≡ true
unfolding ucd_derived
quote_begins = refl

plain_begins : (c : ℕ) → is_plain c ≡ true → (is_digit c || c == 46) ≡ false → begins_reference c ≡ true
plain_begins c p n =
    let q = or_parts (is_digit c) (c == 46) n in
    let others = list_any (λ x. c == x) (codes "_$'") in
    elim (or_cases (is_letter c || is_digit c || eqb c 95) (eqb c 46) p) [
      | inr dot ↦ absurd (both_ways (c == 46) q.1 dot)
      | inl a ↦ elim (or_cases (is_letter c || is_digit c) (eqb c 95) a) [
        | inl b ↦ or_left (is_letter c || is_digit c) others b
        | inr line ↦ or_right (is_letter c || is_digit c) others (or_left (c == 95) _ line)
      ]
    ]

-- a text begins with such a character
abbrev pub Begins : List ℕ → Type 0
Begins text = (c : ℕ) × (cs : List ℕ) × (text ≡ c ∷ cs) × (begins_reference c ≡ true)

bare_begins : (name : List ℕ) → is_sheet_name name ≡ true → needs_quotes name ≡ false → Begins name
bare_begins [] s n = absurd (cc)
bare_begins (c ∷ cs) s n =
    let a = or_parts (not (list_all is_plain (c ∷ cs)) || (is_digit c || c == 46) || is_a1_cell (c ∷ cs)) (is_r1c1_cell (c ∷ cs)) n in
    let b = or_parts (not (list_all is_plain (c ∷ cs)) || (is_digit c || c == 46)) (is_a1_cell (c ∷ cs)) a.0 in
    let d = or_parts (not (list_all is_plain (c ∷ cs))) (is_digit c || c == 46) b.0 in
    (c, cs, refl, plain_begins c (plain (is_plain c) (list_all is_plain cs) d.0) d.1)
  where
    plain : (x y : Bool) → not (x && y) ≡ false → x ≡ true
    plain true y h = refl
    plain false y h = absurd (cc)

begins_more : (a b : List ℕ) → Begins a → Begins (a ++ b)
begins_more a b h = (h.0, h.1 ++ b, ap (λ t. t ++ b) h.2, h.3)

sheet_begins : (text name : List ℕ) → SpellsSheet text (Some name) → Begins text
sheet_begins text name s =
    elim s.1 [
      | inl q ↦ (39, _, q, quote_begins)
      | inr q ↦ subst Begins (sym q.1) (begins_more name (33 ∷ []) (bare_begins name s.0 q.0))
    ]

none_or_some : (o : Option (List ℕ)) → (o ≡ None) ⊎ ((name : List ℕ) × (o ≡ Some name))
none_or_some None = inl refl
none_or_some (Some name) = inr (name, refl)

of_place : (o : Option (Place × List ℕ)) (r : RefToken) (after : List ℕ) → with_sheet None o ≡ Some (r, after) → (p : Place) × (o ≡ Some (p, after))
of_place None r after e = absurd (none-some (r, after) e)
of_place (Some f) r after e = (f.0, let same : f.1 ≡ after = ap (λ o. later o) e in ap (λ t. Some (f.0, t)) same)
  where
    later : Option (RefToken × List ℕ) → List ℕ
    later None = []
    later (Some g) = g.1

module _ (read : List ℕ → Option (Place × List ℕ)) (SpellsPlace : List ℕ → Place → Type 0) (finds : (text : List ℕ) → FindsLongest SpellsPlace text (read text)) (no_bang : (text : List ℕ) (p : Place) → SpellsPlace text p → list_any (λ c. c == 33) text ≡ false) (begins : (text : List ℕ) (p : Place) → SpellsPlace text p → Begins text) (stops : (text : List ℕ) (p : Place) → SpellsPlace text p → Stops (past_run is_word_character text)) where
  longest : (text rest : List ℕ) (r : RefToken) → reference_at read text ≡ Some (r, rest) → IsLongest (SpellsReference SpellsPlace) text r rest
  longest text rest r e = subst (λ f. FindsLongest (SpellsReference SpellsPlace) text f) e (finds_reference read SpellsPlace finds no_bang text)

  reference_starts : (text : List ℕ) (r : RefToken) → SpellsReference SpellsPlace text r → Begins text
  reference_starts text r x =
      elim (none_or_some r.sheet) [
        | inl n ↦
            let none : x.sheet_text ≡ [] = subst (SpellsSheet x.sheet_text) n x.sheet in
            subst Begins (sym (x.whole ∙ ap (λ s. s ++ x.place_text) none)) (begins x.place_text r.place x.place)
        | inr n ↦ subst Begins (sym x.whole) (begins_more x.sheet_text x.place_text (sheet_begins x.sheet_text n.0 (subst (SpellsSheet x.sheet_text) n.1 x.sheet)))
      ]

  pub law_front : (text rest : List ℕ) (r : RefToken) → reference_at read text ≡ Some (r, rest) → (front : List ℕ) × (front ≢ []) × (text ≡ front ++ rest)
  law_front text rest r e =
      let l = longest text rest r e in
      let b = reference_starts l.front r l.spelled in
      (l.front, differ l.front b.0 b.1 b.2, l.whole)
    where
      differ : (t : List ℕ) (c : ℕ) (cs : List ℕ) → t ≡ c ∷ cs → t ≢ []
      differ t c cs e = λ f. cc

  begins_of : (text : List ℕ) (o : Option (RefToken × List ℕ)) → reference_at read text ≡ o → first_is begins_reference text ≡ false → o ≡ None
  begins_of text None e h = refl
  begins_of text (Some (r, rest)) e h =
      let l = longest text rest r e in
      let b = reference_starts l.front r l.spelled in
      let here : text ≡ b.0 ∷ b.1 ++ rest = l.whole ∙ ap (λ t. t ++ rest) b.2 in
      absurd (both_ways (begins_reference b.0) (sym (ap (first_is begins_reference) here) ∙ h) b.3)

  pub law_begins : (text : List ℕ) → first_is begins_reference text ≡ false → reference_at read text ≡ None
  law_begins text h = begins_of text (reference_at read text) refl h

  read_alone : (text : List ℕ) → sheet_at text ≡ None → reference_at read text ≡ with_sheet None (read text)
  read_alone text e = rw e refl

  -- where no sheet's name stands, what is read is a place
  pub place_alone : (text after : List ℕ) (r : RefToken) → sheet_at text ≡ None → reference_at read text ≡ Some (r, after) → (p : Place) × IsLongest SpellsPlace text p after
  place_alone text after r none e =
      let q = of_place (read text) r after (sym (read_alone text none) ∙ e) in
      (q.0, subst (λ f. FindsLongest SpellsPlace text f) q.1 (finds text))

  -- before an end, no reference is longer than a word
  pub at_word : (word rest after : List ℕ) (r : RefToken) → first_is begins_word word ≡ true → list_all is_word_character word ≡ true → IsEnd rest → reference_at read (word ++ rest) ≡ Some (r, after)
      → (p : Place) × (front : List ℕ) × (word ++ rest ≡ front ++ after) × SpellsPlace front p × (length front ≤ length word)
  at_word word rest after r b w e h =
      let q = place_alone (word ++ rest) after r (no_sheet_at_word word rest b w e) h in
      let l = q.1 in
      (q.0, l.front, l.whole, l.spelled, no_longer word l.front rest after w e l.whole (stops l.front q.0 l.spelled))

  -- no place is a variable
  abbrev pub NoVariable : Type 0
  NoVariable = (word : List ℕ) (p : Place) → is_variable_form word ≡ true → SpellsPlace word p → ⊥

  -- what a reference with a sheet's name makes `sheet_at` read
  named_at : (text front after name : List ℕ) (r : RefToken) (x : SpellsReference SpellsPlace front r) → text ≡ front ++ after → r.sheet ≡ Some name → sheet_at text ≡ Some (name, x.place_text ++ after)
  named_at text front after name r x whole e =
      ap sheet_at (whole ∙ ap (λ f. f ++ after) x.whole ∙ append_assoc x.sheet_text x.place_text after)
      ∙ sheet_complete x.sheet_text name (x.place_text ++ after) (subst (SpellsSheet x.sheet_text) e x.sheet)

  -- one without is a place
  alone : (front : List ℕ) (r : RefToken) (x : SpellsReference SpellsPlace front r) → r.sheet ≡ None → SpellsPlace front r.place
  alone front r x e =
      let none : x.sheet_text ≡ [] = subst (SpellsSheet x.sheet_text) e x.sheet in
      subst (λ t. SpellsPlace t r.place) (sym (x.whole ∙ ap (λ s. s ++ x.place_text) none)) x.place

  -- before an end, a reference is shorter than a word with its sheet
  pub at_local : NoVariable → (sheet word rest after : List ℕ) (r : RefToken) → is_sheet_name sheet ≡ true → is_identifier word ≡ true → IsEnd rest → reference_at read (local_text sheet word ++ rest) ≡ Some (r, after) → length rest < length after
  at_local apart sheet word rest after r named identifier e h =
      let text = local_text sheet word ++ rest in
      let l = longest text after r h in
      let form : is_variable_form word ≡ true = variable_form word (identifier_variable word identifier) in
      let parts : FormParts word = form_parts word form in
      let whole : text ≡ sheet_text (Some sheet) ++ (word ++ rest) = append_assoc (sheet_text (Some sheet)) word rest in
      elim (none_or_some r.sheet) [
        | inl n ↦
            let short = marked_longer (λ c. c == 33) (sheet_text (Some sheet)) l.front (word ++ rest) after (sym whole ∙ l.whole) (sheet_has_bang (sheet_text (Some sheet)) sheet (sheet_text_spells sheet named)) (no_bang l.front r.place (alone l.front r l.spelled n)) in
            omega (arith, short, ap length (sym whole ∙ l.whole), length-append (sheet_text (Some sheet)) (word ++ rest), length-append word rest, length-append l.front after, some_length word parts.begins)
        | inr n ↦
            let x = l.spelled in
            let both = some_pair_parts sheet n.0 (word ++ rest) (x.place_text ++ after) (sym (ap sheet_at whole ∙ sheet_again sheet (word ++ rest) named) ∙ named_at text l.front after n.0 r x l.whole n.1) in
            more_after word x.place_text rest after both.1 (no_longer word x.place_text rest after parts.all e both.1 (stops x.place_text r.place x.place))
            (λ same. apart word r.place form (subst (λ t. SpellsPlace t r.place) same x.place))
      ]
    where
      identifier_variable : (w : List ℕ) → is_identifier w ≡ true → is_variable w ≡ true
      identifier_variable w h = (and_parts (is_variable w) _ (and_parts _ _ (and_parts _ _ h).0).0).0

      some_length : (w : List ℕ) → first_is begins_word w ≡ true → 0 < length w
      some_length [] h = absurd (cc)
      some_length (c ∷ cs) h = omega arith

  -- and a word with its sheet is shorter than a reference before an end
  pub local_short : NoVariable → ((text : List ℕ) (p : Place) (rest : List ℕ) → SpellsPlace text p → IsEnd rest → sheet_at (text ++ rest) ≡ None) → (text sheet word rest after : List ℕ) (r : RefToken) → IsEnd rest
      → reference_at read text ≡ Some (r, rest) → read_local text ≡ Some ((sheet, word), after) → length rest < length after
  local_short apart no_sheet text sheet word rest after r e h k =
      let l = longest text rest r h in
      let s = local_sound text sheet word after k in
      let seen : sheet_at text ≡ Some (sheet, word ++ after) =
      ap sheet_at (s.1 ∙ ap (λ f. f ++ after) s.2.whole ∙ append_assoc s.2.before word after) ∙ sheet_complete s.2.before sheet (word ++ after) s.2.named in
      elim (none_or_some r.sheet) [
        | inl n ↦ absurd (none-some (sheet, word ++ after) (sym (ap sheet_at l.whole ∙ no_sheet l.front r.place rest (alone l.front r l.spelled n) e) ∙ seen))
        | inr n ↦
            let x = l.spelled in
            let both = some_pair_parts sheet n.0 (word ++ after) (x.place_text ++ rest) (sym seen ∙ named_at text l.front rest n.0 r x l.whole n.1) in
            let form : is_variable_form word ≡ true = variable_form word (is_variable_of word s.2.identifier) in
            let parts : FormParts word = form_parts word form in
            falls_short word x.place_text after rest parts.all e both.1 (λ same. apart word r.place form (subst (λ t. SpellsPlace t r.place) same x.place))
      ]
    where
      is_variable_of : (w : List ℕ) → is_identifier w ≡ true → is_variable w ≡ true
      is_variable_of w h = (and_parts (is_variable w) _ (and_parts _ _ (and_parts _ _ h).0).0).0
