-- What is read as a sheet's name is spelled, and what is spelled is read.
use Rattle.std.proofs.Common.{◌≡◌, ◌⊎◌, Bool, true, false, not, ◌&&◌, ◌||◌, ◌==◌, ℕ, List, [], ◌∷◌, ◌++◌, Option, Some, None, option_and_then, refl, sym, ◌∙◌, ap, inl, inr, append_assoc, if◌then◌else◌}
use Rattle.std.specs.List.{list_all}
use Rattle.std.specs.Option.{IfSome}
use Rattle.std.proofs.lemmas.Bool.{both_ways, cases_Bool, cond-false, eqb-true, or_parts, and_parts, and_right, not-false}
use Rattle.std.proofs.lemmas.Bool.Decides.{eqb_tells}
use Rattle.std.proofs.lemmas.Option.{cond_some, none-some, option_and_then_some, some_pair_parts}
use Rattle.ucd_derived.proofs.Computing.{ucd_derived}
use Rattle.ic_laws.specs.Name.{in_quotes, is_a1_cell, is_r1c1_cell, is_sheet_name, needs_quotes}
use Rattle.ic_laws.specs.Scan.{first_is, is_digit, is_plain, past_run, run_of}
use Rattle.ic_laws.specs.SheetText.{SpellsSheet, before_bang, doubled, doubled_char, name_in_quotes, onto_text, sheet_at, sheet_text, written_name}
use Rattle.ic_laws.specs.Tree.{is_written_sheet}
use Rattle.ic_laws.proofs.RunLemmas.{run_and_rest}
use Rattle.ic_laws.proofs.tokens.Characters.{past_run_all, run_of_all}

-- a character that is no quote stands for itself
pub quoted_step : (c : ℕ) (cs : List ℕ) → (c == 39) ≡ false → name_in_quotes (c ∷ cs) ≡ onto_text c (name_in_quotes cs)
quoted_step c [] h = rw h refl
quoted_step c (d ∷ cs) h = rw h refl

-- a quote with no other after it closes the name
pub closed_here : (more : List ℕ) → first_is (λ c. c == 39) more ≡ false → name_in_quotes (39 ∷ more) ≡ Some ([], more)
closed_here [] h = refl
closed_here (d ∷ ds) h = rw h refl

-- a name that may be written is a sheet's
pub sheet_named : (sheet : Option (List ℕ)) → is_written_sheet sheet ≡ true → IfSome sheet (λ name. is_sheet_name name ≡ true)
sheet_named None h = tt
sheet_named (Some name) h = h

-- `!`, a quote, a dollar sign, a colon and a bracket are not plain
pub bang_not_plain : is_plain 33 ≡ false
unfolding ucd_derived
bang_not_plain = refl

pub quote_not_plain : is_plain 39 ≡ false
unfolding ucd_derived
quote_not_plain = refl

pub dollar_not_plain : is_plain 36 ≡ false
unfolding ucd_derived
dollar_not_plain = refl

-- a character in front of what was read
onto_some : (c : ℕ) (o : Option (List ℕ × List ℕ)) (name rest : List ℕ) → onto_text c o ≡ Some (name, rest) → (m : List ℕ) × (name ≡ c ∷ m) × (o ≡ Some (m, rest))
onto_some c None name rest e = absurd (none-some (name, rest) e)
onto_some c (Some (m, r)) name rest e =
    let p = some_pair_parts (c ∷ m) name r rest e in
    (m, sym (p.0), ap (λ r. Some (m, r)) p.1)

-- nothing is left of the name
closed_name : (name rest more : List ℕ) → ◌≡◌ {A = Option (List ℕ × List ℕ)} (Some ([], more)) (Some (name, rest)) → 39 ∷ more ≡ doubled name ++ 39 ∷ rest
closed_name name rest more e =
    let p = some_pair_parts [] name more rest e in
    ap (λ r. 39 ∷ r) p.1 ∙ ap (λ n. doubled n ++ 39 ∷ rest) p.0

-- one more character of the name
more_name : (c : ℕ) (text name rest : List ℕ) (o : Option (List ℕ × List ℕ)) → onto_text c o ≡ Some (name, rest) → ((m : List ℕ) → o ≡ Some (m, rest) → text ≡ doubled m ++ 39 ∷ rest) → doubled_char c ++ text ≡ doubled name ++ 39 ∷ rest
more_name c text name rest o e again =
    let p = onto_some c o name rest e in
    ap (λ t. doubled_char c ++ t) (again p.0 p.2) ∙ sym (append_assoc (doubled_char c) (doubled p.0) (39 ∷ rest)) ∙ ap (λ n. doubled n ++ 39 ∷ rest) (sym (p.1))

-- a name between quotes
pub quoted_sound : (text name rest : List ℕ) → name_in_quotes text ≡ Some (name, rest) → text ≡ doubled name ++ 39 ∷ rest
quoted_sound [] name rest h = absurd (none-some (name, rest) h)
quoted_sound (c ∷ []) name rest h =
    elim (eqb_tells c 39) [
      | inl p ↦ let e : ◌≡◌ {A = Option (List ℕ × List ℕ)} (Some ([], [])) (Some (name, rest)) = rw p.0 at h in
          ap (λ x. x ∷ []) p.1 ∙ closed_name name rest [] e
      | inr p ↦ let e : ◌≡◌ {A = Option (List ℕ × List ℕ)} None (Some (name, rest)) = rw p.0 at h in absurd (none-some (name, rest) e)
    ]
quoted_sound (c ∷ d ∷ cs) name rest h =
    elim (eqb_tells c 39) [
      | inl p ↦ elim (eqb_tells d 39) [
        | inl q ↦ let e : onto_text 39 (name_in_quotes cs) ≡ Some (name, rest) = rw (p.0, q.0) at h in
            ap (λ x. x ∷ d ∷ cs) p.1 ∙ ap (λ x. 39 ∷ x ∷ cs) q.1 ∙ more_name 39 cs name rest (name_in_quotes cs) e (λ m k. quoted_sound cs m rest k)
        | inr q ↦ let e : ◌≡◌ {A = Option (List ℕ × List ℕ)} (Some ([], d ∷ cs)) (Some (name, rest)) = rw (p.0, q.0) at h in
            ap (λ x. x ∷ d ∷ cs) p.1 ∙ closed_name name rest (d ∷ cs) e
      ]
      | inr p ↦ let e : onto_text c (name_in_quotes (d ∷ cs)) ≡ Some (name, rest) = rw p.0 at h in
          let f : doubled_char c ≡ c ∷ [] = rw p.0 refl in
          ap (λ v. v ++ d ∷ cs) (sym f) ∙ more_name c (d ∷ cs) name rest (name_in_quotes (d ∷ cs)) e (λ m k. quoted_sound (d ∷ cs) m rest k)
    ]

-- a name between quotes is read where no quote follows
pub quoted_complete : (name rest : List ℕ) → first_is (λ c. c == 39) rest ≡ false → name_in_quotes (doubled name ++ 39 ∷ rest) ≡ Some (name, rest)
quoted_complete [] rest h = closed_here rest h
quoted_complete (c ∷ cs) rest h =
    elim (eqb_tells c 39) [
      | inl p ↦ rw p.1 (ap (onto_text 39) (quoted_complete cs rest h))
      | inr p ↦ let e : doubled_char c ≡ c ∷ [] = rw p.0 refl in
          ap (λ v. name_in_quotes (v ++ doubled cs ++ 39 ∷ rest)) e ∙ quoted_step c (doubled cs ++ 39 ∷ rest) p.0 ∙ ap (onto_text c) (quoted_complete cs rest h)
    ]

-- the parts of what is read as a sheet's name
before_some : (n r name rest : List ℕ) → before_bang n r ≡ Some (name, rest) → (is_sheet_name name ≡ true) × (n ≡ name) × (r ≡ 33 ∷ rest)
before_some n [] name rest e = absurd (none-some (name, rest) e)
before_some n (c ∷ r) name rest e =
    let p = cond_some (c == 33 && is_sheet_name n) (n, r) (name, rest) e in
    let q = and_parts (c == 33) (is_sheet_name n) p.0 in
    let same = some_pair_parts n name r rest (ap Some p.1) in
    let bang : c ≡ 33 = eqb-true c 33 q.0 in
    (sym (ap is_sheet_name same.0) ∙ q.1, same.0, ap (λ x. x ∷ r) bang ∙ ap (λ x. 33 ∷ x) same.1)

-- what may stand before a `!` as a name
MayStand : List ℕ → List ℕ → List ℕ → Type 0
MayStand text n r = (text ≡ in_quotes n ++ r) ⊎ ((needs_quotes n ≡ false) × (text ≡ n ++ r))

written_some : (text n r : List ℕ) → written_name text ≡ Some (n, r) → MayStand text n r
unfolding MayStand
written_some [] n r e = absurd (none-some (n, r) e)
written_some (c ∷ cs) n r e =
    elim (eqb_tells c 39) [
      | inl p ↦ let k : name_in_quotes cs ≡ Some (n, r) = rw p.0 at e in
          inl (ap (λ x. x ∷ cs) p.1 ∙ ap (λ t. 39 ∷ t) (quoted_sound cs n r k) ∙ ap (λ t. 39 ∷ t) (sym (append_assoc (doubled n) (39 ∷ []) r)))
      | inr p ↦ elim (cases_Bool (needs_quotes (run_of is_plain (c ∷ cs)))) [
        | inl q ↦ let k : ◌≡◌ {A = Option (List ℕ × List ℕ)} None (Some (n, r)) = rw (p.0, q) at e in absurd (none-some (n, r) k)
        | inr q ↦ let k : ◌≡◌ {A = Option (List ℕ × List ℕ)} (Some (run_of is_plain (c ∷ cs), past_run is_plain (c ∷ cs))) (Some (n, r)) = rw (p.0, q) at e in
            let same = some_pair_parts (run_of is_plain (c ∷ cs)) n (past_run is_plain (c ∷ cs)) r k in
            inr (sym (ap needs_quotes same.0) ∙ q, run_and_rest is_plain (c ∷ cs) ∙ ap (λ x. x ++ past_run is_plain (c ∷ cs)) same.0 ∙ ap (λ x. n ++ x) same.1)
      ]
    ]

-- What is read as a sheet's name is spelled.
pub sheet_sound : (text name rest : List ℕ) → sheet_at text ≡ Some (name, rest) → (front : List ℕ) × SpellsSheet front (Some name) × (text ≡ front ++ rest)
unfolding MayStand
sheet_sound text name rest e =
    option_and_then_some (λ (f : List ℕ × List ℕ). before_bang f.0 f.1) (written_name text) (name, rest) e
    (λ x w b.
    let q = before_some x.0 x.1 name rest b in
    elim (written_some text x.0 x.1 w) [
      | inl s ↦ (in_quotes name ++ 33 ∷ [], (q.0, inl refl), s ∙ ap (λ n. in_quotes n ++ x.1) q.1 ∙ ap (λ r. in_quotes name ++ r) q.2 ∙ sym (append_assoc (in_quotes name) (33 ∷ []) rest))
      | inr s ↦ (name ++ 33 ∷ [], (q.0, inr (sym (ap needs_quotes q.1) ∙ s.0, refl)), s.1 ∙ ap (λ n. n ++ x.1) q.1 ∙ ap (λ r. name ++ r) q.2 ∙ sym (append_assoc name (33 ∷ []) rest))
    ])

-- a sheet's name before its `!`
before_complete : (name rest : List ℕ) → is_sheet_name name ≡ true → before_bang name (33 ∷ rest) ≡ Some (name, rest)
before_complete name rest h = rw h refl

quoted_front : (name rest : List ℕ) → in_quotes name ++ 33 ∷ [] ++ rest ≡ 39 ∷ (doubled name ++ 39 ∷ 33 ∷ rest)
quoted_front name rest = append_assoc (in_quotes name) (33 ∷ []) rest ∙ ap (λ t. 39 ∷ t) (append_assoc (doubled name) (39 ∷ []) (33 ∷ rest))

-- what needs no quotes has plain characters alone
pub all_plain : (name : List ℕ) → needs_quotes name ≡ false → list_all is_plain name ≡ true
all_plain name h =
    not-false (list_all is_plain name) ((or_parts (not (list_all is_plain name)) (first_is (λ c. is_digit c || c == 46) name) (or_parts (not (list_all is_plain name) || first_is (λ c. is_digit c || c == 46) name) (is_a1_cell name) (or_parts (not (list_all is_plain name) || first_is (λ c. is_digit c || c == 46) name || is_a1_cell name) (is_r1c1_cell name) h).0).0).0)

-- a plain character is no quote
pub plain_no_quote : (c : ℕ) → is_plain c ≡ true → (c == 39) ≡ false
plain_no_quote c h = elim (eqb_tells c 39) [ inl p ↦ absurd (both_ways (is_plain c) (ap is_plain p.1 ∙ quote_not_plain) h) | inr p ↦ p.0 ]

-- a name that stands without quotes, unless it needs them
abbrev pub plain_read : List ℕ → List ℕ → Option (List ℕ × List ℕ)
plain_read n r = if needs_quotes n then None else Some (n, r)

pub written_other : (c : ℕ) (cs : List ℕ) → (c == 39) ≡ false → written_name (c ∷ cs) ≡ plain_read (run_of is_plain (c ∷ cs)) (past_run is_plain (c ∷ cs))
written_other c cs h = rw h refl

written_plain : (name rest : List ℕ) → is_sheet_name name ≡ true → needs_quotes name ≡ false → written_name (name ++ 33 ∷ rest) ≡ Some (name, 33 ∷ rest)
written_plain [] rest s h = cc
written_plain (c ∷ cs) rest s h =
    let plain = all_plain (c ∷ cs) h in
    let run = run_of_all is_plain (c ∷ cs) (33 ∷ rest) plain bang_not_plain in
    let past = past_run_all is_plain (c ∷ cs) (33 ∷ rest) plain bang_not_plain in
    let p = plain_no_quote c ((and_parts (is_plain c) (list_all is_plain cs) plain).0) in
    written_other c (cs ++ 33 ∷ rest) p ∙ ap (λ n. plain_read n (past_run is_plain (c ∷ (cs ++ 33 ∷ rest)))) run ∙ ap (plain_read (c ∷ cs)) past
    ∙ cond-false (needs_quotes (c ∷ cs)) None (Some (c ∷ cs, 33 ∷ rest)) h

-- What is spelled as a sheet's name is read, whatever stands after it.
pub sheet_complete : (front name rest : List ℕ) → SpellsSheet front (Some name) → sheet_at (front ++ rest) ≡ Some (name, rest)
sheet_complete front name rest h =
    elim h.1 [
      | inl e ↦ ap (λ f. sheet_at (f ++ rest)) e ∙ ap sheet_at (quoted_front name rest)
          ∙ ap (option_and_then (λ (f : List ℕ × List ℕ). before_bang f.0 f.1)) (quoted_complete name (33 ∷ rest) refl) ∙ before_complete name rest h.0
      | inr e ↦ ap (λ f. sheet_at (f ++ rest)) e.1 ∙ ap sheet_at (append_assoc name (33 ∷ []) rest)
          ∙ ap (option_and_then (λ (f : List ℕ × List ℕ). before_bang f.0 f.1)) (written_plain name rest h.0 e.0) ∙ before_complete name rest h.0
    ]

-- the spelling of a sheet's name spells it
pub sheet_text_spells : (name : List ℕ) → is_sheet_name name ≡ true → SpellsSheet (sheet_text (Some name)) (Some name)
sheet_text_spells name h =
    elim (cases_Bool (needs_quotes name)) [
      | inl e ↦ (h, inl (rw e refl))
      | inr e ↦ (h, inr (e, rw e refl))
    ]

-- so the spelling is read
pub sheet_again : (name rest : List ℕ) → is_sheet_name name ≡ true → sheet_at (sheet_text (Some name) ++ rest) ≡ Some (name, rest)
sheet_again name rest h = sheet_complete (sheet_text (Some name)) name rest (sheet_text_spells name h)

-- no `!` stands at the front
no_bang : (n r : List ℕ) → first_is (λ c. c == 33) r ≡ false → before_bang n r ≡ None
no_bang n [] h = refl
no_bang n (c ∷ r) h = rw h refl

none_after : (b : Bool) (n r : List ℕ) → first_is (λ c. c == 33) r ≡ false → option_and_then (λ (f : List ℕ × List ℕ). before_bang f.0 f.1) (if b then None else Some (n, r)) ≡ None
none_after true n r h = refl
none_after false n r h = no_bang n r h

-- A text without a quote at its front has no sheet's name there where no `!` follows its plain run.
pub no_sheet_without_bang : (text : List ℕ) → first_is (λ c. c == 39) text ≡ false → first_is (λ c. c == 33) (past_run is_plain text) ≡ false → sheet_at text ≡ None
no_sheet_without_bang [] h k = refl
no_sheet_without_bang (c ∷ cs) h k =
    let run = run_of is_plain (c ∷ cs) in
    let past = past_run is_plain (c ∷ cs) in
    ap (option_and_then (λ (f : List ℕ × List ℕ). before_bang f.0 f.1)) (written_other c cs h) ∙ none_after (needs_quotes run) run past k

no_name : (b : Bool) (c : ℕ) (cs : List ℕ) → option_and_then (λ (f : List ℕ × List ℕ). before_bang f.0 f.1) (if b then None else Some ([], c ∷ cs)) ≡ None
no_name true c cs = refl
no_name false c cs = cond-false (c == 33 && is_sheet_name []) (Some ([], cs)) None (and_right (c == 33) (is_sheet_name []) refl)

no_run : (c : ℕ) (cs : List ℕ) → is_plain c ≡ false → plain_read (run_of is_plain (c ∷ cs)) (past_run is_plain (c ∷ cs)) ≡ plain_read [] (c ∷ cs)
no_run c cs h = rw h refl

-- Nor has one that begins with a character that is neither plain nor a quote.
pub no_sheet_at_other : (text : List ℕ) → first_is (λ c. c == 39) text ≡ false → first_is is_plain text ≡ false → sheet_at text ≡ None
no_sheet_at_other [] h k = refl
no_sheet_at_other (c ∷ cs) h k = ap (option_and_then (λ (f : List ℕ × List ℕ). before_bang f.0 f.1)) (written_other c cs h ∙ no_run c cs k) ∙ no_name (needs_quotes []) c cs
