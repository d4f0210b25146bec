-- No escape stands for a digit or a minus, so a word that says a number spells itself.
use Rattle.std.proofs.Common.{◌≡◌, ℕ, List, [], ◌∷◌, true, false, Bool, ◌==◌, ◌&&◌, ◌||◌, Option, Some, None, option_map, option_and_then, refl, ap, sym, ◌∙◌, inl, inr}
use Rattle.std.specs.Char.{is_ascii_digit}
use Rattle.std.specs.List.{list_all}
use Rattle.std.specs.Str.{all_ascii_digits}
use Rattle.std.proofs.lemmas.Bool.{and_cases, and_parts, cases_Bool}
use Rattle.std.proofs.lemmas.Bool.Decides.{eqb_tells}
use Rattle.ic_laws.specs.Command.{at_most, index_said, position_said}
use Rattle.ic_laws.specs.Lines.{escape_meaning, unescaped}
use Rattle.ic_laws.proofs.General.{no_number as without_digits}

-- a digit or a minus
abbrev pub plain : ℕ → Bool
plain c = is_ascii_digit c || c == 45

-- a word of them spells itself
spells_itself : (word : List ℕ) → list_all plain word ≡ true → unescaped word ≡ Some word
spells_itself [] h = refl
spells_itself (c ∷ []) h =
    elim (eqb_tells c 92) [
      | inl p ↦ let no = ap (λ x. list_all plain (x ∷ [])) (sym p.1) ∙ h in absurd (cc)
      | inr p ↦ rw p.0 refl
    ]
spells_itself (c ∷ d ∷ cs) h =
    elim (eqb_tells c 92) [
      | inl p ↦ let no = ap (λ x. list_all plain (x ∷ d ∷ cs)) (sym p.1) ∙ h in absurd (cc)
      | inr p ↦ rw p.0 (ap (option_map (λ t. c ∷ t)) (spells_itself (d ∷ cs) (and_parts (plain c) (list_all plain (d ∷ cs)) h).1))
    ]

-- no text with a digit or a minus for each character
abbrev IsOther : Option (List ℕ) → Type 0
IsOther None = Unit {0}
IsOther (Some text) = list_all plain text ≡ false

other_after : (c : ℕ) (o : Option (List ℕ)) → IsOther o → IsOther (option_map (λ t. c ∷ t) o)
other_after c None h = tt
other_after c (Some t) h = rw h (elim (plain c) as (λ b. (b && false) ≡ false) [ true ↦ refl | false ↦ refl ])

other_first : (c : ℕ) (o : Option (List ℕ)) → plain c ≡ false → IsOther (option_map (λ t. c ∷ t) o)
other_first c None h = tt
other_first c (Some t) h = rw h refl

other_escape : (d : ℕ) (o : Option (List ℕ)) → IsOther (option_and_then (λ m. option_map (λ t. m ∷ t) o) (escape_meaning d))
other_escape d o =
    elim (eqb_tells d 92) [
      | inl p ↦ rw p.1 (other_first 92 o refl)
      | inr p ↦ elim (eqb_tells d 116) [
        | inl q ↦ rw q.1 (other_first 9 o refl)
        | inr q ↦ elim (eqb_tells d 110) [
          | inl r ↦ rw r.1 (other_first 10 o refl)
          | inr r ↦ elim (eqb_tells d 114) [
            | inl s ↦ rw s.1 (other_first 13 o refl)
            | inr s ↦ rw (p.0, q.0, r.0, s.0) tt
          ]
        ]
      ]
    ]

-- another word spells no such text
spells_other : (word : List ℕ) → list_all plain word ≡ false → IsOther (unescaped word)
spells_other [] h = absurd (cc)
spells_other (c ∷ []) h = elim (eqb_tells c 92) [ inl p ↦ rw p.0 tt | inr p ↦ rw p.0 h ]
spells_other (c ∷ d ∷ cs) h =
    elim (eqb_tells c 92) [
      | inl p ↦ rw p.0 (other_escape d (unescaped cs))
      | inr p ↦ rw p.0 (elim (and_cases (plain c) (list_all plain (d ∷ cs)) h) [
        | inl first ↦ other_first c (unescaped (d ∷ cs)) first
        | inr rest ↦ other_after c (unescaped (d ∷ cs)) (spells_other (d ∷ cs) rest)
      ])
    ]

none_of_other : {T : Type 0} (read : List ℕ → Option T) → ((text : List ℕ) → list_all plain text ≡ false → read text ≡ None) → (o : Option (List ℕ)) → IsOther o → option_and_then read o ≡ None
none_of_other read strict None h = refl
none_of_other read strict (Some text) h = strict text h

-- what reads such words alone reads a word as what the word spells
pub as_spelled : {T : Type 0} (read : List ℕ → Option T) → ((text : List ℕ) → list_all plain text ≡ false → read text ≡ None) → (word : List ℕ) → read word ≡ option_and_then read (unescaped word)
as_spelled read strict word =
    elim (cases_Bool (list_all plain word)) [
      | inl p ↦ sym (ap (option_and_then read) (spells_itself word p))
      | inr p ↦ strict word p ∙ sym (none_of_other read strict (unescaped word) (spells_other word p))
    ]

digits_plain : (cs : List ℕ) → all_ascii_digits cs ≡ true → list_all plain cs ≡ true
digits_plain [] h = refl
digits_plain (c ∷ cs) h =
    let p = and_parts (is_ascii_digit c) (all_ascii_digits cs) h in rw (p.0, digits_plain cs p.1) refl

not_digits : (cs : List ℕ) → list_all plain cs ≡ false → all_ascii_digits cs ≡ false
not_digits cs h = elim (cases_Bool (all_ascii_digits cs)) [
  | inl p ↦ let no = digits_plain cs p in absurd (cc)
  | inr p ↦ p
]

pub other_index : (cs : List ℕ) → list_all plain cs ≡ false → index_said cs ≡ None
other_index cs h = ap (option_and_then (at_most 4294967295)) (without_digits cs (not_digits cs h))

other_position : (cs : List ℕ) → list_all plain cs ≡ false → position_said cs ≡ None
other_position [] h = refl
other_position (c ∷ cs) h =
    elim (eqb_tells c 45) [
      | inl p ↦
          let rest : list_all plain cs ≡ false = ap (λ x. list_all plain (x ∷ cs)) (sym p.1) ∙ h in
          rw (p.0, without_digits cs (not_digits cs rest)) refl
      | inr p ↦ rw (p.0, without_digits (c ∷ cs) (not_digits (c ∷ cs) h)) refl
    ]

pub index_spelled : (word : List ℕ) → index_said word ≡ option_and_then index_said (unescaped word)
index_spelled word = as_spelled index_said other_index word

pub position_spelled : (word : List ℕ) → position_said word ≡ option_and_then position_said (unescaped word)
position_spelled word = as_spelled position_said other_position word
