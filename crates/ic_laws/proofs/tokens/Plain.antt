-- What a split spells, references and words with their sheets aside: what is read is spelled, and what is spelled is read.
use Rattle.std.proofs.Common.{if◌then◌else◌, ◌≡◌, ◌≢◌, ℕ, ℤ, pos, List, [], ◌∷◌, ◌++◌, Bool, true, false, not, ◌&&◌, ◌||◌, ◌==◌, Option, Some, None, option_map, option_and_then, refl, sym, ◌∙◌, ap, subst, inl, inr, append_assoc, codes, bytes_eq}
use Rattle.std.specs.List.{AllByRecursion}
use Rattle.std.proofs.lemmas.Bool.{cases_Bool, and_parts, or_parts, eqb-true}
use Rattle.std.proofs.lemmas.Bool.Decides.{eqb_tells}
use Rattle.std.proofs.lemmas.Slice.Eq.{bytes_eq-Decides}
use Rattle.ucd_derived.proofs.Computing.{ucd_derived}
use Rattle.ic_laws.specs.Amount.{unsigned_amount}
use Rattle.ic_laws.specs.Scan.{begins_word, first_is, is_blank, is_digit}
use Rattle.ic_laws.specs.Dialect.{DialectMeaning, IsLawful, error_number, is_sign}
use Rattle.ic_laws.specs.TokenKinds.{is_local, is_reference}
use Rattle.ic_laws.specs.Token.{Token, Num, Str, Boolean, Err, Ref, Local, Word, FunHead, NameHead, Separator, Operator, At, Percent, Hash, Open, Close, OpenBrace, CloseBrace, Semicolon, IsHead, sign_text, Spells, is_double_quote}
use Rattle.ic_laws.specs.declared.dialect.WordKind.TheVariants as kinds
use Rattle.ic_laws.specs.declared.tree.BinarySign.{BinarySign}
use Rattle.ic_laws.specs.declared.tree.BinarySign.TheVariants as signs
use Rattle.ic_laws.specs.declared.tree.Error.{Error}
use Rattle.ic_laws.specs.declared.tree.Error.TheVariants as errors
use Rattle.ic_laws.specs.NextToken.{all_errors, bare_of, head_token, look_up, numbered, separators, sign_table, unquoted, word_of}
use Rattle.ic_laws.proofs.tokens.Characters.{digit_begins_none}
use Rattle.ic_laws.proofs.tokens.Splits.{mapped, none_some}
use Rattle.ic_laws.proofs.tokens.Quoted.{doubled, doubled_read, reads_doubled}
use Rattle.ic_laws.proofs.tokens.Words.{numbered_sound, word_sound, word_is_boolean, word_is_word, word_is_head}

-- the decimal separator is a dot or a comma
pub decimal_tells : (d : DialectMeaning) (n : IsLawful d) (c : ℕ) → (c == 46) ≡ false → (c == 44) ≡ false → (c == d.decimal) ≡ false
decimal_tells d n c dot comma = elim n.separators [ inl s ↦ rw (s.1) dot | inr s ↦ rw (s.1) comma ]

-- Signs.
sign_sound : (d : DialectMeaning) (front rest : List ℕ) (table : List (List ℕ × Token)) (v : Token) → AllByRecursion (λ (e : List ℕ × Token). Spells d e.1 e.0 rest) table → look_up table front ≡ Some v → Spells d v front rest
sign_sound d front rest [] v all e = absurd (cc)
sign_sound d front rest (x ∷ xs) v all e =
    elim (cases_Bool (bytes_eq x.0 front)) [
      | inl p ↦ let some : ◌≡◌ {A = Option Token} (Some x.1) (Some v) = rw p at e in
          let same : x.1 ≡ v = cc in
          let Front : List ℕ → Type 0 = λ f. Spells d x.1 f rest in
          let Wanted : Token → Type 0 = λ t. Spells d t front rest in
          subst Wanted same (subst Front ((bytes_eq-Decides x.0 front).0 p) all.0)
      | inr p ↦ let more : look_up xs front ≡ Some v = rw p at e in sign_sound d front rest xs v all.1 more
    ]

separators_spelled : (d : DialectMeaning) (rest : List ℕ) → AllByRecursion (λ (e : List ℕ × Token). Spells d e.1 e.0 rest) (separators d.list)
separators_spelled d rest =
    elim (eqb_tells d.list 59) [
      | inl e ↦ rw (e.0) (ap (λ x. x ∷ []) (sym e.1), tt)
      | inr e ↦ rw (e.0) (refl, ((e.1, refl), tt))
    ]

table_spelled : (d : DialectMeaning) (rest : List ℕ) → AllByRecursion (λ (e : List ℕ × Token). Spells d e.1 e.0 rest) (sign_table d.list)
table_spelled d rest = (refl, (refl, (refl, (refl, (refl, (refl, (refl, (refl, (refl, (refl, (refl, (refl, (refl, (refl, (refl, (refl, (refl, (refl, (refl, separators_spelled d rest)))))))))))))))))))

-- Numbers.
pub number_sound : (d : DialectMeaning) (front rest : List ℕ) (v : Token) → option_map (λ units. Num (pos units)) (unsigned_amount d.decimal front) ≡ Some v → Spells d v front rest
number_sound d front rest v e =
    let p = mapped (λ (units : ℕ). Num (pos units)) (unsigned_amount d.decimal front) v e in
    let Wanted : Token → Type 0 = λ t. Spells d t front rest in
    subst Wanted p.2 (ap (option_map pos) p.1)

number_begins : (separator c : ℕ) (cs : List ℕ) → is_digit c ≡ false → (c == separator) ≡ false → unsigned_amount separator (c ∷ cs) ≡ None
number_begins separator c cs h k = rw (h, k) refl

-- Texts.
string_sound : (d : DialectMeaning) (cs rest : List ℕ) (v : Token) → (if first_is is_double_quote rest then None else option_map Str (unquoted false cs)) ≡ Some v → Spells d v (34 ∷ cs) rest
string_sound d cs rest v e =
    elim (cases_Bool (first_is is_double_quote rest)) [
      | inl p ↦ let no : ◌≡◌ {A = Option Token} None (Some v) = rw p at e in absurd (none_some v no)
      | inr p ↦ let more : option_map Str (unquoted false cs) ≡ Some v = rw p at e in
          let q = mapped Str (unquoted false cs) v more in
          let Wanted : Token → Type 0 = λ t. Spells d t (34 ∷ cs) rest in
          subst Wanted q.2 (ap (λ t. 34 ∷ t) (doubled_read false cs q.0 q.1), p)
    ]

-- Errors.
pub error_read : (d : DialectMeaning) (front rest : List ℕ) (found : Option ℕ) (v : Token) → d.find kinds.Error front ≡ found → option_and_then (λ n. option_map Err (numbered error_number all_errors n)) found ≡ Some v → Spells d v front rest
error_read d front rest None v e f = absurd (cc)
error_read d front rest (Some n) v e f =
    let p = mapped Err (numbered error_number all_errors n) v f in
    let Wanted : Token → Type 0 = λ t. Spells d t front rest in
    subst Wanted p.2 (e ∙ ap (λ m. Some m) (sym (numbered_sound error_number all_errors n p.0 p.1)))

pub error_numbered : (e : Error) → numbered error_number all_errors (error_number e) ≡ Some e
error_numbered errors.REF = refl
error_numbered errors.NAME = refl
error_numbered errors.VALUE = refl
error_numbered errors.DIV = refl
error_numbered errors.NA = refl
error_numbered errors.NUM = refl
error_numbered errors.NIMPL = refl
error_numbered errors.SPILL = refl
error_numbered errors.CALC = refl
error_numbered errors.CIRC = refl
error_numbered errors.ERROR = refl
error_numbered errors.NULL = refl

pub bare_sound : (d : DialectMeaning) (front rest : List ℕ) (v : Token) → bare_of d front rest ≡ Some v → Spells d v front rest
unfolding bare_of
bare_sound d [] rest v e = absurd (none_some v e)
bare_sound d (c ∷ cs) rest v e =
    elim (cases_Bool (begins_word c)) [
      | inl p ↦ let more : word_of d (c ∷ cs) rest ≡ Some v = rw p at e in word_sound d (c ∷ cs) rest v p more
      | inr p ↦ elim (cases_Bool (is_digit c || c == d.decimal)) [
        | inl q ↦ let more : option_map (λ units. Num (pos units)) (unsigned_amount d.decimal (c ∷ cs)) ≡ Some v = rw (p, q) at e in number_sound d (c ∷ cs) rest v more
        | inr q ↦ elim (eqb_tells c 34) [
          | inl r ↦ let more : (if first_is is_double_quote rest then None else option_map Str (unquoted false cs)) ≡ Some v = rw (p, q, r.0) at e in
              let Wanted : ℕ → Type 0 = λ x. Spells d v (x ∷ cs) rest in
              subst Wanted (sym r.1) (string_sound d cs rest v more)
          | inr r ↦ elim (cases_Bool (c == 35 && not (bytes_eq cs []))) [
            | inl s ↦ let more : option_and_then (λ n. option_map Err (numbered error_number all_errors n)) (d.find kinds.Error (c ∷ cs)) ≡ Some v = rw (p, q, r.0, s) at e in
                error_read d (c ∷ cs) rest (d.find kinds.Error (c ∷ cs)) v refl more
            | inr s ↦ let more : look_up (sign_table d.list) (c ∷ cs) ≡ Some v = rw (p, q, r.0, s) at e in
                sign_sound d (c ∷ cs) rest (sign_table d.list) v (table_spelled d rest) more
          ]
        ]
      ]
    ]

-- What is spelled is read: by the branch that the first character chooses.
pub word_branch : (d : DialectMeaning) (front rest : List ℕ) → first_is begins_word front ≡ true → bare_of d front rest ≡ word_of d front rest
unfolding bare_of
word_branch d [] rest h = absurd (cc)
word_branch d (c ∷ cs) rest h = rw h refl

decimal_begins_none : (d : DialectMeaning) (n : IsLawful d) → begins_word d.decimal ≡ false
unfolding ucd_derived
decimal_begins_none d n = elim n.separators [ inl s ↦ rw (s.1) refl | inr s ↦ rw (s.1) refl ]

number_begins_none : (d : DialectMeaning) (n : IsLawful d) (c : ℕ) → (is_digit c || c == d.decimal) ≡ true → begins_word c ≡ false
number_begins_none d n c h =
    elim (cases_Bool (is_digit c)) [
      | inl p ↦ digit_begins_none c p
      | inr p ↦ let same : (c == d.decimal) ≡ true = rw p at h in ap begins_word (eqb-true c d.decimal same) ∙ decimal_begins_none d n
    ]

number_branch : (d : DialectMeaning) (n : IsLawful d) (c : ℕ) (cs rest : List ℕ) → (is_digit c || c == d.decimal) ≡ true → bare_of d (c ∷ cs) rest ≡ option_map (λ units. Num (pos units)) (unsigned_amount d.decimal (c ∷ cs))
unfolding bare_of
number_branch d n c cs rest h = rw (number_begins_none d n c h, h) refl

pub quote_branch : (d : DialectMeaning) (n : IsLawful d) (cs rest : List ℕ) → bare_of d (34 ∷ cs) rest ≡ (if first_is is_double_quote rest then None else option_map Str (unquoted false cs))
unfolding bare_of ucd_derived
quote_branch d n cs rest = rw (decimal_tells d n 34 refl refl) refl

hash_branch : (d : DialectMeaning) (n : IsLawful d) (c : ℕ) (cs rest : List ℕ) → bare_of d (35 ∷ c ∷ cs) rest ≡ option_and_then (λ n. option_map Err (numbered error_number all_errors n)) (d.find kinds.Error (35 ∷ c ∷ cs))
unfolding bare_of ucd_derived
hash_branch d n c cs rest = rw (decimal_tells d n 35 refl refl) refl

-- by each token
number_read : (d : DialectMeaning) (n : IsLawful d) (front rest : List ℕ) (units : ℤ) → Spells d (Num units) front rest → bare_of d front rest ≡ Some (Num units)
number_read d n [] rest units s = absurd (cc)
number_read d n (c ∷ cs) rest units s =
    elim (cases_Bool (is_digit c || c == d.decimal)) [
      | inl p ↦ let q = mapped pos (unsigned_amount d.decimal (c ∷ cs)) units s in
          number_branch d n c cs rest p ∙ ap (option_map (λ u. Num (pos u))) q.1 ∙ ap (λ u. Some (Num u)) q.2
      | inr p ↦ let parts = or_parts (is_digit c) (c == d.decimal) p in
          let none : unsigned_amount d.decimal (c ∷ cs) ≡ None = number_begins d.decimal c cs parts.0 parts.1 in
          let no : ◌≡◌ {A = Option ℤ} None (Some units) = ap (option_map pos) (sym none) ∙ s in
          absurd (none_some units no)
    ]

string_read : (d : DialectMeaning) (n : IsLawful d) (front rest text : List ℕ) → Spells d (Str text) front rest → bare_of d front rest ≡ Some (Str text)
string_read d n front rest text s =
    ap (λ f. bare_of d f rest) s.0 ∙ quote_branch d n (doubled text ++ 34 ∷ []) rest ∙ rw (s.1, reads_doubled text) refl

error_reads : (d : DialectMeaning) (n : IsLawful d) (front rest : List ℕ) (e : Error) → Spells d (Err e) front rest → bare_of d front rest ≡ Some (Err e)
error_reads d n [] rest e s = let no = n.error_shape [] (error_number e) s in absurd (cc)
error_reads d n (c ∷ []) rest e s = let no = n.error_shape (c ∷ []) (error_number e) s in absurd (cc)
error_reads d n (c ∷ x ∷ cs) rest e s =
    let shape = n.error_shape (c ∷ x ∷ cs) (error_number e) s in
    let parts = and_parts (c == 35) (not (is_sign x)) (and_parts (c == 35 && not (is_sign x)) (not (is_blank x)) shape).0 in
    let is : c ≡ 35 = eqb-true c 35 parts.0 in
    let found : d.find kinds.Error (35 ∷ x ∷ cs) ≡ Some (error_number e) = ap (λ y. d.find kinds.Error (y ∷ x ∷ cs)) (sym is) ∙ s in
    ap (λ y. bare_of d (y ∷ x ∷ cs) rest) is ∙ hash_branch d n x cs rest ∙ rw found (ap (option_map Err) (error_numbered e))

sign_read : (d : DialectMeaning) (n : IsLawful d) (front rest : List ℕ) (sign : BinarySign) → front ≡ sign_text sign → bare_of d front rest ≡ Some (Operator sign)
unfolding bare_of ucd_derived
sign_read d n front rest signs.Equal s = ap (λ f. bare_of d f rest) s ∙ rw (decimal_tells d n 61 refl refl) refl
sign_read d n front rest signs.Unequal s = ap (λ f. bare_of d f rest) s ∙ rw (decimal_tells d n 60 refl refl) refl
sign_read d n front rest signs.Less s = ap (λ f. bare_of d f rest) s ∙ rw (decimal_tells d n 60 refl refl) refl
sign_read d n front rest signs.Greater s = ap (λ f. bare_of d f rest) s ∙ rw (decimal_tells d n 62 refl refl) refl
sign_read d n front rest signs.AtMost s = ap (λ f. bare_of d f rest) s ∙ rw (decimal_tells d n 60 refl refl) refl
sign_read d n front rest signs.AtLeast s = ap (λ f. bare_of d f rest) s ∙ rw (decimal_tells d n 62 refl refl) refl
sign_read d n front rest signs.Join s = ap (λ f. bare_of d f rest) s ∙ rw (decimal_tells d n 38 refl refl) refl
sign_read d n front rest signs.Plus s = ap (λ f. bare_of d f rest) s ∙ rw (decimal_tells d n 43 refl refl) refl
sign_read d n front rest signs.Minus s = ap (λ f. bare_of d f rest) s ∙ rw (decimal_tells d n 45 refl refl) refl
sign_read d n front rest signs.Times s = ap (λ f. bare_of d f rest) s ∙ rw (decimal_tells d n 42 refl refl) refl
sign_read d n front rest signs.Over s = ap (λ f. bare_of d f rest) s ∙ rw (decimal_tells d n 47 refl refl) refl
sign_read d n front rest signs.Power s = ap (λ f. bare_of d f rest) s ∙ rw (decimal_tells d n 94 refl refl) refl

-- one of the other signs, by its character
other_read : (d : DialectMeaning) (n : IsLawful d) (rest : List ℕ) → AllByRecursion (λ (e : List ℕ × Token). bare_of d e.0 rest ≡ Some e.1) ((codes "@", At) ∷ (codes "%", Percent) ∷ (codes "#", Hash) ∷ (codes "(", Open) ∷ (codes ")", Close) ∷ (codes "{", OpenBrace) ∷ (codes "}", CloseBrace) ∷ [])
unfolding bare_of ucd_derived
other_read d n rest = (rw (decimal_tells d n 64 refl refl) refl, (rw (decimal_tells d n 37 refl refl) refl, (rw (decimal_tells d n 35 refl refl) refl, (rw (decimal_tells d n 40 refl refl) refl, (rw (decimal_tells d n 41 refl refl) refl, (rw (decimal_tells d n 123 refl refl) refl, (rw (decimal_tells d n 125 refl refl) refl, tt)))))))

separator_read : (d : DialectMeaning) (n : IsLawful d) (rest : List ℕ) → bare_of d (d.list ∷ []) rest ≡ Some Separator
unfolding bare_of ucd_derived
separator_read d n rest = elim n.separators [ inl s ↦ rw (s.0, s.1) refl | inr s ↦ rw (s.0, s.1) refl ]

semicolon_read : (d : DialectMeaning) (n : IsLawful d) (rest : List ℕ) → d.list ≢ 59 → bare_of d (codes ";") rest ≡ Some Semicolon
unfolding bare_of ucd_derived
semicolon_read d n rest other = elim n.separators [ inl s ↦ rw (s.0, s.1) refl | inr s ↦ absurd (other s.0) ]

pub first_front : (p : ℕ → Bool) (front rest : List ℕ) → first_is p front ≡ true → first_is p (front ++ rest) ≡ true
first_front p [] rest h = absurd (cc)
first_front p (c ∷ cs) rest h = h

head_branch : (d : DialectMeaning) (front rest name : List ℕ) → IsHead name front → bare_of d front rest ≡ head_token name (d.find kinds.Function name)
head_branch d front rest name is =
    word_branch d front rest (ap (first_is begins_word) (is.whole ∙ append_assoc name is.blanks (40 ∷ [])) ∙ first_front begins_word name (is.blanks ++ 40 ∷ []) is.run.0)
    ∙ word_is_head d front rest name is

pub bare_complete : (d : DialectMeaning) (n : IsLawful d) (front rest : List ℕ) (v : Token) → is_reference v ≡ false → is_local v ≡ false → Spells d v front rest → bare_of d front rest ≡ Some v
bare_complete d n front rest (Num units) h l s = number_read d n front rest units s
bare_complete d n front rest (Str text) h l s = string_read d n front rest text s
bare_complete d n front rest (Boolean value) h l s = word_branch d front rest s.0.0.0 ∙ word_is_boolean d front rest value s
bare_complete d n front rest (Err e) h l s = error_reads d n front rest e s
bare_complete d n front rest (Ref r) h l s = absurd (cc)
bare_complete d n front rest (Local sheet word) h l s = absurd (cc)
bare_complete d n front rest (Word text) h l s = word_branch d front rest s.1.0.0 ∙ word_is_word d front rest text s
bare_complete d n front rest (FunHead number) h l s = head_branch d front rest s.0 s.1 ∙ ap (head_token s.0) s.2
bare_complete d n front rest (NameHead name) h l s = head_branch d front rest name s.0 ∙ rw (s.2, s.1) refl
bare_complete d n front rest Separator h l s = ap (λ f. bare_of d f rest) s ∙ separator_read d n rest
bare_complete d n front rest (Operator sign) h l s = sign_read d n front rest sign s
bare_complete d n front rest At h l s = ap (λ f. bare_of d f rest) s ∙ (other_read d n rest).0
bare_complete d n front rest Percent h l s = ap (λ f. bare_of d f rest) s ∙ (other_read d n rest).1.0
bare_complete d n front rest Hash h l s = ap (λ f. bare_of d f rest) s ∙ (other_read d n rest).1.1.0
bare_complete d n front rest Open h l s = ap (λ f. bare_of d f rest) s ∙ (other_read d n rest).1.1.1.0
bare_complete d n front rest Close h l s = ap (λ f. bare_of d f rest) s ∙ (other_read d n rest).1.1.1.1.0
bare_complete d n front rest OpenBrace h l s = ap (λ f. bare_of d f rest) s ∙ (other_read d n rest).1.1.1.1.1.0
bare_complete d n front rest CloseBrace h l s = ap (λ f. bare_of d f rest) s ∙ (other_read d n rest).1.1.1.1.1.1.0
bare_complete d n front rest Semicolon h l s = ap (λ f. bare_of d f rest) s.1 ∙ semicolon_read d n rest s.0
