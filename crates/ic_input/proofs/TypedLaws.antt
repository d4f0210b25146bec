-- What the function of typed texts answers is in the relation, and what is in the relation it answers.
use Rattle.std.proofs.Common.{◌≡◌, ◌≢◌, ◌↔◌, ℕ, zero, suc, ℤ, ◌<◌, List, [], ◌∷◌, Bool, true, false, ◌==◌, ◌⊎◌, length, Option, Some, None, option_map, refl, sym, ap, ap₂, subst, ◌∙◌, inl, inr, arith}
use Rattle.std.specs.Option.{option_or}
use Rattle.std.proofs.lemmas.Bool.{cases_Bool, eq-eqb, eqb-true, true≢false}
use Rattle.ic_laws.specs.Character.{equals, minus, quote}
use Rattle.ic_laws.specs.Dialect.{boolean_number, error_number}
use Rattle.ic_laws.specs.Name.{agrees}
use Rattle.ic_laws.specs.declared.tree.Error.{Error}
use Rattle.ic_laws.specs.declared.tree.Error.TheVariants as errors
use Rattle.ic_tables.specs.Words.{boolean_words, error_words, first_agreeing}
use Rattle.ic_tables.specs.declared.language.Language.{Language}
use Rattle.ic_tables.specs.declared.locale.Locale.{Locale}
use Rattle.ic_input.specs.Code.{code_text}
use Rattle.ic_input.specs.Convention.{is_nothing, is_sign, plus, short_date}
use Rattle.ic_input.specs.Date.{IsTypedDate, iso_date, iso_number, short_number}
use Rattle.ic_input.specs.Number.{IsUnsigned, unsigned_number}
use Rattle.ic_input.specs.Typed.{IsBare, IsFormula, IsNoNumber, IsNumber, IsTyped, amount_of_day, as_boolean, as_date, as_error, as_short_date, as_signed, as_unsigned, as_word, boolean_word, error_at, error_in, error_word, formula_of, sign_of, typed, typed_from, typed_unsigned, unless_number, word_of}
use Rattle.ic_input.specs.declared.input.Typed.{Typed}
use Rattle.ic_input.specs.declared.input.Typed.TheVariants as kinds
use Rattle.ic_input.specs.declared.number.Number.{Number}
use Rattle.ic_input.proofs.DateLaws.{IsRead, date_complete, iso_sound, short_sound}
use Rattle.ic_input.proofs.LocaleLemmas.{nothing-is}
use Rattle.ic_input.proofs.NumberComplete.{unsigned_complete}
use Rattle.ic_input.proofs.NumberLaws.{unsigned_sound}
use Rattle.ic_input.proofs.TypedSteps.{TellsTexts, date_first, date_no_number, equals_mark, mark_no_date, mark_no_number, minus_mark, nothing_no_number, plus_mark, quote_mark, IsMark}

-- where the function answers nothing, no number is in the relation
no_unsigned : (l : Locale) → TellsTexts l → (text : List ℕ) → unsigned_number l text ≡ None → (n : Number) → ¬ (IsUnsigned l text n)
no_unsigned l tells text e n h = let some = unsigned_complete l tells.signs text n h in cc

-- and where no number is in the relation, it answers nothing
none_unsigned : (l : Locale) (text : List ℕ) → ((n : Number) → ¬ (IsUnsigned l text n)) → unsigned_number l text ≡ None
none_unsigned l text h = go (unsigned_number l text) refl
  where
    go : (o : Option Number) → unsigned_number l text ≡ o → o ≡ None
    go None e = refl
    go (Some n) e = absurd (h n (unsigned_sound l text n e))

sign_cases : (c : ℕ) → is_sign c ≡ true → (c ≡ plus) ⊎ (c ≡ minus)
sign_cases c h =
    elim (cases_Bool (c == plus)) [
      | inl e ↦ inl (eqb-true c plus e)
      | inr e ↦ let is : (c == minus) ≡ true = rw e at h in inr (eqb-true c minus is)
    ]

something : (text : List ℕ) → text ≢ [] → is_nothing text ≡ false
something [] h = absurd (h refl)
something (c ∷ cs) h = refl

nothing_not : (text : List ℕ) → is_nothing text ≡ false → text ≢ []
nothing_not [] h e = true≢false h
nothing_not (c ∷ cs) h e = cc

-- no sign with a number after it begins the text
abbrev IsUnsignedText : Locale → List ℕ → Type 0
IsUnsignedText l text = (c : ℕ) (rest : List ℕ) (n : Number) → is_sign c ≡ true → text ≡ c ∷ rest → ¬ (IsUnsigned l rest n)

-- what no function answers is no number
no_number : (l : Locale) → TellsTexts l → (text : List ℕ) → IsUnsignedText l text → unsigned_number l text ≡ None → iso_number text ≡ None → short_number (short_date l) text ≡ None → IsNoNumber l text
no_number l tells text u e i s v code (inl h) = no_unsigned l tells text e h.0 h.1.0
no_number l tells text u e i s v code (inr (inl h)) = u plus h.0 h.1.1.0 refl h.1.0 h.1.1.1.0
no_number l tells text u e i s v code (inr (inr (inl h))) = u minus h.0 h.1.1.0 refl h.1.0 h.1.1.1.0
no_number l tells text u e i s v code (inr (inr (inr h))) = go (date_complete l text h.0 h.1.0 tells.short h.1.1.0)
  where
    go : IsRead l text h.0 h.1.0 → ⊥
    go (inl d) = let some = d.1 in cc
    go (inr d) = let some = d.2 in cc

-- the word of a number below two
first_below : (words : List (List ℕ)) (text : List ℕ) (k : ℕ) → first_agreeing words text ≡ Some k → k < length words
first_below [] text k h = absurd (cc)
first_below (w ∷ ws) text k h =
    elim (cases_Bool (agrees w text)) [
      | inl e ↦ let some : Some 0 ≡ Some k = rw e at h in let same : 0 ≡ k = cc in omega arith
      | inr e ↦ later (first_agreeing ws text) (first_below ws text) refl (rw e at h)
    ]
  where
    later : (o : Option ℕ) → ((m : ℕ) → first_agreeing ws text ≡ Some m → m < length ws) → first_agreeing ws text ≡ o → option_map (λ n. suc n) o ≡ Some k → k < suc (length ws)
    later None below g j = absurd (cc)
    later (Some m) below g j = let same : suc m ≡ k = cc in let under = below m g in omega arith

word_below : (local english : List (List ℕ)) (text : List ℕ) (k size : ℕ) → length local ≡ size → length english ≡ size → word_of local english text ≡ Some k → k < size
word_below local english text k size a b h = go (first_agreeing local text) refl h
  where
    go : (o : Option ℕ) → first_agreeing local text ≡ o → option_or o (first_agreeing english text) ≡ Some k → k < size
    go None e j = subst (λ n. k < n) b (first_below english text k j)
    go (Some m) e j = let same : m ≡ k = cc in subst (λ n. k < n) a (first_below local text k (e ∙ ap Some same))

boolean_is : (k : ℕ) → k < 2 → boolean_number (k == 0) ≡ k
boolean_is zero h = refl
boolean_is (suc zero) h = refl
boolean_is (suc (suc k)) h = absurd (omega arith)

error_is : (k : ℕ) → k < 12 → (e : Error) × ((error_at k ≡ Some e) × (error_number e ≡ k))
error_is zero h = (errors.REF, (refl, refl))
error_is (suc zero) h = (errors.NAME, (refl, refl))
error_is (suc (suc zero)) h = (errors.VALUE, (refl, refl))
error_is (suc (suc (suc zero))) h = (errors.DIV, (refl, refl))
error_is (suc (suc (suc (suc zero)))) h = (errors.NA, (refl, refl))
error_is (suc (suc (suc (suc (suc zero))))) h = (errors.NUM, (refl, refl))
error_is (suc (suc (suc (suc (suc (suc zero)))))) h = (errors.NIMPL, (refl, refl))
error_is (suc (suc (suc (suc (suc (suc (suc zero))))))) h = (errors.SPILL, (refl, refl))
error_is (suc (suc (suc (suc (suc (suc (suc (suc zero)))))))) h = (errors.CALC, (refl, refl))
error_is (suc (suc (suc (suc (suc (suc (suc (suc (suc zero))))))))) h = (errors.CIRC, (refl, refl))
error_is (suc (suc (suc (suc (suc (suc (suc (suc (suc (suc zero)))))))))) h = (errors.ERROR, (refl, refl))
error_is (suc (suc (suc (suc (suc (suc (suc (suc (suc (suc (suc zero))))))))))) h = (errors.NULL, (refl, refl))
error_is (suc (suc (suc (suc (suc (suc (suc (suc (suc (suc (suc (suc k)))))))))))) h = absurd (omega arith)

error_back : (e : Error) → error_at (error_number e) ≡ Some e
error_back errors.REF = refl
error_back errors.NAME = refl
error_back errors.VALUE = refl
error_back errors.DIV = refl
error_back errors.NA = refl
error_back errors.NUM = refl
error_back errors.NIMPL = refl
error_back errors.SPILL = refl
error_back errors.CALC = refl
error_back errors.CIRC = refl
error_back errors.ERROR = refl
error_back errors.NULL = refl

tail_of : {c d : ℕ} {cs ds : List ℕ} → c ∷ cs ≡ d ∷ ds → cs ≡ ds
tail_of e = cc

-- ---- what the function answers is in the relation

module _ (l : Locale) (tells : TellsTexts l) (language english : Language) where
  word_sound : (text : List ℕ) → IsBare l text → IsNoNumber l text → IsTyped l language english text (as_word language english text)
  unfolding as_word
  word_sound text bare unnumbered = boolean (boolean_word language english text) refl
    where
      error : (o : Option ℕ) → boolean_word language english text ≡ None → error_word language english text ≡ o → IsTyped l language english text (as_error text (error_in o))
      error None b e = (bare, unnumbered, b, e, refl)
      error (Some k) b e =
          let found = error_is k (word_below (error_words language) (error_words english) text k 12 refl refl e) in
          rw found.1.0 (bare, unnumbered, b, e ∙ ap Some (sym found.1.1))

      boolean : (o : Option ℕ) → boolean_word language english text ≡ o → IsTyped l language english text (as_boolean language english text o)
      boolean (Some k) e = (bare, unnumbered, e ∙ ap Some (sym (boolean_is k (word_below (boolean_words language) (boolean_words english) text k 2 refl refl e))))
      boolean None e = error (error_word language english text) e refl

  -- a text that no sign with a number begins
  plain_sound : (text : List ℕ) → IsBare l text → IsUnsignedText l text → IsTyped l language english text (typed_unsigned l language english text)
  plain_sound text bare u = unsigned (unsigned_number l text) refl
    where
      short : (o : Option ℕ) → unsigned_number l text ≡ None → iso_number text ≡ None → short_number (short_date l) text ≡ o → IsTyped l language english text (as_short_date l language english text o)
      short (Some n) e i s = (bare, inr (inr (inr (n, (short_date l, (short_sound l text n tells.short s, refl, refl))))))
      short None e i s = word_sound text bare (no_number l tells text u e i s)

      date : (o : Option ℕ) → unsigned_number l text ≡ None → iso_number text ≡ o → IsTyped l language english text (as_date l language english text o)
      date (Some n) e i = (bare, inr (inr (inr (n, (iso_date, (iso_sound l text n i, refl, refl))))))
      date None e i = short (short_number (short_date l) text) e i refl

      unsigned : (o : Option Number) → unsigned_number l text ≡ o → IsTyped l language english text (as_unsigned l language english text o)
      unsigned (Some n) e = (bare, inl (n, (unsigned_sound l text n e, refl, refl)))
      unsigned None e = date (iso_number text) e refl

  -- a text that is one character is no formula, and no sign with a number begins it
  one_bare : (c : ℕ) → (c == quote) ≡ false → IsBare l (c ∷ [])
  one_bare c q = record { some = λ e. cc; unquoted = q; no_formula = never }
    where
      never : (formula : List ℕ) → ¬ (IsFormula l (c ∷ []) formula)
      never formula (inl h) = let empty : formula ≡ [] = sym (tail_of h.0) in h.1 empty
      never formula (inr h) = let empty : h.1.1.0 ≡ [] = sym (tail_of h.1.1.1.0) in h.1.1.1.2 empty

  pub other_bare : (c : ℕ) (rest : List ℕ) → (c == quote) ≡ false → (c == equals) ≡ false → is_sign c ≡ false → IsBare l (c ∷ rest)
  other_bare c rest q e s = record { some = λ n. cc; unquoted = q; no_formula = never }
    where
      never : (formula : List ℕ) → ¬ (IsFormula l (c ∷ rest) formula)
      never formula (inl h) = let first : c ≡ equals = cc in true≢false (sym (eq-eqb c equals first) ∙ e)
      never formula (inr h) = let first : c ≡ h.1.0 = cc in true≢false (sym h.1.1.1.1 ∙ ap is_sign (sym first) ∙ s)

  sound_from : (c : ℕ) (rest : List ℕ) → (c == quote) ≡ false → IsTyped l language english (c ∷ rest) (typed_from l language english c rest)
  sound_from c rest q =
      elim (cases_Bool (is_nothing rest)) [
        | inl n ↦ rw n (subst (λ r. IsTyped l language english (c ∷ r) (typed_unsigned l language english (c ∷ r))) (sym (nothing-is rest n)) (plain_sound (c ∷ []) (one_bare c q) one_unsigned))
        | inr n ↦ elim (cases_Bool (c == equals)) [
          | inl e ↦ rw (n, e) (inl (ap (λ d. d ∷ rest) (eqb-true c equals e), nothing_not rest n))
          | inr e ↦ elim (cases_Bool (is_sign c)) [
            | inr s ↦ rw (n, e, s) (plain_sound (c ∷ rest) (other_bare c rest q e s) (other_unsigned s))
            | inl s ↦ rw (n, e, s) (signed n e s (unsigned_number l rest) refl)
          ]
        ]
      ]
    where
      one_unsigned : IsUnsignedText l (c ∷ [])
      one_unsigned d r m s e h = nothing_no_number l tells.signs m (subst (λ t. IsUnsigned l t m) (sym (tail_of e)) h)

      other_unsigned : is_sign c ≡ false → IsUnsignedText l (c ∷ rest)
      other_unsigned s d r m t e h = let first : c ≡ d = cc in true≢false (sym t ∙ ap is_sign (sym first) ∙ s)

      number_bare : (m : Number) → is_nothing rest ≡ false → (c == equals) ≡ false → unsigned_number l rest ≡ Some m → IsBare l (c ∷ rest)
      number_bare m n e u = record { some = λ z. cc; unquoted = q; no_formula = never }
        where
          never : (formula : List ℕ) → ¬ (IsFormula l (c ∷ rest) formula)
          never formula (inl h) = let first : c ≡ equals = cc in true≢false (sym (eq-eqb c equals first) ∙ e)
          never formula (inr h) = h.1.1.1.3 m (subst (λ t. IsUnsigned l t m) (tail_of h.1.1.1.0) (unsigned_sound l rest m u))

      signed : is_nothing rest ≡ false → (c == equals) ≡ false → is_sign c ≡ true → (o : Option Number) → unsigned_number l rest ≡ o → IsTyped l language english (c ∷ rest) (as_signed (c ∷ rest) (sign_of c) o)
      signed n e s None u = inr (refl, (c, (rest, (refl, s, nothing_not rest n, no_unsigned l tells rest u))))
      signed n e s (Some m) u = (number_bare m n e u, number (sign_cases c s))
        where
          number : (c ≡ plus) ⊎ (c ≡ minus) → IsNumber l (c ∷ rest) (sign_of c m.amount) (option_map code_text m.code)
          number (inl p) = rw p (inr (inl (rest, (refl, (m, (unsigned_sound l rest m u, refl, refl))))))
          number (inr p) = rw p (inr (inr (inl (rest, (refl, (m, (unsigned_sound l rest m u, refl, refl)))))))

  typed_sound : (text : List ℕ) → IsTyped l language english text (typed l language english text)
  unfolding typed
  typed_sound [] = refl
  typed_sound (c ∷ rest) =
      elim (cases_Bool (c == quote)) [
        | inl e ↦ rw e (ap (λ d. d ∷ rest) (eqb-true c quote e))
        | inr e ↦ rw e (sound_from c rest e)
      ]

  -- ---- what is in the relation the function answers

  plain_word : (text : List ℕ) → IsNoNumber l text → typed_unsigned l language english text ≡ as_word language english text
  plain_word text unnumbered = unsigned (unsigned_number l text) refl
    where
      short : (o : Option ℕ) → short_number (short_date l) text ≡ o → as_short_date l language english text o ≡ as_word language english text
      short None s = refl
      short (Some n) s = absurd (unnumbered (amount_of_day n) (Some (short_date l)) (inr (inr (inr (n, (short_date l, (short_sound l text n tells.short s, refl, refl)))))))

      date : (o : Option ℕ) → iso_number text ≡ o → as_date l language english text o ≡ as_word language english text
      date None i = short (short_number (short_date l) text) refl
      date (Some n) i = absurd (unnumbered (amount_of_day n) (Some iso_date) (inr (inr (inr (n, (iso_date, (iso_sound l text n i, refl, refl)))))))

      unsigned : (o : Option Number) → unsigned_number l text ≡ o → as_unsigned l language english text o ≡ as_word language english text
      unsigned None e = date (iso_number text) refl
      unsigned (Some n) e = absurd (unnumbered n.amount (option_map code_text n.code) (inl (n, (unsigned_sound l text n e, refl, refl))))

  -- where neither `=` nor a sign begins the text
  path : (c : ℕ) (rest : List ℕ) → (c == equals) ≡ false → is_sign c ≡ false → typed_from l language english c rest ≡ typed_unsigned l language english (c ∷ rest)
  path c rest e s = elim (cases_Bool (is_nothing rest)) [ inl n ↦ rw n refl | inr n ↦ rw (n, e, s) refl ]

  bare_word : (text : List ℕ) → IsBare l text → IsNoNumber l text → typed l language english text ≡ as_word language english text
  unfolding typed
  bare_word [] bare unnumbered = absurd (bare.some refl)
  bare_word (c ∷ rest) bare unnumbered =
      rw bare.unquoted
      (elim (cases_Bool (is_nothing rest)) [
        | inl n ↦ rw n (plain_word (c ∷ rest) unnumbered)
        | inr n ↦ elim (cases_Bool (c == equals)) [
          | inl e ↦ absurd (bare.no_formula rest (inl (ap (λ d. d ∷ rest) (eqb-true c equals e), nothing_not rest n)))
          | inr e ↦ elim (cases_Bool (is_sign c)) [
            | inr s ↦ rw (n, e, s) (plain_word (c ∷ rest) unnumbered)
            | inl s ↦ absurd (signed n s (unsigned_number l rest) refl)
          ]
        ]
      ])
    where
      signed : is_nothing rest ≡ false → is_sign c ≡ true → (o : Option Number) → unsigned_number l rest ≡ o → ⊥
      signed n s None u = bare.no_formula (c ∷ rest) (inr (refl, (c, (rest, (refl, s, nothing_not rest n, no_unsigned l tells rest u)))))
      signed n s (Some m) u = number (sign_cases c s)
        where
          number : (c ≡ plus) ⊎ (c ≡ minus) → ⊥
          number (inl p) = unnumbered _ _ (inr (inl (rest, (ap (λ d. d ∷ rest) p, (m, (unsigned_sound l rest m u, refl, refl))))))
          number (inr p) = unnumbered _ _ (inr (inr (inl (rest, (ap (λ d. d ∷ rest) p, (m, (unsigned_sound l rest m u, refl, refl)))))))

  -- a text that no mark begins
  no_mark : (c d : ℕ) (P : Type 0) → (c ≡ d → ⊥) → (c == d) ≡ false
  no_mark c d P h = elim (cases_Bool (c == d)) [ inl e ↦ absurd (h (eqb-true c d e)) | inr e ↦ e ]

  unmarked : (c : ℕ) (rest : List ℕ) → ((d : ℕ) → IsMark l d → c ≡ d → ⊥) → typed l language english (c ∷ rest) ≡ typed_unsigned l language english (c ∷ rest)
  unfolding typed
  unmarked c rest h =
      let q = no_mark c quote (Unit {0}) (h quote (quote_mark l)) in
      let e = no_mark c equals (Unit {0}) (h equals (equals_mark l)) in
      let p = no_mark c plus (Unit {0}) (h plus (plus_mark l)) in
      let m = no_mark c minus (Unit {0}) (h minus (minus_mark l)) in
      let s : is_sign c ≡ false = rw (p, m) refl in
      rw q (path c rest e s)

  unsigned_typed : (text : List ℕ) (n : Number) → IsUnsigned l text n → typed l language english text ≡ kinds.Number n.amount (option_map code_text n.code)
  unsigned_typed [] n h = absurd (nothing_no_number l tells.signs n h)
  unsigned_typed (c ∷ rest) n h =
      unmarked c rest (λ d m e. mark_no_number l tells.signs c rest n (subst (IsMark l) (sym e) m) h)
      ∙ ap (as_unsigned l language english (c ∷ rest)) (unsigned_complete l tells.signs (c ∷ rest) n h)

  date_typed : (text : List ℕ) (n : ℕ) (code : List ℕ) → IsTypedDate l text n code → typed l language english text ≡ kinds.Number (amount_of_day n) (Some code)
  date_typed [] n code h = absurd (true≢false (sym (date_first l [] n code h)))
  date_typed (c ∷ rest) n code h =
      unmarked c rest (λ d m e. mark_no_date l c rest n code (subst (IsMark l) (sym e) m) h)
      ∙ ap (as_unsigned l language english (c ∷ rest)) (date_no_number l tells.signs (c ∷ rest) n code h)
      ∙ read (date_complete l (c ∷ rest) n code tells.short h)
    where
      read : IsRead l (c ∷ rest) n code → as_date l language english (c ∷ rest) (iso_number (c ∷ rest)) ≡ kinds.Number (amount_of_day n) (Some code)
      read (inl r) = rw r.1 (ap (λ k. kinds.Number (amount_of_day n) (Some k)) (sym r.0))
      read (inr r) = rw (r.1, r.2) (ap (λ k. kinds.Number (amount_of_day n) (Some k)) (sym r.0))

  sign_typed : (c : ℕ) (rest : List ℕ) (n : Number) → is_sign c ≡ true → (c == quote) ≡ false → (c == equals) ≡ false → IsUnsigned l rest n → typed l language english (c ∷ rest) ≡ kinds.Number (sign_of c n.amount) (option_map code_text n.code)
  unfolding typed
  sign_typed c rest n s q e h =
      let some : is_nothing rest ≡ false = something rest (λ z. nothing_no_number l tells.signs n (subst (λ t. IsUnsigned l t n) z h)) in
      rw (q, some, e, s, unsigned_complete l tells.signs rest n h) refl

  number_typed : (text : List ℕ) (v : ℤ) (code : Option (List ℕ)) → IsNumber l text v code → typed l language english text ≡ kinds.Number v code
  number_typed text v code (inl h) = unsigned_typed text h.0 h.1.0 ∙ ap₂ kinds.Number (sym h.1.1) (sym h.1.2)
  number_typed text v code (inr (inl h)) =
      ap (typed l language english) h.1.0 ∙ sign_typed plus h.0 h.1.1.0 refl refl refl h.1.1.1.0 ∙ ap₂ kinds.Number (sym h.1.1.1.1) (sym h.1.1.1.2)
  number_typed text v code (inr (inr (inl h))) =
      ap (typed l language english) h.1.0 ∙ sign_typed minus h.0 h.1.1.0 refl refl refl h.1.1.1.0 ∙ ap₂ kinds.Number (sym h.1.1.1.1) (sym h.1.1.1.2)
  number_typed text v code (inr (inr (inr h))) = date_typed text h.0 h.1.0 h.1.1.0 ∙ ap₂ kinds.Number (sym h.1.1.1) (sym h.1.1.2)

  formula_typed : (text formula : List ℕ) → IsFormula l text formula → typed l language english text ≡ kinds.Formula formula
  unfolding typed
  formula_typed text formula (inl h) = rw (h.0, something formula h.1) refl
  formula_typed text formula (inr h) =
      let c = h.1.0 in
      let rest = h.1.1.0 in
      let s = h.1.1.1.1 in
      let some = something rest h.1.1.1.2 in
      let none = none_unsigned l rest h.1.1.1.3 in
      let marks = sign_cases c s in
      let q : (c == quote) ≡ false = elim marks [ inl e ↦ rw e refl | inr e ↦ rw e refl ] in
      let e : (c == equals) ≡ false = elim marks [ inl z ↦ rw z refl | inr z ↦ rw z refl ] in
      ap (typed l language english) h.1.1.1.0 ∙ signed c rest q some e s none ∙ ap kinds.Formula (sym h.1.1.1.0 ∙ h.0)
    where
      signed : (c : ℕ) (rest : List ℕ) → (c == quote) ≡ false → is_nothing rest ≡ false → (c == equals) ≡ false → is_sign c ≡ true → unsigned_number l rest ≡ None → typed l language english (c ∷ rest) ≡ kinds.Formula (c ∷ rest)
      signed c rest q some e s none = rw (q, some, e, s, none) refl

  typed_complete : (text : List ℕ) (t : Typed) → IsTyped l language english text t → typed l language english text ≡ t
  unfolding typed as_word
  typed_complete text kinds.Empty h = rw h refl
  typed_complete text (kinds.Quoted quoted) h = rw h refl
  typed_complete text (kinds.Formula formula) h = formula_typed text formula h
  typed_complete text (kinds.Number v code) h = number_typed text v code h.1
  typed_complete text (kinds.Boolean b) h = bare_word text h.0 h.1 ∙ ap (as_boolean language english text) h.2 ∙ ap kinds.Boolean (back b)
    where
      back : (b : Bool) → (boolean_number b == 0) ≡ b
      back true = refl
      back false = refl
  typed_complete text (kinds.Error e) h =
      bare_word text h.0 h.1 ∙ ap (as_boolean language english text) h.2 ∙ ap (λ o. as_error text (error_in o)) h.3 ∙ ap (as_error text) (error_back e)
  typed_complete text (kinds.Text t) h =
      bare_word text h.0 h.1 ∙ ap (as_boolean language english text) h.2 ∙ ap (λ o. as_error text (error_in o)) h.3 ∙ ap kinds.Text (sym h.4)

-- what a text is typed as by the relation is what the function answers
pub typed_exactly : (l : Locale) → TellsTexts l → (language english : Language) (text : List ℕ) (t : Typed) → IsTyped l language english text t ↔ (typed l language english text ≡ t)
typed_exactly l tells language english text t =
    (typed_complete l tells language english text t, λ e. subst (IsTyped l language english text) e (typed_sound l tells language english text))

-- a number is typed as it
pub number_is_typed : (l : Locale) → TellsTexts l → (language english : Language) (text : List ℕ) (v : ℤ) (code : Option (List ℕ)) → IsNumber l text v code → typed l language english text ≡ kinds.Number v code
number_is_typed l tells language english text v code h = number_typed l tells language english text v code h

-- a text has a formula exactly where the function answers it
formula_sound : (l : Locale) → TellsTexts l → (text formula : List ℕ) → formula_of l text ≡ Some formula → IsFormula l text formula
unfolding formula_of
formula_sound l tells [] formula h = absurd (cc)
formula_sound l tells (c ∷ rest) formula h =
    elim (cases_Bool (is_nothing rest)) [
      | inl n ↦ let none : None ≡ Some formula = rw n at h in absurd (cc)
      | inr n ↦ elim (cases_Bool (c == equals)) [
        | inl e ↦
            let some : Some rest ≡ Some formula = rw (n, e) at h in
            let same : rest ≡ formula = cc in
            inl (rw (eqb-true c equals e, same) refl, subst (λ r. r ≢ []) same (nothing_not rest n))
        | inr e ↦ elim (cases_Bool (is_sign c)) [
          | inr s ↦ let none : None ≡ Some formula = rw (n, e, s) at h in absurd (cc)
          | inl s ↦ signed n s (unsigned_number l rest) refl (rw (n, e, s) at h)
        ]
      ]
    ]
  where
    signed : is_nothing rest ≡ false → is_sign c ≡ true → (o : Option Number) → unsigned_number l rest ≡ o → unless_number (c ∷ rest) o ≡ Some formula → IsFormula l (c ∷ rest) formula
    signed n s None u k = let same : c ∷ rest ≡ formula = cc in inr (same, (c, (rest, (refl, s, nothing_not rest n, no_unsigned l tells rest u))))
    signed n s (Some m) u k = absurd (cc)

formula_complete : (l : Locale) (text formula : List ℕ) → IsFormula l text formula → formula_of l text ≡ Some formula
unfolding formula_of
formula_complete l text formula (inl h) = rw (h.0, something formula h.1) refl
formula_complete l text formula (inr h) =
    let c = h.1.0 in
    let rest = h.1.1.0 in
    let s = h.1.1.1.1 in
    let e : (c == equals) ≡ false = elim (sign_cases c s) [ inl z ↦ rw z refl | inr z ↦ rw z refl ] in
    ap (formula_of l) h.1.1.1.0 ∙ signed c rest (something rest h.1.1.1.2) e s (none_unsigned l rest h.1.1.1.3) ∙ ap Some (sym h.1.1.1.0 ∙ h.0)
  where
    signed : (c : ℕ) (rest : List ℕ) → is_nothing rest ≡ false → (c == equals) ≡ false → is_sign c ≡ true → unsigned_number l rest ≡ None → formula_of l (c ∷ rest) ≡ Some (c ∷ rest)
    signed c rest n e s u = rw (n, e, s, u) refl

pub formula_exactly : (l : Locale) → TellsTexts l → (text formula : List ℕ) → IsFormula l text formula ↔ (formula_of l text ≡ Some formula)
formula_exactly l tells text formula = (formula_complete l text formula, formula_sound l tells text formula)
