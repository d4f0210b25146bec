-- The word of a boolean and that of an error value are typed as them; and so are texts, quoted texts and formulas.
use Rattle.std.proofs.Common.{◌≡◌, ◌≢◌, ℕ, List, [], ◌∷◌, Bool, true, false, not, ◌==◌, Option, Some, None, bytes_eq, cond, find, refl, sym, ap, subst, ◌∙◌, inl, inr}
use Rattle.std.specs.List.{list_all, list_any, slice_get}
use Rattle.std.specs.Option.{option_or}
use Rattle.std.proofs.lemmas.Bool.{and_parts, cases_Bool, eq-eqb, eqb-true, not-true, or_parts, true≢false}
use Rattle.std.proofs.lemmas.Slice.Eq.{bytes_eq-Decides}
use Rattle.ucd_derived.proofs.Computing.{ucd_derived}
use Rattle.ic_laws.proofs.FoldLaws.{fixed_first, fold_fixed_first}
use Rattle.ic_laws.proofs.tokens.Characters.{digit_begins_none}
use Rattle.ic_laws.specs.Character.{comma, dollar, dot, equals, hash, minus, quote}
use Rattle.ic_laws.specs.Dialect.{boolean_number, error_number, has_error_shape}
use Rattle.ic_laws.specs.Name.{Agree, fold, is_variable_form}
use Rattle.ic_laws.specs.Scan.{begins_word, first_is, is_digit}
use Rattle.ic_laws.specs.declared.tree.Error.{Error}
use Rattle.ic_tables.proofs.WellFormed.{good_words, language_among}
use Rattle.ic_tables.proofs.WordLemmas.{finds, found_at, passes_at, none_at}
use Rattle.ic_tables.specs.Formats.{begins_boolean, decimal_separator, has_symbol, is_symbol}
use Rattle.ic_tables.specs.Tables.{HasGoodFormats, HasGoodWords, TableSet}
use Rattle.ic_tables.specs.Words.{boolean_words, error_words, first_agreeing, has_boolean_words, has_error_words, no_two_agree, tells_booleans}
use Rattle.ic_tables.specs.declared.language.Language.{Language}
use Rattle.ic_tables.specs.declared.locale.Locale.{Locale}
use Rattle.ic_input.specs.Again.{AreOfTables}
use Rattle.ic_input.specs.Convention.{euro, is_currency, is_sign, plus}
use Rattle.ic_input.specs.Number.{stands_before}
use Rattle.ic_input.specs.Typed.{IsBare, IsNoNumber, IsTyped, typed}
use Rattle.ic_input.specs.declared.input.Typed.TheVariants as kinds
use Rattle.ic_input.proofs.LocaleLemmas.{decimal_cases}
use Rattle.ic_input.proofs.TypedLaws.{other_bare, typed_exactly}
use Rattle.ic_input.proofs.TypedSteps.{date_first, front_no_number, mark_no_currency, tells_texts}

-- What begins no word and no number. ----

-- one that begins a word is none of those that begin none
other_than : (c d : ℕ) → begins_word c ≡ true → begins_word d ≡ false → (c == d) ≡ false
other_than c d word none = elim (cases_Bool (c == d)) [
  | inl e ↦ absurd (true≢false (sym word ∙ ap begins_word (eqb-true c d e) ∙ none))
  | inr e ↦ e
]

-- none of these begins a word
record BeginNone : Type 0 where
  quote : begins_word quote ≡ false
  equals : begins_word equals ≡ false
  plus : begins_word plus ≡ false
  minus : begins_word minus ≡ false
  comma : begins_word comma ≡ false
  dot : begins_word dot ≡ false
  dollar : begins_word dollar ≡ false
  euro : begins_word euro ≡ false
  hash : begins_word hash ≡ false

begin_none : BeginNone
unfolding ucd_derived
begin_none = record { quote = refl; equals = refl; plus = refl; minus = refl; comma = refl; dot = refl; dollar = refl; euro = refl; hash = refl }

no_digit : (c : ℕ) → begins_word c ≡ true → is_digit c ≡ false
no_digit c word = elim (cases_Bool (is_digit c)) [
  | inl e ↦ absurd (true≢false (sym word ∙ digit_begins_none c e))
  | inr e ↦ e
]

-- What a text is that begins with a character which begins no number: no number. ----

-- a character begins neither digits nor a symbol of currency, and isn't a mark of typed texts
record IsPlainFirst (l : Locale) (c : ℕ) : Type 0 where
  before : stands_before (decimal_separator l) c ≡ true
  symbol : (cs : List ℕ) → is_currency l (c ∷ cs) ≡ false
  digit : is_digit c ≡ false
  quote : (c == quote) ≡ false
  equals : (c == equals) ≡ false
  plus : (c == plus) ≡ false
  minus : (c == minus) ≡ false

begins_so : (c d : ℕ) (cs rest : List ℕ) → c ∷ cs ≡ d ∷ rest → (c == d) ≡ false → ⊥
begins_so c d cs rest e apart = let same : c ≡ d = cc in true≢false (sym (eq-eqb c d same) ∙ apart)

no_number : (l : Locale) (c : ℕ) (cs : List ℕ) → IsPlainFirst l c → IsNoNumber l (c ∷ cs)
no_number l c cs m v code (inl h) = front_no_number l c cs h.0 m.before m.symbol h.1.0
no_number l c cs m v code (inr (inl h)) = begins_so c plus cs h.0 h.1.0 m.plus
no_number l c cs m v code (inr (inr (inl h))) = begins_so c minus cs h.0 h.1.0 m.minus
no_number l c cs m v code (inr (inr (inr h))) = true≢false (sym (date_first l (c ∷ cs) h.0 h.1.0 h.1.1.0) ∙ m.digit)

bare : (tables : TableSet) (l : Locale) (language beside : Language) → HasGoodFormats tables l → (c : ℕ) (cs : List ℕ) → IsPlainFirst l c → IsBare l (c ∷ cs)
bare tables l language beside good c cs m =
    let sign : is_sign c ≡ false = rw (m.plus, m.minus) refl in
    other_bare l (tells_texts tables l good) language beside c cs m.quote m.equals sign

-- The front of an error's word. ----

hash_first : (tables : TableSet) (l : Locale) → HasGoodFormats tables l → IsPlainFirst l hash
hash_first tables l good = record {
  before = decimal_cases l (λ d. stands_before d hash ≡ true) refl refl;
  symbol = λ cs. mark_no_currency l (tells_texts tables l good).signs hash cs refl;
  digit = refl;
  quote = refl;
  equals = refl;
  plus = refl;
  minus = refl;
}

-- That of a boolean's word. ----

-- what holds of none of some holds of none that is found among them
none_found : {X : Type 0} (p q : X → Bool) (xs : List X) (x : X) → find q xs ≡ Some x → list_any p xs ≡ false → p x ≡ false
none_found p q [] x h none = absurd (cc)
none_found p q (y ∷ ys) x h none =
    let parts = or_parts (p y) (list_any p ys) none in
    here (q y) h parts.0 (λ e. none_found p q ys x e parts.1)
  where
    here : (b : Bool) → cond b (Some y) (find q ys) ≡ Some x → p y ≡ false → (find q ys ≡ Some x → p x ≡ false) → p x ≡ false
    here true e first others = let same : y ≡ x = cc in subst (λ z. p z ≡ false) same first
    here false e first others = others e

module _ (tables : TableSet) (l : Locale) (language beside : Language) (are : AreOfTables tables l language beside) where
  words : HasGoodWords tables language
  words = good_words tables are.well language (language_among tables are.code language are.found).0

  words_beside : HasGoodWords tables beside
  words_beside = good_words tables are.well beside (language_among tables are.code_beside beside are.found_beside).0

  -- the symbol of the locale's currency begins no boolean word
  symbol_apart : (symbol : List ℕ) → is_symbol tables.languages l.numbers.symbols.group symbol ≡ true → (n c : ℕ) (cs ds : List ℕ) → slice_get (boolean_words language) n ≡ Some (c ∷ cs) → bytes_eq symbol (c ∷ ds) ≡ false
  symbol_apart [] good n c cs ds at = refl
  symbol_apart (d ∷ rest) good n c cs ds at = elim (cases_Bool (bytes_eq (d ∷ rest) (c ∷ ds))) [
    | inr e ↦ e
    | inl e ↦
        let whole : d ∷ rest ≡ c ∷ ds = (bytes_eq-Decides (d ∷ rest) (c ∷ ds)).0 e in
        let same : d ≡ c = cc in
        let none : begins_boolean tables.languages d ≡ false = not-true _ (and_parts (not (begins_boolean tables.languages d)) _ good).0 in
        let none_here : list_any (first_is (λ x. x == d)) (boolean_words language) ≡ false = none_found (λ m. list_any (first_is (λ x. x == d)) (boolean_words m)) (λ m. bytes_eq m.code are.code) tables.languages language are.found none in
        let not_this : (c == d) ≡ false = none_at (first_is (λ x. x == d)) (boolean_words language) n (c ∷ cs) none_here at in
        absurd (begins_so d c rest ds whole (turned c d not_this))
  ]
    where
      turned : (x y : ℕ) → (x == y) ≡ false → (y == x) ≡ false
      turned x y apart = elim (cases_Bool (y == x)) [
        | inr f ↦ f
        | inl f ↦ absurd (begins_so x y [] [] (ap (λ (z : ℕ). z ∷ []) (sym (eqb-true y x f))) apart)
      ]

  word_first : (n c : ℕ) (cs : List ℕ) → slice_get (boolean_words language) n ≡ Some (c ∷ cs) → begins_word c ≡ true → IsPlainFirst l c
  unfolding has_symbol
  word_first n c cs at word = record {
    before = decimal_cases l (λ d. stands_before d c ≡ true) (no_digits comma begin_none.comma) (no_digits dot begin_none.dot);
    symbol = λ ds. no_symbol ds;
    digit = no_digit c word;
    quote = other_than c quote word begin_none.quote;
    equals = other_than c equals word begin_none.equals;
    plus = other_than c plus word begin_none.plus;
    minus = other_than c minus word begin_none.minus;
  }
    where
      no_digits : (d : ℕ) → begins_word d ≡ false → stands_before d c ≡ true
      no_digits d none = rw (no_digit c word, other_than c d word none) refl

      no_symbol : (ds : List ℕ) → is_currency l (c ∷ ds) ≡ false
      no_symbol ds = rw (other_than c dollar word begin_none.dollar, other_than c euro word begin_none.euro) (symbol_apart l.currency.symbol are.formats.symbol n c cs ds at)

  -- a word in the form of a variable begins with a character that begins words
  form_first : (word : List ℕ) → is_variable_form word ≡ true → first_is begins_word word ≡ true
  form_first word form = (and_parts _ _ (and_parts _ _ (and_parts _ _ form).0).0).0

  boolean_typed : (b : Bool) (word : List ℕ) → slice_get (boolean_words language) (boolean_number b) ≡ Some word → typed l language beside word ≡ kinds.Boolean b
  unfolding has_boolean_words tells_booleans
  boolean_typed b word at = go word at (form_first word (passes_at is_variable_form (boolean_words language) (boolean_number b) word words.booleans at))
    where
      go : (text : List ℕ) → slice_get (boolean_words language) (boolean_number b) ≡ Some text → first_is begins_word text ≡ true → typed l language beside text ≡ kinds.Boolean b
      go [] e first = absurd (true≢false (sym first))
      go (c ∷ cs) e first =
          let plain = word_first (boolean_number b) c cs e first in
          let apart : no_two_agree (boolean_words language) ≡ true = rw (not-true _ words.booleans_told) refl in
          (typed_exactly l (tells_texts tables l are.formats) language beside (c ∷ cs) (kinds.Boolean b)).0
          (bare tables l language beside are.formats c cs plain, no_number l c cs plain, ap (λ o. option_or o (first_agreeing (boolean_words beside) (c ∷ cs))) (finds (boolean_words language) (boolean_number b) (c ∷ cs) apart e))

  -- no word for true or false agrees with a text that begins with the sign of errors
  no_boolean : (m : Language) → HasGoodWords tables m → (cs : List ℕ) → first_agreeing (boolean_words m) (hash ∷ cs) ≡ None
  unfolding has_boolean_words
  no_boolean m good cs = go (first_agreeing (boolean_words m) (hash ∷ cs)) refl
    where
      other : (w : List ℕ) → first_is begins_word w ≡ true → Agree w (hash ∷ cs) → ⊥
      other [] first agree = true≢false (sym first)
      other (c ∷ rest) first agree =
          let same = (fixed_first c hash rest (fold cs) refl (agree ∙ fold_fixed_first hash cs refl)).0 in
          true≢false (sym first ∙ ap begins_word same ∙ begin_none.hash)

      go : (o : Option ℕ) → first_agreeing (boolean_words m) (hash ∷ cs) ≡ o → o ≡ None
      go None e = refl
      go (Some n) e =
          let f = found_at (boolean_words m) (hash ∷ cs) n e in
          absurd (other f.0 (form_first f.0 (passes_at is_variable_form (boolean_words m) n f.0 good.booleans f.1)) f.2)

  error_typed : (e : Error) (word : List ℕ) → slice_get (error_words language) (error_number e) ≡ Some word → typed l language beside word ≡ kinds.Error e
  unfolding has_error_words
  error_typed e word at =
      let good = and_parts (list_all has_error_shape (error_words language)) (no_two_agree (error_words language)) words.errors in
      go word at (passes_at has_error_shape (error_words language) (error_number e) word good.0 at) good.1
    where
      from_hash : (cs : List ℕ) → slice_get (error_words language) (error_number e) ≡ Some (hash ∷ cs) → no_two_agree (error_words language) ≡ true → typed l language beside (hash ∷ cs) ≡ kinds.Error e
      from_hash cs is apart =
          let plain = hash_first tables l are.formats in
          (typed_exactly l (tells_texts tables l are.formats) language beside (hash ∷ cs) (kinds.Error e)).0 (
            bare tables l language beside are.formats hash cs plain,
            no_number l hash cs plain,
            ap (λ o. option_or o (first_agreeing (boolean_words beside) (hash ∷ cs))) (no_boolean language words cs) ∙ no_boolean beside words_beside cs,
            ap (λ o. option_or o (first_agreeing (error_words beside) (hash ∷ cs))) (finds (error_words language) (error_number e) (hash ∷ cs) apart is),
          )

      go : (text : List ℕ) → slice_get (error_words language) (error_number e) ≡ Some text → has_error_shape text ≡ true → no_two_agree (error_words language) ≡ true → typed l language beside text ≡ kinds.Error e
      go [] is shape apart = absurd (true≢false (sym shape))
      go (c ∷ []) is shape apart = absurd (true≢false (sym shape))
      go (c ∷ d ∷ cs) is shape apart =
          let same : c ≡ hash = eqb-true c hash (and_parts _ _ (and_parts _ _ shape).0).0 in
          subst (λ (x : ℕ). typed l language beside (x ∷ d ∷ cs) ≡ kinds.Error e) (sym same)
          (from_hash (d ∷ cs) (is ∙ ap (λ (x : ℕ). Some (x ∷ d ∷ cs)) same) apart)

pub booleans_again : (tables : TableSet) (l : Locale) (language beside : Language) (b : Bool) (word : List ℕ) → AreOfTables tables l language beside
    → slice_get (boolean_words language) (boolean_number b) ≡ Some word → typed l language beside word ≡ kinds.Boolean b
booleans_again tables l language beside b word are at = boolean_typed tables l language beside are b word at

pub errors_again : (tables : TableSet) (l : Locale) (language beside : Language) (e : Error) (word : List ℕ) → AreOfTables tables l language beside
    → slice_get (error_words language) (error_number e) ≡ Some word → typed l language beside word ≡ kinds.Error e
errors_again tables l language beside e word are at = error_typed tables l language beside are e word at

-- Texts and formulas. ----

pub texts_again : (tables : TableSet) (l : Locale) (language beside : Language) (typed_text text : List ℕ) → HasGoodFormats tables l → typed l language beside typed_text ≡ kinds.Text text → text ≡ typed_text
texts_again tables l language beside typed_text text good e =
    let is : IsTyped l language beside typed_text (kinds.Text text) = (typed_exactly l (tells_texts tables l good) language beside typed_text (kinds.Text text)).1 e in
    is.4

pub quoted_again : (l : Locale) (language beside : Language) (text : List ℕ) → typed l language beside (quote ∷ text) ≡ kinds.Quoted text
unfolding typed
quoted_again l language beside text = refl

pub formulas_again : (l : Locale) (language beside : Language) (formula : List ℕ) → formula ≢ [] → typed l language beside (equals ∷ formula) ≡ kinds.Formula formula
unfolding typed
formulas_again l language beside [] some = absurd (some refl)
formulas_again l language beside (c ∷ cs) some = refl
